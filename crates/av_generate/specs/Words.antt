-- The words of a command, by its verb and what there is to see of the world.
use Rattle.std.specs.Prelude.{ℕ, zero, suc, ◌+◌, ◌-◌, ◌^◌, ◌==◌, min, max, nat_lt, List, [], ◌∷◌, ◌++◌, unwrap_or, codes, decimal, length, slice_index, if◌then◌else◌}
use Rattle.av_generate.specs.Draws.{below}
use Rattle.av_generate.specs.declared.sight.Sight.{Sight}
use Rattle.av_generate.specs.declared.verb.Verb.{Verb}
use Rattle.av_generate.specs.declared.verb.Verb.TheVariants.{Publish, Create, Write, Cut, Remove, Judge, Open, Cleanup, Connect, Down, Up, Work, Timeout, DisconnectFilter, DisconnectService, RestartFilter, RestartService}

-- a text, and the state of the draws after it
abbrev pub Drawn : Type 0
Drawn = List ℕ × ℕ

-- a text in front of another
abbrev pub behind : List ℕ → Drawn → Drawn
behind front rest = (front ++ rest.0, rest.1)

-- a number that no u64 exceeds
abbrev pub capped : ℕ → ℕ
capped n = min n (2 ^ 64 - 1)

-- the digits of a number
abbrev pub digits : ℕ → List ℕ
digits n = decimal (capped n)

-- one of three names, the first as often as the others together
unfoldable pub name_drawn : ℕ → Drawn
name_drawn s = let d = below 8 s in (if nat_lt d.0 4 then codes "a" else if nat_lt d.0 7 then codes "b" else codes "c", d.1)

-- a byte in hexadecimal: 41 or 42
unfoldable pub byte_drawn : ℕ → Drawn
byte_drawn s = let d = below 2 s in (if d.0 == 0 then codes "41" else codes "42", d.1)

-- so many bytes
abbrev pub bytes_drawn : ℕ → ℕ → Drawn
bytes_drawn zero s = ([], s)
bytes_drawn (suc n) s = let b = byte_drawn s in behind b.0 (bytes_drawn n b.1)

-- from `least` bytes on one of so many lengths
unfoldable pub hex_drawn : ℕ → ℕ → ℕ → Drawn
hex_drawn least lengths s = let d = below lengths s in bytes_drawn (least + d.0) d.1

-- a hyphen for no bytes
abbrev pub or_hyphen : List ℕ → List ℕ
or_hyphen [] = codes "-"
or_hyphen (b ∷ bs) = b ∷ bs

-- a content: up to four bytes
unfoldable pub content_drawn : ℕ → Drawn
content_drawn s = let t = hex_drawn 0 5 s in (or_hyphen t.0, t.1)

-- so many patterns of one byte or two
abbrev pub patterns_drawn : ℕ → ℕ → Drawn
patterns_drawn zero s = ([], s)
patterns_drawn (suc n) s = let t = hex_drawn 1 2 s in behind (codes " " ++ t.0) (patterns_drawn n t.1)

-- how far a version lies above the latest: mostly by one
unfoldable pub rise_drawn : ℕ → ℕ × ℕ
rise_drawn s = let d = below 5 s in (if d.0 == 3 then 2 else if d.0 == 4 then 0 else 1, d.1)

-- a publication of up to two patterns
unfoldable pub publish_drawn : ℕ → ℕ → Drawn
publish_drawn latest s =
    let r = rise_drawn s in
    let n = below 3 r.1 in behind (codes "publish " ++ digits (latest + r.0)) (patterns_drawn n.0 n.1)

-- mostly at the start of the content
unfoldable pub offset_drawn : ℕ → ℕ × ℕ
offset_drawn s = let d = below 4 s in if d.0 == 0 then below 6 d.1 else (0, d.1)

-- the words of a write
abbrev pub write_words : List ℕ → ℕ → List ℕ → List ℕ
write_words name offset content = codes "write " ++ (name ++ (codes " " ++ (digits offset ++ (codes " " ++ content))))

-- a verb with a name and a number
abbrev pub named_number : List ℕ → List ℕ → ℕ → List ℕ
named_number verb name number = verb ++ (name ++ (codes " " ++ digits number))

unfoldable pub write_drawn : ℕ → Drawn
write_drawn s =
    let n = name_drawn s in
    let o = offset_drawn n.1 in
    let c = content_drawn o.1 in (write_words n.0 o.0 c.0, c.1)

unfoldable pub cut_drawn : ℕ → Drawn
cut_drawn s =
    let n = name_drawn s in
    let d = below 4 n.1 in (named_number (codes "cut ") n.0 d.0, d.1)

-- an open with a least version: the latest or one of the two above it
unfoldable pub least_drawn : List ℕ → ℕ → ℕ → Drawn
least_drawn name latest s =
    let v = below 3 s in (named_number (codes "open ") name (latest + v.0), v.1)

-- an open, one in eight with a least version
unfoldable pub open_drawn : ℕ → ℕ → Drawn
open_drawn latest s =
    let n = name_drawn s in
    let d = below 8 n.1 in
    if d.0 == 0 then least_drawn n.0 latest d.1 else (codes "open " ++ n.0, d.1)

-- one of the last two places of a list that counts from 1
unfoldable pub last_drawn : ℕ → ℕ → ℕ × ℕ
last_drawn count s = let d = below 2 s in (max (count - d.0) 1, d.1)

-- any of its places
unfoldable pub any_drawn : ℕ → ℕ → ℕ × ℕ
any_drawn count s = let d = below count s in (1 + d.0, d.1)

-- a place of such a list: in 5 of 8 draws one of the last two, in one past its end, and else any
unfoldable pub place_drawn : ℕ → ℕ → ℕ × ℕ
place_drawn count s =
    let d = below 8 s in
    if count == 0 then (1, d.1)
    else if d.0 == 7 then (capped (count + 1), d.1)
    else if nat_lt d.0 5 then last_drawn count d.1
    else any_drawn count d.1

-- any of these numbers
unfoldable pub pick_drawn : List ℕ → ℕ → ℕ × ℕ
pick_drawn ks s = let d = below (length ks) s in (slice_index ks d.0, d.1)

-- a piece of work: in 7 of 8 draws one of those that are lent, if any is
unfoldable pub work_drawn : ℕ → List ℕ → ℕ → ℕ × ℕ
work_drawn works lent s =
    if length lent == 0 then place_drawn works s
    else (let d = below 8 s in if d.0 == 0 then place_drawn works d.1 else pick_drawn lent d.1)

-- the last question or one of the two before it
unfoldable pub question_drawn : ℕ → ℕ → ℕ × ℕ
question_drawn asked s = let d = below 3 s in (asked - d.0, d.1)

-- a verb with a name, or with a number
abbrev pub named : List ℕ → Drawn → Drawn
named verb d = (verb ++ d.0, d.1)

abbrev pub numbered : List ℕ → ℕ × ℕ → Drawn
numbered verb d = (verb ++ digits d.0, d.1)

-- the words of a verb, by what there is to see of the world and the works that are lent
unfoldable pub words_drawn : Sight → List ℕ → Verb → ℕ → Drawn
words_drawn w lent Publish s = publish_drawn (unwrap_or w.latest 0) s
words_drawn w lent Create s = named (codes "create ") (name_drawn s)
words_drawn w lent Write s = write_drawn s
words_drawn w lent Cut s = cut_drawn s
words_drawn w lent Remove s = named (codes "remove ") (name_drawn s)
words_drawn w lent Judge s = named (codes "judge ") (name_drawn s)
words_drawn w lent Open s = open_drawn (unwrap_or w.latest 0) s
words_drawn w lent Cleanup s = named (codes "cleanup ") (name_drawn s)
words_drawn w lent Connect s = (codes "connect", s)
words_drawn w lent Down s = numbered (codes "down ") (place_drawn w.down s)
words_drawn w lent Up s = numbered (codes "up ") (place_drawn w.up s)
words_drawn w lent Work s = numbered (codes "work ") (work_drawn w.works lent s)
words_drawn w lent Timeout s = numbered (codes "timeout ") (question_drawn w.asked s)
words_drawn w lent DisconnectFilter s = (codes "disconnect filter", s)
words_drawn w lent DisconnectService s = (codes "disconnect service", s)
words_drawn w lent RestartFilter s = (codes "restart filter", s)
words_drawn w lent RestartService s = (codes "restart service", s)
