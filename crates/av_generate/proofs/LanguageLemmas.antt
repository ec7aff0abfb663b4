use Rattle.std.proofs.Common.{ℕ, zero, suc, ◌≡◌, ◌<◌, ◌+◌, ◌^◌, ◌&&◌, true, false, nat_eq, nat_lt, List, [], ◌∷◌, ◌++◌, cond, Option, None, Some, map, refl, ap, ◌∙◌, arith, decimal, append-nil}
use Rattle.std.specs.Prelude.{codes, unwrap_or}
use Rattle.std.specs.List.{list_all}
use Rattle.std.specs.Option.{option_map}
use Rattle.av_base.specs.Decimal.{decimal_of}
use Rattle.av_base.specs.Line.{pieces_of}
use Rattle.av_base.specs.declared.limits.LimitField.{LimitField}
use Rattle.av_base.specs.declared.limits.LimitField.TheVariants.{Streams, Length, Generation, Questions, Pended, Jobs, Cache, Chunk, Audit}
use Rattle.av_base.specs.declared.mode.Mode.{Mode}
use Rattle.av_base.specs.declared.mode.Mode.TheVariants.{FailClosed, FailOpen}
use Rattle.av_sigset.proofs.SpellingLemmas.{decimal_read}
use Rattle.av_script.specs.Script.Grammar.{Limit, Volume, Says, content_in, cut_line, is_content, is_pattern, least_of, limit_line, limit_of, line_of, number_line, pattern_in, publish_line, when, write_line}
use Rattle.av_script.specs.Script.Words.{one_word, three_words, two_words, with_first}
use Rattle.av_history.specs.World.{WorldState}
use Rattle.av_history.specs.declared.event.Event.TheVariants as event
use Rattle.av_script.specs.declared.command.Command.{Command}
use Rattle.av_script.specs.declared.command.Command.TheVariants as command
use Rattle.av_generate.proofs.HexLemmas.{bytes_are_content, bytes_are_pattern, bytes_lack, content_lacks}
use Rattle.av_generate.proofs.NumberLemmas.{decimal_lacks}
use Rattle.av_generate.proofs.PieceLemmas.{Lacks, first_piece, one_piece}
use Rattle.av_generate.specs.Course.{carried_drawn, fresh_words, in_spell, next_words, verb_words, words_after}
use Rattle.av_generate.specs.Draws.{below}
use Rattle.av_generate.specs.Head.{field_word, limit_words, volume_words}
use Rattle.av_generate.specs.Language.{EachCommandIsOfTheLanguage, EachSettingIsOfTheLanguage, IsCommandLine}
use Rattle.av_generate.specs.Words.{capped, content_drawn, cut_drawn, digits, bytes_drawn, hex_drawn, least_drawn, name_drawn, named_number, open_drawn, or_hyphen, patterns_drawn, publish_drawn, words_drawn, write_drawn, write_words}
use Rattle.av_generate.specs.declared.fresh.Fresh.{Fresh}
use Rattle.av_generate.specs.declared.fresh.Fresh.TheVariants as fresh
use Rattle.av_generate.specs.declared.generator.Generator.{Generator}
use Rattle.av_generate.specs.declared.sight.Sight.{Sight}
use Rattle.av_generate.specs.declared.verb.Verb.{Verb}
use Rattle.av_generate.specs.declared.verb.Verb.TheVariants as verb

-- the digits of a number are one word, which is read as the number

fits : (n : ℕ) → capped n < 2 ^ 64
fits n = omega arith

word_of : (n : ℕ) → pieces_of 32 (digits n) ≡ digits n ∷ []
word_of n = one_piece 32 (digits n) (decimal_lacks (capped n) (fits n))

read : (n : ℕ) → decimal_of (digits n) ≡ Some (capped n)
read n = decimal_read (capped n) (fits n)

-- what holds of the three names holds of the one that is drawn
by_name : (P : List ℕ → Type 0) → P (codes "a") → P (codes "b") → P (codes "c") → (s : ℕ) → P (name_drawn s).0
unfolding name_drawn
by_name P a b c s =
    let k = (below 8 s).0 in
    elim (nat_lt k 4) as (λ v. P (cond v (codes "a") (cond (nat_lt k 7) (codes "b") (codes "c")))) [
      | true ↦ a
      | false ↦ elim (nat_lt k 7) as (λ v. P (cond v (codes "b") (codes "c"))) [ true ↦ b | false ↦ c ]
    ]

-- a verb with a number

number_read : (f : ℕ → Command) (n : ℕ) → number_line f (one_word (pieces_of 32 (digits n))) ≡ Some (Says (f (capped n)))
number_read f n = ap (λ ws. number_line f (one_word ws)) (word_of n) ∙ ap (option_map (λ k. Says (f k))) (read n)

down_line : (n : ℕ) → IsCommandLine (codes "down " ++ digits n)
down_line n = (command.Step (event.Down (capped n)), number_read (λ k. command.Step (event.Down k)) n)

up_line : (n : ℕ) → IsCommandLine (codes "up " ++ digits n)
up_line n = (command.Step (event.Up (capped n)), number_read (λ k. command.Step (event.Up k)) n)

work_line : (n : ℕ) → IsCommandLine (codes "work " ++ digits n)
work_line n = (command.Step (event.Run (capped n)), number_read (λ k. command.Step (event.Run k)) n)

timeout_line : (n : ℕ) → IsCommandLine (codes "timeout " ++ digits n)
timeout_line n = (command.Step (event.Timeout (capped n)), number_read (λ k. command.Step (event.Timeout k)) n)

fresh_line : (f : Fresh) → IsCommandLine (fresh_words f)
fresh_line (fresh.Down n) = down_line n
fresh_line (fresh.Up n) = up_line n
fresh_line (fresh.Work n) = work_line n

-- a verb with a name

create_line : (s : ℕ) → IsCommandLine (codes "create " ++ (name_drawn s).0)
create_line s = by_name (λ a. IsCommandLine (codes "create " ++ a)) (_, refl) (_, refl) (_, refl) s

remove_line : (s : ℕ) → IsCommandLine (codes "remove " ++ (name_drawn s).0)
remove_line s = by_name (λ a. IsCommandLine (codes "remove " ++ a)) (_, refl) (_, refl) (_, refl) s

judge_line : (s : ℕ) → IsCommandLine (codes "judge " ++ (name_drawn s).0)
judge_line s = by_name (λ a. IsCommandLine (codes "judge " ++ a)) (_, refl) (_, refl) (_, refl) s

cleanup_line : (s : ℕ) → IsCommandLine (codes "cleanup " ++ (name_drawn s).0)
cleanup_line s = by_name (λ a. IsCommandLine (codes "cleanup " ++ a)) (_, refl) (_, refl) (_, refl) s

-- a cut

cut_read : (b : ℕ) (bs : List ℕ) (n : ℕ) → cut_line (two_words ((b ∷ bs) ∷ pieces_of 32 (digits n))) ≡ Some (Says (command.Step (event.Cut (b ∷ bs) (capped n))))
cut_read b bs n =
    ap (λ ws. cut_line (two_words ((b ∷ bs) ∷ ws))) (word_of n)
    ∙ ap (option_map (λ k. Says (command.Step (event.Cut (b ∷ bs) k)))) (read n)

cut_command : (n s : ℕ) → IsCommandLine (named_number (codes "cut ") (name_drawn s).0 n)
cut_command n s =
    by_name (λ a. IsCommandLine (named_number (codes "cut ") a n)) (_, cut_read 97 [] n) (_, cut_read 98 [] n) (_, cut_read 99 [] n) s

cut_any : (s : ℕ) → IsCommandLine (cut_drawn s).0
unfolding cut_drawn
cut_any s = cut_command _ s

-- an open

open_read : (b : ℕ) (bs : List ℕ) (n : ℕ)
    → option_map (λ k. Says (command.Step (event.Open (b ∷ bs) k))) (least_of (pieces_of 32 (digits n))) ≡ Some (Says (command.Step (event.Open (b ∷ bs) (capped n))))
open_read b bs n =
    ap (λ ws. option_map (λ k. Says (command.Step (event.Open (b ∷ bs) k))) (least_of ws)) (word_of n)
    ∙ ap (option_map (λ k. Says (command.Step (event.Open (b ∷ bs) k)))) (read n)

least_command : (n s : ℕ) → IsCommandLine (named_number (codes "open ") (name_drawn s).0 n)
least_command n s =
    by_name (λ a. IsCommandLine (named_number (codes "open ") a n)) (_, open_read 97 [] n) (_, open_read 98 [] n) (_, open_read 99 [] n) s

plain_open : (s : ℕ) → IsCommandLine (codes "open " ++ (name_drawn s).0)
plain_open s = by_name (λ a. IsCommandLine (codes "open " ++ a)) (_, refl) (_, refl) (_, refl) s

open_command : (latest s : ℕ) → IsCommandLine (open_drawn latest s).0
unfolding open_drawn least_drawn
open_command latest s =
    let d = below 8 (name_drawn s).1 in
    elim (nat_eq d.0 0) as (λ v. IsCommandLine (cond v (least_drawn (name_drawn s).0 latest d.1) (codes "open " ++ (name_drawn s).0, d.1)).0) [
      | true ↦ least_command (latest + (below 3 d.1).0) s
      | false ↦ plain_open s
    ]

-- a write

write_read : (b : ℕ) (bs : List ℕ) (o : ℕ) (content : List ℕ) → Lacks 32 content → is_content content ≡ true
    → write_line (three_words ((b ∷ bs) ∷ pieces_of 32 (digits o ++ (32 ∷ content))))
    ≡ Some (Says (command.Step (event.Write (b ∷ bs) (capped o) (content_in content))))
write_read b bs o content lacks is =
    let pieces = first_piece 32 (digits o) content (decimal_lacks (capped o) (fits o)) ∙ ap (λ ws. digits o ∷ ws) (one_piece 32 content lacks) in
    ap (λ ws. write_line (three_words ((b ∷ bs) ∷ ws))) pieces
    ∙ ap (λ v. when v (option_map (λ k. Says (command.Step (event.Write (b ∷ bs) k (content_in content)))) (decimal_of (digits o)))) is
    ∙ ap (option_map (λ k. Says (command.Step (event.Write (b ∷ bs) k (content_in content))))) (read o)

content_line : (o n t s : ℕ) → IsCommandLine (write_words (name_drawn s).0 o (or_hyphen (bytes_drawn n t).0))
content_line o n t s =
    let content = or_hyphen (bytes_drawn n t).0 in
    let lacks = content_lacks n t in
    let is = bytes_are_content n t in
    by_name (λ a. IsCommandLine (write_words a o content))
    (_, write_read 97 [] o content lacks is)
    (_, write_read 98 [] o content lacks is)
    (_, write_read 99 [] o content lacks is)
    s

write_command : (s : ℕ) → IsCommandLine (write_drawn s).0
unfolding write_drawn content_drawn hex_drawn
write_command s = content_line _ _ _ s

-- a publication

-- the words behind a first word: patterns, each a word
patterns_read : (n s : ℕ) (d : List ℕ) → Lacks 32 d
    → (ws : List (List ℕ)) × (pieces_of 32 (d ++ (patterns_drawn n s).0) ≡ d ∷ ws) × (list_all is_pattern ws ≡ true)
unfolding hex_drawn
patterns_read zero s d lacks = ([], ap (pieces_of 32) (append-nil d) ∙ one_piece 32 d lacks, refl)
patterns_read (suc n) s d lacks =
    let k = below 2 s in
    let text = (bytes_drawn (1 + k.0) k.1).0 in
    let here = bytes_lack 32 (1 + k.0) k.1 refl refl refl in
    let r = patterns_read n (bytes_drawn (1 + k.0) k.1).1 text here in
    let one : 1 + k.0 ≡ suc k.0 = omega arith in
    let is : is_pattern text ≡ true = ap (λ m. is_pattern (bytes_drawn m k.1).0) one ∙ bytes_are_pattern k.0 k.1 in (
      text ∷ r.0,
      first_piece 32 d (text ++ (patterns_drawn n (bytes_drawn (1 + k.0) k.1).1).0) lacks ∙ ap (λ ws. d ∷ ws) r.1,
      ap (λ v. v && list_all is_pattern r.0) is ∙ r.2,
    )

publish_read : (v n s : ℕ) → IsCommandLine ((codes "publish " ++ digits v) ++ (patterns_drawn n s).0)
publish_read v n s =
    let r = patterns_read n s (digits v) (decimal_lacks (capped v) (fits v)) in (
      _,
      ap publish_line r.1
          ∙ ap (λ x. when x (option_map (λ k. Says (command.Step (event.Publish k (map pattern_in r.0)))) (decimal_of (digits v)))) r.2
          ∙ ap (option_map (λ k. Says (command.Step (event.Publish k (map pattern_in r.0))))) (read v),
    )

publish_command : (latest s : ℕ) → IsCommandLine (publish_drawn latest s).0
unfolding publish_drawn
publish_command latest s = publish_read _ _ _

-- any verb

verb_line : (w : Sight) (lent : List ℕ) (v : Verb) (s : ℕ) → IsCommandLine (words_drawn w lent v s).0
unfolding words_drawn
verb_line w lent verb.Publish s = publish_command (unwrap_or w.latest 0) s
verb_line w lent verb.Create s = create_line s
verb_line w lent verb.Write s = write_command s
verb_line w lent verb.Cut s = cut_any s
verb_line w lent verb.Remove s = remove_line s
verb_line w lent verb.Judge s = judge_line s
verb_line w lent verb.Open s = open_command (unwrap_or w.latest 0) s
verb_line w lent verb.Cleanup s = cleanup_line s
verb_line w lent verb.Connect s = (_, refl)
verb_line w lent verb.Down s = down_line _
verb_line w lent verb.Up s = up_line _
verb_line w lent verb.Work s = work_line _
verb_line w lent verb.Timeout s = timeout_line _
verb_line w lent verb.DisconnectFilter s = (_, refl)
verb_line w lent verb.DisconnectService s = (_, refl)
verb_line w lent verb.RestartFilter s = (_, refl)
verb_line w lent verb.RestartService s = (_, refl)

words_line : (w : WorldState) (o : Option Fresh) (g : Generator) → IsCommandLine (words_after w (o, g)).0
unfolding verb_words
words_line w (Some f) g = fresh_line f
words_line w None g = verb_line _ _ _ _

pub each_command : EachCommandIsOfTheLanguage
unfolding next_words
each_command g w = let c = carried_drawn (in_spell g) in words_line w c.0 c.1

-- the head

limit_read : (which : LimitField) (value : ℕ) → value < 2 ^ 64
    → limit_of (Some which) (decimal_of (decimal value)) ≡ Some (Limit which value)
limit_read which value h = ap (limit_of (Some which)) (decimal_read value h)

named_field : (which : LimitField) (value : ℕ) → value < 2 ^ 64 → limit_line (Some (field_word which, decimal value)) ≡ Some (Limit which value)
named_field Streams value h = limit_read Streams value h
named_field Length value h = limit_read Length value h
named_field Generation value h = limit_read Generation value h
named_field Questions value h = limit_read Questions value h
named_field Pended value h = limit_read Pended value h
named_field Jobs value h = limit_read Jobs value h
named_field Cache value h = limit_read Cache value h
named_field Chunk value h = limit_read Chunk value h
named_field Audit value h = limit_read Audit value h

limit_piece : (which : LimitField) (value : ℕ) → value < 2 ^ 64
    → limit_line (with_first (field_word which) (one_word (pieces_of 32 (decimal value)))) ≡ Some (Limit which value)
limit_piece which value h =
    ap (λ ws. limit_line (with_first (field_word which) (one_word ws))) (one_piece 32 (decimal value) (decimal_lacks value h)) ∙ named_field which value h

limit_line_of : (which : LimitField) (value : ℕ) → value < 2 ^ 64 → line_of (limit_words which value) ≡ Some (Limit which value)
limit_line_of Streams value h = limit_piece Streams value h
limit_line_of Length value h = limit_piece Length value h
limit_line_of Generation value h = limit_piece Generation value h
limit_line_of Questions value h = limit_piece Questions value h
limit_line_of Pended value h = limit_piece Pended value h
limit_line_of Jobs value h = limit_piece Jobs value h
limit_line_of Cache value h = limit_piece Cache value h
limit_line_of Chunk value h = limit_piece Chunk value h
limit_line_of Audit value h = limit_piece Audit value h

volume_line_of : (mode : Mode) → line_of (volume_words mode) ≡ Some (Volume 1 mode)
volume_line_of FailClosed = refl
volume_line_of FailOpen = refl

pub each_setting : EachSettingIsOfTheLanguage
each_setting = (limit_line_of, volume_line_of)
