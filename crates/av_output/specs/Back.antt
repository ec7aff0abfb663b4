-- The lines that objects tell: how what a report prints as JSON is read back as its text.
use Rattle.std.specs.Prelude.{ℕ, ◌≡◌, ◌||◌, List, [], ◌∷◌, ◌++◌, map, take, drop, get_or, codes, if◌then◌else◌}
use Rattle.std.specs.Str.{bytes_eq}
use Rattle.json.specs.Token.{Token, begin_object, end_object, begin_array, end_array, key, string, number, boolean, null, bad}
use Rattle.av_base.specs.Part.{spelt}
use Rattle.av_history.specs.declared.report.Judged.{Judged}
use Rattle.av_history.specs.declared.report.Report.{Report}
use Rattle.av_output.specs.Objects.{report_tokens}
use Rattle.av_output.specs.Objects.Lines.{judged_tokens}
use Rattle.av_output.specs.Text.{report_text}
use Rattle.av_output.specs.Text.Lines.{judged_text}
use Rattle.av_history.specs.World.{WorldState}

-- a word in front of those of the first object
abbrev pub onto : List ℕ → List (List (List ℕ)) → List (List (List ℕ))
onto word [] = (word ∷ []) ∷ []
onto word (words ∷ objects) = (word ∷ words) ∷ objects

-- the words of each object, in order: the name of each member, and its text or number
abbrev pub objects_in : List Token → List (List (List ℕ))
objects_in [] = []
objects_in (begin_object ∷ ts) = objects_in ts
objects_in (end_object ∷ ts) = [] ∷ objects_in ts
objects_in (begin_array ∷ ts) = objects_in ts
objects_in (end_array ∷ ts) = objects_in ts
objects_in (key word ∷ ts) = onto word (objects_in ts)
objects_in (string word ∷ ts) = onto word (objects_in ts)
objects_in (number word ∷ ts) = onto word (objects_in ts)
objects_in (boolean b ∷ ts) = objects_in ts
objects_in (null ∷ ts) = objects_in ts
objects_in (bad ∷ ts) = objects_in ts

-- one of an object's words, counted from 0
abbrev pub at : ℕ → List (List ℕ) → List ℕ
at k words = get_or words k []

-- words behind others on their line, and its end
abbrev pub behind : List (List ℕ) → List ℕ
behind [] = 10 ∷ []
behind (word ∷ words) = 32 ∷ (word ++ behind words)

-- an id, and words behind it
abbrev pub id_behind : List ℕ → List ℕ → List (List ℕ) → List ℕ
id_behind boot seq words = 32 ∷ (boot ++ 46 ∷ (seq ++ behind words))

-- the words of a verdict, behind its name, and what follows them
abbrev pub verdict_words : List (List ℕ) → List (List ℕ)
verdict_words words =
    if bytes_eq (at 1 words) (codes "infected") then at 1 words ∷ at 3 words ∷ at 4 words ∷ at 5 words ∷ drop 6 words
    else at 1 words ∷ drop 2 words

-- how a question ended
abbrev pub outcome_words : List (List ℕ) → List (List ℕ)
outcome_words words =
    if bytes_eq (at 0 words) (codes "version") then at 0 words ∷ at 1 words ∷ verdict_words (drop 2 words)
    else at 1 words ∷ at 3 words ∷ drop 4 words

-- a message with an id: its place, its kind, and words behind its id
abbrev pub message_back : List (List ℕ) → List (List ℕ) → List ℕ
message_back words rest = at 2 words ++ 32 ∷ (at 3 words ++ 32 ∷ (at 1 words ++ id_behind (at 5 words) (at 7 words) rest))

-- what an open was told, by so many words behind its number
abbrev pub open_back : List (List ℕ) → ℕ → List ℕ
open_back words count = codes "open" ++ behind (at 3 words ∷ at 1 words ∷ take count (drop 4 words))

-- the line of an object, by its kind
abbrev pub line_by : List ℕ → List (List ℕ) → List ℕ
line_by kind words =
    if bytes_eq kind (codes "granted") then open_back words 8
    else if bytes_eq kind (codes "unscanned") then open_back words 6
    else if bytes_eq kind (codes "denied") then open_back words 2
    else if bytes_eq kind (codes "pended") then open_back words 0
    else if bytes_eq kind (codes "work") then
    codes "work" ++ 32 ∷ (at 3 words ++ 32 ∷ (codes "lent" ++ id_behind (at 5 words) (at 7 words) (drop 8 words)))
    else if bytes_eq kind (codes "hello") then at 2 words ++ behind (at 3 words ∷ kind ∷ drop 4 words)
    else if bytes_eq kind (codes "updated") then at 2 words ++ behind (at 3 words ∷ kind ∷ drop 5 words)
    else if bytes_eq kind (codes "reply") then message_back words (outcome_words (drop 8 words))
    else if bytes_eq kind (codes "scan") || bytes_eq kind (codes "chunk") || bytes_eq kind (codes "nochunk")
    || bytes_eq kind (codes "abort") || bytes_eq kind (codes "read") then message_back words (drop 8 words)
    else if bytes_eq kind (codes "judge") then
    kind ++ behind (at 3 words ∷ at 4 words ∷ at 5 words ∷ at 6 words ∷ at 7 words ∷ verdict_words (drop 8 words))
    else if bytes_eq kind (codes "removed") then kind ++ behind (drop 3 words)
    else at 2 words ++ behind (drop 3 words)

-- the line of an object
abbrev pub line_back : List (List ℕ) → List ℕ
line_back words = line_by (at 1 words) words

-- the lines of objects
abbrev pub text_back : List Token → List ℕ
text_back ts = spelt (map line_back (objects_in ts))

-- the objects of a report lead back to its text
abbrev pub ObjectsTellText : Type 0
ObjectsTellText = (w : WorldState) (r : Report) → text_back (report_tokens w r) ≡ report_text w r

-- the object of a judgement leads back to its line
abbrev pub JudgementTellsText : Type 0
JudgementTellsText = (j : Judged) → text_back (judged_tokens j) ≡ judged_text j
