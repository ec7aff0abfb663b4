-- What is granted, put together with what clients wrote and what a service said.
use Rattle.std.specs.Prelude.{ℕ, ◌≡◌, List, [], ◌∷◌, ◌++◌, Option, None, Some, Result, Ok, Err}
use Rattle.std.specs.List.{AllByRecursion}
use Rattle.av_base.specs.Among.{Among}
use Rattle.av_base.specs.declared.verdict.Verdict.TheVariants.{Clean}
use Rattle.av_large.specs.Calls.{begun_by}
use Rattle.av_large.specs.Run.{Event, Begin, Bring, End, Hears, Leaves, Loses, step_of, told_in}
use Rattle.av_large.specs.State.{State, Step, at_first}
use Rattle.av_large.specs.declared.answer.Answer.{Answer}
use Rattle.av_large.specs.declared.answer.Answer.TheVariants.{Granted}
use Rattle.av_large.specs.declared.answer.Told.{Told}
use Rattle.av_large.specs.declared.content.Ending.{Ending}
use Rattle.av_large.specs.declared.content.Ending.TheVariants.{Whole, GivenUp}
use Rattle.av_large.specs.declared.fault.BeginFault.{BeginFault}
use Rattle.av_match.specs.Match.{verdict}
use Rattle.av_match.specs.Scanning.{AreSolid, Compiled}
use Rattle.av_parts.specs.Course.{Happening, IsRightThen, judged, orders_of, sets_of}
use Rattle.av_parts.specs.Judge.{Judging, at, begun, with, without}
use Rattle.av_parts.specs.Orders.{Order}
use Rattle.av_parts.specs.declared.word.Word.{Word}

-- ---- what clients wrote

-- a content that a client wrote in parts, from its beginning to the end that says that it is whole
pub record Written : Type 0 where
  pub client : ℕ
  pub tag : ℕ
  pub content : List ℕ

-- of each client that is within a content its tag, and the bytes so far
abbrev pub Writing : Type 0
Writing = List (ℕ × (ℕ × List ℕ))

-- a content begins, unless it is refused
abbrev pub begun_in : Writing → ℕ → ℕ → Result Step BeginFault → Writing
begun_in writing client tag (Ok step) = with writing client (tag, [])
begun_in writing client tag (Err why) = writing

abbrev pub grown_in : Writing → ℕ → List ℕ → Option (ℕ × List ℕ) → Writing
grown_in writing client some None = writing
grown_in writing client some (Some so_far) = with writing client (so_far.0, so_far.1 ++ some)

-- what clients are within after an event
abbrev pub writing_after : State → Writing → Event → Writing
writing_after g writing (Begin service client tag most) = begun_in writing client tag (begun_by g service client tag most)
writing_after g writing (Bring client some) = grown_in writing client some (at writing client)
writing_after g writing (End client ending) = without writing client
writing_after g writing (Leaves client) = without writing client
writing_after g writing e = writing

abbrev pub whole_of : ℕ → Ending → Option (ℕ × List ℕ) → List Written
whole_of client Whole (Some so_far) = record { client = client; tag = so_far.0; content = so_far.1 } ∷ []
whole_of client Whole None = []
whole_of client GivenUp so_far = []

-- the content that an event makes whole
abbrev pub written_by : Writing → Event → List Written
written_by writing (End client ending) = whole_of client ending (at writing client)
written_by writing e = []

-- the contents that were written whole
unfoldable pub written_in : State → Writing → List Event → List Written
written_in g writing [] = []
written_in g writing (e ∷ es) = written_by writing e ++ written_in (step_of g e).state (writing_after g writing e) es

-- ---- what the service said

-- what was sent over the second connection that is there
abbrev pub sent_after : List Order → Event → List Order → List Order
sent_after sent Loses orders = []
sent_after sent e orders = sent ++ orders

-- a word that comes was right of a front of what was sent over this connection
abbrev pub IsSaidRight : List Compiled → List Order → Event → Type 0
IsSaidRight sets sent (Hears floor w) = IsRightThen sets sent w
IsSaidRight sets sent e = Unit {0}

unfoldable pub SaysRight : List Compiled → State → List Order → List Event → Type 0
SaysRight sets g sent [] = Unit {0}
SaysRight sets g sent (e ∷ es) = IsSaidRight sets sent e × SaysRight sets (step_of g e).state (sent_after sent e (step_of g e).orders) es

-- each word of a judge that obeyed a front of what was sent is right of it
abbrev pub JudgesSayRight : Type 0
JudgesSayRight =
    (set : Compiled) (hs : List Happening) (j : Judging) (words : List Word) → judged hs (begun set) [] ≡ Ok (j, words)
    → AllByRecursion (λ (s : Compiled). AreSolid s.patterns) (sets_of set hs)
    → (sent more : List Order) → sent ≡ orders_of hs ++ more
    → AllByRecursion (IsRightThen (sets_of set hs) sent) words

-- ---- grants are clean

-- a content that was granted was written whole by this client under this tag, and is clean under a set of the version that is named
abbrev pub IsJust : List Compiled → List Written → Told → Answer → Type 0
IsJust sets written t (Granted version) =
    (a : Written) × Among a written × (t.client ≡ a.client) × (t.tag ≡ a.tag)
    × ((set : Compiled) × Among set sets × (set.version ≡ version) × (verdict set.patterns a.content ≡ Clean))
IsJust sets written t answer = Unit {0}

-- of every list of events, over however many second connections
abbrev pub LargeGrantsAreClean : Type 0
LargeGrantsAreClean =
    (es : List Event) (sets : List Compiled) → SaysRight sets at_first [] es
    → AllByRecursion (λ (t : Told). IsJust sets (written_in at_first [] es) t t.answer) (told_in at_first es)

-- ---- put together with a judge behind each connection

-- A word was said by a judge over the connection over which these orders were sent. It began with a set, and what happened to it is
-- orders that were sent, the first of all, and newer sets. All its sets are among these.
pub record IsOfJudge (sets : List Compiled) (sent : List Order) (w : Word) : Type 0 where
  pub set : Compiled
  pub happened : List Happening
  pub judging : Judging
  pub words : List Word
  pub more : List Order
  pub went : judged happened (begun set) [] ≡ Ok (judging, words)
  pub said : Among w words
  pub obeyed : sent ≡ orders_of happened ++ more
  pub known : AllByRecursion (λ (s : Compiled). Among s sets) (sets_of set happened)

abbrev pub IsSaidByJudge : List Compiled → List Order → Event → Type 0
IsSaidByJudge sets sent (Hears floor w) = IsOfJudge sets sent w
IsSaidByJudge sets sent e = Unit {0}

-- each word that comes was said by a judge over its connection
unfoldable pub AreOfJudges : List Compiled → State → List Order → List Event → Type 0
AreOfJudges sets g sent [] = Unit {0}
AreOfJudges sets g sent (e ∷ es) = IsSaidByJudge sets sent e × AreOfJudges sets (step_of g e).state (sent_after sent e (step_of g e).orders) es

-- then grants are clean; patterns have 1 to 64 bytes, as those of every signature set
abbrev pub JudgedGrantsAreClean : Type 0
JudgedGrantsAreClean =
    (es : List Event) (sets : List Compiled) → AllByRecursion (λ (s : Compiled). AreSolid s.patterns) sets → AreOfJudges sets at_first [] es
    → AllByRecursion (λ (t : Told). IsJust sets (written_in at_first [] es) t t.answer) (told_in at_first es)
