-- What happens to a judge over a connection, and that each word was right when it was said.
use Rattle.std.specs.Prelude.{ℕ, ◌≡◌, ◌≤◌, List, [], ◌∷◌, ◌++◌, length, None, Some, Result, Ok, Err}
use Rattle.std.specs.List.{AllByRecursion}
use Rattle.av_base.specs.Among.{Among}
use Rattle.av_base.specs.declared.verdict.Verdict.TheVariants.{Clean, Infected}
use Rattle.av_match.specs.Match.{verdict}
use Rattle.av_match.specs.Scanning.{AreSolid, Compiled}
use Rattle.av_parts.specs.declared.fault.JudgeFault.{JudgeFault}
use Rattle.av_parts.specs.declared.sizes.TheConstants.{MAX_HELD}
use Rattle.av_parts.specs.declared.word.Word.{Word}
use Rattle.av_parts.specs.declared.word.Word.TheVariants as word
use Rattle.av_parts.specs.Judge.{Judging, Turn, begun, ended_by_newer, obeyed, renewed}
use Rattle.av_parts.specs.Orders.{Order, Ends, brought, bytewise}

-- an order comes, or a newer set
pub data Happening : Type 0 where
  Comes : (order : Order) → Happening
  Renews : (set : Compiled) → Happening

-- where a judge is, and all that it said; or the fault of an order that no guard sends, which ends the connection
abbrev pub Course : Type 0
Course = Result (Judging × List Word) JudgeFault

-- after what was said before
abbrev pub by_turn : List Word → Turn → Course
by_turn said (Ok (None, j)) = Ok (j, said)
by_turn said (Ok (Some w, j)) = Ok (j, said ++ w ∷ [])
by_turn said (Err f) = Err f

abbrev pub gone_by : Judging → List Word → Happening → Course
gone_by j said (Comes order) = by_turn said (obeyed j order)
gone_by j said (Renews set) = Ok (renewed j set, said ++ ended_by_newer j.held)

abbrev pub then_by : (Judging → List Word → Course) → Course → Course
then_by next (Ok (j, said)) = next j said
then_by next (Err f) = Err f

-- where happenings lead in turn
unfoldable pub judged : List Happening → Judging → List Word → Course
judged [] j said = Ok (j, said)
judged (h ∷ hs) j said = then_by (judged hs) (gone_by j said h)

-- the orders among what happened
unfoldable pub orders_of : List Happening → List Order
orders_of [] = []
orders_of (Comes order ∷ hs) = order ∷ orders_of hs
orders_of (Renews set ∷ hs) = orders_of hs

-- the sets that there were, the first among them
unfoldable pub sets_of : Compiled → List Happening → List Compiled
sets_of set [] = set ∷ []
sets_of set (Comes order ∷ hs) = sets_of set hs
sets_of set (Renews newer ∷ hs) = set ∷ sets_of newer hs

-- A word is right of these orders: it names the version of one of the sets, and is the verdict under it of the bytes that came
-- of the content. That it is clean is said of one that is whole, with the count of its bytes.
abbrev pub IsRight : List Compiled → List Order → Word → Type 0
IsRight sets orders (word.Clean n version count) =
    (set : Compiled) × Among set sets × (set.version ≡ version) × Among (Ends n count) orders
    × (length (brought n orders) ≡ count) × (verdict set.patterns (brought n orders) ≡ Clean)
IsRight sets orders (word.Infected n version index end_at) =
    (set : Compiled) × Among set sets × (set.version ≡ version) × (verdict set.patterns (brought n orders) ≡ Infected index end_at)
IsRight sets orders (word.None n why) = Unit {0}

-- it is right of orders that had come when it was said, the first of all
abbrev pub IsRightThen : List Compiled → List Order → Word → Type 0
IsRightThen sets orders w = (front more : List Order) × (orders ≡ front ++ more) × IsRight sets front w

-- Whatever happens, each word was right when it was said. Patterns have 1 to 64 bytes, as those of every signature set.
abbrev pub JudgesAreRight : Type 0
JudgesAreRight =
    (set : Compiled) (hs : List Happening) (j : Judging) (words : List Word) → judged hs (begun set) [] ≡ Ok (j, words)
    → AllByRecursion (λ (s : Compiled). AreSolid s.patterns) (sets_of set hs)
    → AllByRecursion (IsRightThen (sets_of set hs) (orders_of hs)) words

-- a judge holds 4,096 contents at most
abbrev pub HoldsFew : Type 0
HoldsFew =
    (set : Compiled) (hs : List Happening) (j : Judging) (words : List Word) → judged hs (begun set) [] ≡ Ok (j, words)
    → length j.held ≤ MAX_HELD

-- what an order brings is what it brings byte by byte
abbrev pub BringsBytewise : Type 0
BringsBytewise = (n : ℕ) (order : Order) → brought n (bytewise order) ≡ brought n (order ∷ [])
