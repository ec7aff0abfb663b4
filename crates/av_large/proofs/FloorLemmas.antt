-- Only words grant, and at the floor.
use Rattle.std.proofs.Common.{◌≡◌, ℕ, ◌==◌, Bool, true, false, nat_lt, ◌+◌, length, List, [], ◌∷◌, map, ◌^◌, ◌-◌, is_some, Option, Some, None, Result, Ok, Err, cond, refl, sym, subst, eqb-true}
use Rattle.std.specs.List.{AllByRecursion as Each}
use Rattle.av_large.specs.Calls.{Turn, answer_of, begins, brought_by, decides, opened, empty, ends, ends_at, expires, expires_at, greeted_with, grows, brings, heard_of, not_taken, number_of, unwelcome}
use Rattle.av_large.specs.Laws.{GrantsAt, GrantsNone, WordsGrantAtTheFloor}
use Rattle.av_large.specs.Run.{Greets, Begin, Bring, End, Hears, IsLate, Leaves, Loses, begun, greeted, step_of, turned}
use Rattle.av_large.specs.State.{State, Step, tell}
use Rattle.av_large.specs.declared.answer.Answer.{Answer}
use Rattle.av_large.specs.declared.answer.Answer.TheVariants.{Granted, Infected, Lacks, Unjudged}
use Rattle.av_large.specs.declared.answer.Told.{Told}
use Rattle.av_large.specs.declared.content.Content.{Content}
use Rattle.av_large.specs.declared.content.Ending.{Ending}
use Rattle.av_large.specs.declared.content.Ending.TheVariants.{Whole, GivenUp}
use Rattle.av_large.specs.declared.content.ServicePresence.{ServicePresence}
use Rattle.av_large.specs.declared.content.ServicePresence.TheVariants.{Connected, Away}
use Rattle.av_large.specs.declared.fault.BeginFault.{BeginFault}
use Rattle.av_large.specs.declared.fault.Unwelcome.{Unwelcome}
use Rattle.av_large.specs.declared.fault.BeginFault.TheVariants.{NumbersSpent, Within}
use Rattle.av_asks.specs.declared.large_answer.LargeCause.TheVariants.{NoParts}
use Rattle.av_base.specs.declared.cause.Cause.TheVariants.{NotConnected, PortDisconnected}
use Rattle.av_parts.specs.Orders.{Begins}
use Rattle.av_parts.specs.Judge.{at, with, without}
use Rattle.av_parts.specs.declared.word.Unjudged.TheVariants.{Full, Newer}
use Rattle.av_parts.specs.declared.word.Word.{Word}
use Rattle.av_parts.specs.declared.word.Word.TheVariants as word

-- nothing is granted by a step
abbrev GrantsNothing : Step → Type 0
GrantsNothing step = Each (λ (t : Told). GrantsNone t.answer) step.told

none_if : (b : Bool) (x y : Step) → GrantsNothing x → GrantsNothing y → GrantsNothing (cond b x y)
none_if true x y one other = one
none_if false x y one other = other

lost_grants : (held : List (ℕ × Content)) (f : ℕ × Content → Told) → ((e : ℕ × Content) → GrantsNone (f e).answer) → Each (λ (t : Told). GrantsNone t.answer) (map f held)
lost_grants [] f none = tt
lost_grants (e ∷ es) f none = (none e, lost_grants es f none)

greets_none : (g : State) (r : Result State Unwelcome) → GrantsNothing (greeted g r)
greets_none g (Ok new) = tt
greets_none g (Err why) = tt

-- a word grants at the floor

grants_if : (b : Bool) (floor version : ℕ) (other : Answer) → (b ≡ true → version ≡ floor) → GrantsAt floor other → GrantsAt floor (cond b (Granted version) other)
grants_if true floor version other is there = is refl
grants_if false floor version other is there = there

finds_if : (b : Bool) (floor version index end_at : ℕ) (other : Answer) → GrantsAt floor other → GrantsAt floor (cond b (Infected version index end_at) other)
finds_if true floor version index end_at other there = tt
finds_if false floor version index end_at other there = there

answers_at : (floor : ℕ) (w : Word) → GrantsAt floor (answer_of floor w)
answers_at floor (word.Clean n version count) = grants_if (version == floor) floor version _ (eqb-true version floor) tt
answers_at floor (word.Infected n version index end_at) = finds_if (version == floor) floor version index end_at _ tt
answers_at floor (word.None n Full) = tt
answers_at floor (word.None n Newer) = tt

abbrev AtFloor : ℕ → State → Turn → Type 0
AtFloor floor g turn = Each (λ (t : Told). GrantsAt floor t.answer) (turned g turn).told

decided : (g : State) (floor : ℕ) (w : Word) (c : Content) (o : Option Unwelcome) → AtFloor floor g (decides g floor w c o)
decided g floor w c (Some why) = tt
decided g floor w c None = (answers_at floor w, tt)

passed_over : (floor : ℕ) (g : State) (b : Bool) (why : Unwelcome) → AtFloor floor g (cond b (Ok (None, g)) (Err why))
passed_over floor g true why = tt
passed_over floor g false why = tt

heard_at : (g : State) (floor : ℕ) (w : Word) (o : Option Content) → AtFloor floor g (heard_of g floor w o)
heard_at g floor w None = passed_over floor g _ _
heard_at g floor w (Some c) = decided g floor w c (unwelcome c w)

-- the other events

begun_none : (g : State) (r : Result Step BeginFault) (is_quiet : (step : Step) → r ≡ Ok step → GrantsNothing step) → GrantsNothing (begun g r)
begun_none g (Ok step) is_quiet = is_quiet step refl
begun_none g (Err why) is_quiet = tt

refused_none : (service : ServicePresence) (takes : Bool) (answer : Answer) → not_taken service takes ≡ Some answer → GrantsNone answer
refused_none Away takes answer is = let same : Unjudged NotConnected ≡ answer = cc in subst GrantsNone same tt
refused_none Connected false answer is = let same : Lacks NoParts ≡ answer = cc in subst GrantsNone same tt
refused_none Connected true answer is = absurd cc

opens_none : (g : State) (c : Content) (b : Bool) (step x : Step) (why : BeginFault) → x.told ≡ [] → ◌≡◌ {A = Result Step BeginFault} (cond b (Err why) (Ok x)) (Ok step) → GrantsNothing step
opens_none g c true step x why none is = absurd cc
opens_none g c false step x why none is =
    let same : x ≡ step = cc in
    subst GrantsNothing same (subst (Each (λ (t : Told). GrantsNone t.answer)) (sym none) tt)

begins_none : (g : State) (c : Content) (o : Option Answer) (step : Step) → ((answer : Answer) → o ≡ Some answer → GrantsNone answer) → begins g c o ≡ Ok step → GrantsNothing step
begins_none g c (Some answer) step none is =
    let same : record { state = record g { current = with g.current c.client 0 }; told = tell c answer ∷ []; orders = [] } ≡ step = cc in
    subst GrantsNothing same (none answer refl, tt)
begins_none g c None step none is = opens_none g c (g.last == 2 ^ 64 - 1) step (record { state = opened g c; told = []; orders = Begins (g.last + 1) ∷ [] }) NumbersSpent refl is

begin_none : (g : State) (b : Bool) (r : Result Step BeginFault) (step : Step) → ((it : Step) → r ≡ Ok it → GrantsNothing it) → ◌≡◌ {A = Result Step BeginFault} (cond b (Err Within) r) (Ok step) → GrantsNothing step
begin_none g true r step none is = absurd cc
begin_none g false r step none is = none step is

grows_none : (g : State) (n : ℕ) (some : List ℕ) (o : Option Content) → GrantsNothing (grows g n some o)
grows_none g n some None = tt
grows_none g n some (Some c) = none_if (nat_lt c.most (c.count + length some)) _ _ (tt, tt) tt

brings_none : (g : State) (some : List ℕ) (o : Option ℕ) → GrantsNothing (brings g some o)
brings_none g some None = tt
brings_none g some (Some n) = grows_none g n some (at g.held n)

brought_none : (g : State) (client : ℕ) (some : List ℕ) → GrantsNothing (brought_by g client some)
brought_none g client [] = tt
brought_none g client (b ∷ some) = brings_none g (b ∷ some) (at g.current client)

ends_none : (g : State) (n : ℕ) (ending : Ending) (o : Option Content) → GrantsNothing (ends g n ending o)
ends_none g n ending None = tt
ends_none g n Whole (Some c) = tt
ends_none g n GivenUp (Some c) = (tt, tt)

ends_at_none : (g : State) (ending : Ending) (o : Option ℕ) → GrantsNothing (ends_at g ending o)
ends_at_none g ending None = tt
ends_at_none g ending (Some n) = ends_none g n ending (at g.held n)

expires_none : (g : State) (n : ℕ) (o : Option Content) → GrantsNothing (expires g n o)
expires_none g n None = tt
expires_none g n (Some c) = (tt, tt)

expires_at_none : (g : State) (o : Option ℕ) → GrantsNothing (expires_at g o)
expires_at_none g None = tt
expires_at_none g (Some n) = expires_none g n (at g.held n)

pub words_grant_at_the_floor : WordsGrantAtTheFloor
unfolding step_of
words_grant_at_the_floor g (Greets floor version) = greets_none g (greeted_with g floor version)
words_grant_at_the_floor g (Begin service client tag most) =
    begun_none g _ (λ step is. begin_none g (is_some (at g.current client)) _ step (λ it same. begins_none g (empty client tag most) (not_taken service g.takes) it (refused_none service g.takes) same) is)
words_grant_at_the_floor g (Bring client some) = brought_none g client some
words_grant_at_the_floor g (End client ending) = ends_at_none (record g { current = without g.current client }) ending (at g.current client)
words_grant_at_the_floor g (Hears floor w) = heard_at g floor w (at g.held (number_of w))
words_grant_at_the_floor g (IsLate client) = expires_at_none g (at g.current client)
words_grant_at_the_floor g (Leaves client) = tt
words_grant_at_the_floor g Loses = lost_grants g.held (λ e. tell e.1 (Unjudged PortDisconnected)) (λ e. tt)
