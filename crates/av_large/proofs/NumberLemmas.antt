-- Numbers rise, and behind the end of a content nothing of it is sent.
use Rattle.std.proofs.Common.{◌≡◌, ℕ, ◌+◌, ◌-◌, ◌^◌, ◌==◌, Bool, true, false, nat_lt, map, length, List, [], ◌∷◌, ◌++◌, is_some, Option, Some, None, Result, Ok, Err, cond, refl, subst, arith}
use Rattle.av_large.specs.Calls.{begins, brought_by, brings, decides, empty, ends, ends_at, expires, expires_at, grows, heard_of, not_taken, number_of, opened, unwelcome}
use Rattle.av_large.specs.Laws.{NumbersRise, RisesFrom}
use Rattle.av_large.specs.Run.{Event, Greets, Begin, Bring, End, Hears, IsLate, Leaves, Loses, begun, greeted, orders_in, step_of, turned}
use Rattle.av_large.specs.State.{State, Step, at_first, theirs}
use Rattle.av_large.specs.declared.answer.Answer.{Answer}
use Rattle.av_large.specs.declared.content.Content.{Content}
use Rattle.av_large.specs.declared.content.Ending.{Ending}
use Rattle.av_large.specs.declared.content.Ending.TheVariants.{Whole, GivenUp}
use Rattle.av_large.specs.declared.fault.BeginFault.{BeginFault}
use Rattle.av_large.specs.declared.fault.BeginFault.TheVariants.{NumbersSpent, Within}
use Rattle.av_large.specs.declared.fault.Unwelcome.{Unwelcome}
use Rattle.av_parts.specs.Judge.{at, without}
use Rattle.av_parts.specs.Orders.{Order, Begins, Drops}
use Rattle.av_parts.specs.declared.word.Word.{Word}

-- ---- numbers rise

-- whatever rises from the state after a step rises behind its orders from the state before it
abbrev Rises : State → Step → Type 0
Rises g step = (rest : List Order) → RisesFrom step.state.last rest → RisesFrom g.last (step.orders ++ rest)

rise_if : (g : State) (b : Bool) (x y : Step) → Rises g x → Rises g y → Rises g (cond b x y)
rise_if g true x y one other = one
rise_if g false x y one other = other

drops_rise : (last : ℕ) (m : List (ℕ × Content)) (rest : List Order) → RisesFrom last rest → RisesFrom last (map (λ e. Drops e.0) m ++ rest)
unfolding RisesFrom
drops_rise last [] rest up = up
drops_rise last (e ∷ m) rest up = drops_rise last m rest up

opens_rise : (g : State) (c : Content) (b : Bool) → Rises g (begun g (cond b (Err NumbersSpent) (Ok (record { state = opened g c; told = []; orders = Begins (g.last + 1) ∷ [] }))))
unfolding RisesFrom
opens_rise g c true = λ rest up. up
opens_rise g c false = λ rest up. (omega arith, up)

begins_rise : (g : State) (c : Content) (o : Option Answer) → Rises g (begun g (begins g c o))
begins_rise g c (Some answer) = λ rest up. up
begins_rise g c None = opens_rise g c (g.last == 2 ^ 64 - 1)

begin_rises : (g : State) (b : Bool) (r : Result Step BeginFault) → Rises g (begun g r) → Rises g (begun g (cond b (Err Within) r))
begin_rises g true r is = λ rest up. up
begin_rises g false r is = is

grows_rise : (g : State) (n : ℕ) (some : List ℕ) (o : Option Content) → Rises g (grows g n some o)
unfolding RisesFrom
grows_rise g n some None = λ rest up. up
grows_rise g n some (Some c) = rise_if g (nat_lt c.most (c.count + length some)) _ _ (λ rest up. up) (λ rest up. up)

brings_rise : (g : State) (some : List ℕ) (o : Option ℕ) → Rises g (brings g some o)
brings_rise g some None = λ rest up. up
brings_rise g some (Some n) = grows_rise g n some (at g.held n)

brought_rises : (g : State) (c : ℕ) (some : List ℕ) → Rises g (brought_by g c some)
brought_rises g c [] = λ rest up. up
brought_rises g c (b ∷ some) = brings_rise g (b ∷ some) (at g.current c)

ends_rise : (g h : State) (n : ℕ) (ending : Ending) (o : Option Content) → h.last ≡ g.last → Rises g (ends h n ending o)
unfolding RisesFrom
ends_rise g h n ending None same = λ rest up. subst (λ l. RisesFrom l rest) same up
ends_rise g h n Whole (Some c) same = λ rest up. subst (λ l. RisesFrom l rest) same up
ends_rise g h n GivenUp (Some c) same = λ rest up. subst (λ l. RisesFrom l rest) same up

ends_at_rise : (g h : State) (ending : Ending) (o : Option ℕ) → h.last ≡ g.last → Rises g (ends_at h ending o)
ends_at_rise g h ending None same = λ rest up. subst (λ l. RisesFrom l rest) same up
ends_at_rise g h ending (Some n) same = ends_rise g h n ending (at h.held n) same

expires_rise : (g : State) (n : ℕ) (o : Option Content) → Rises g (expires g n o)
unfolding RisesFrom
expires_rise g n None = λ rest up. up
expires_rise g n (Some c) = λ rest up. up

expires_at_rise : (g : State) (o : Option ℕ) → Rises g (expires_at g o)
expires_at_rise g None = λ rest up. up
expires_at_rise g (Some n) = expires_rise g n (at g.held n)

decided_rises : (g : State) (floor : ℕ) (w : Word) (c : Content) (o : Option Unwelcome) → Rises g (turned g (decides g floor w c o))
decided_rises g floor w c (Some why) = λ rest up. up
decided_rises g floor w c None = λ rest up. up

passed_rises : (g : State) (b : Bool) (why : Unwelcome) → Rises g (turned g (cond b (Ok (None, g)) (Err why)))
passed_rises g true why = λ rest up. up
passed_rises g false why = λ rest up. up

heard_rises : (g : State) (floor : ℕ) (w : Word) (o : Option Content) → Rises g (turned g (heard_of g floor w o))
heard_rises g floor w None = passed_rises g _ _
heard_rises g floor w (Some c) = decided_rises g floor w c (unwelcome c w)

greets_rise : (g : State) (b : Bool) (why : Unwelcome) (r : Result State Unwelcome) → Rises g (greeted g r) → Rises g (greeted g (cond b (Err why) r))
greets_rise g true why r is = λ rest up. up
greets_rise g false why r is = is

steps_rise : (g : State) (e : Event) → Rises g (step_of g e)
unfolding step_of
steps_rise g (Greets floor version) = greets_rise g g.takes _ _ (greets_rise g (nat_lt version floor) _ (Ok (record g { takes = true })) (λ rest up. up))
steps_rise g (Begin service c t most) = begin_rises g (is_some (at g.current c)) _ (begins_rise g (empty c t most) (not_taken service g.takes))
steps_rise g (Bring c some) = brought_rises g c some
steps_rise g (End c ending) = ends_at_rise g (record g { current = without g.current c }) ending (at g.current c) refl
steps_rise g (Hears floor w) = heard_rises g floor w (at g.held (number_of w))
steps_rise g (IsLate c) = expires_at_rise g (at g.current c)
steps_rise g (Leaves c) = λ rest up. drops_rise g.last (theirs c g.held) rest up
steps_rise g Loses = λ rest up. up

rise_from : (es : List Event) (g : State) → RisesFrom g.last (orders_in g es)
unfolding orders_in RisesFrom
rise_from [] g = tt
rise_from (e ∷ es) g = steps_rise g e (orders_in (step_of g e).state es) (rise_from es (step_of g e).state)

pub numbers_rise : NumbersRise
numbers_rise es = rise_from es at_first
