-- Each content that begins is told, or has no answer, and only one of these.
use Rattle.std.proofs.Common.{◌≡◌, ℕ, ◌+◌, ◌-◌, ◌^◌, ◌<◌, ◌≤◌, ◌==◌, ◌&&◌, Bool, true, false, nat_eq, nat_lt, not, length, List, [], ◌∷◌, ◌++◌, is_some, Option, Some, None, Result, Ok, Err, cond, refl, sym, ◌∙◌, ap, subst, arith, eqb-true}
use Rattle.std.specs.List.{AllByRecursion as Each}
use Rattle.std.specs.Ordering.{nat_cmp, match_ordering, is_eq}
use Rattle.std.specs.declared.cmp.Ordering.TheVariants.{Less, Equal, Greater}
use Rattle.av_asks.specs.declared.large_answer.LargeCause.TheVariants.{TooLarge}
use Rattle.av_asks.specs.declared.large_answer.LargeCause.TheVariants as lacks
use Rattle.av_base.specs.declared.cause.Cause.TheVariants.{TimedOut}
use Rattle.av_large.specs.Calls.{Turn, all_lost, answer_of, begins, brought_by, brings, decides, empty, ends, ends_at, expires, expires_at, grows, heard_of, not_taken, number_of, opened, unwelcome}
use Rattle.av_large.specs.Laws.{IsNotLeaving, LargeAsksAreAnsweredOnce, begun_at, begun_of, held_of, if_taken, one_if, told_of}
use Rattle.av_large.specs.Run.{Event, Greets, Begin, Bring, End, Hears, IsLate, Leaves, Loses, begun, greeted, state_after, step_of, told_in, turned}
use Rattle.av_large.specs.State.{State, Step, answers, at_first, others, quiet}
use Rattle.av_large.specs.declared.answer.Answer.{Answer}
use Rattle.av_large.specs.declared.answer.Answer.TheVariants.{Lacks, Unjudged}
use Rattle.av_large.specs.declared.answer.Told.{Told}
use Rattle.av_large.specs.declared.content.Content.{Content}
use Rattle.av_large.specs.declared.content.Ending.{Ending}
use Rattle.av_large.specs.declared.content.Ending.TheVariants.{Whole, GivenUp}
use Rattle.av_large.specs.declared.fault.BeginFault.{BeginFault}
use Rattle.av_large.specs.declared.fault.BeginFault.TheVariants.{NumbersSpent, Within}
use Rattle.av_large.specs.declared.fault.Unwelcome.{Unwelcome}
use Rattle.av_large.proofs.MapLemmas.{cmp_equal, cmp_less}
use Rattle.av_parts.proofs.HeldLemmas.{Holds, found, put_in, taken_out}
use Rattle.av_parts.specs.Judge.{at, with, without}
use Rattle.av_parts.specs.Orders.{Order, Begins, Brings, Drops}
use Rattle.av_parts.specs.declared.word.Word.{Word}

-- ---- a content more, another count of one, one less

abbrev pub Any : ℕ × Content → Type 0
Any e = Unit {0}

-- numbers rise up to the last
abbrev pub Good : State → Type 0
Good g = Holds Any 0 g.last g.held

-- a number above all is none of them
pub none_above : (low last n : ℕ) (m : List (ℕ × Content)) → Holds Any low last m → last < n → at m n ≡ None
none_above low last n [] all up = refl
none_above low last n (e ∷ es) all up =
    (elim (nat_cmp n e.0) as (λ o. nat_cmp n e.0 ≡ o → cond (is_eq o) (Some e.1) (at es n) ≡ None) [
      | Less ↦ λ c. none_above e.0 last n es all.3 up
      | Equal ↦ λ c. absurd (let no : ⊥ = omega (arith, cmp_equal n e.0 c, all.1, up) in no)
      | Greater ↦ λ c. none_above e.0 last n es all.3 up
    ]) refl

pub lower : (low high last : ℕ) (m : List (ℕ × Content)) → low ≤ high → Holds Any high last m → Holds Any low last m
lower low high last [] le all = tt
lower low high last (e ∷ es) le all = (omega (arith, le, all.0), all.1, tt, all.3)

pub rises_still : (c low last : ℕ) (m : List (ℕ × Content)) → Holds Any low last m → Holds Any low last (others c m)
rises_still c low last [] all = tt
rises_still c low last (e ∷ es) all =
    elim (nat_eq e.1.client c) as (λ b. Holds Any low last (cond (not b) (e ∷ others c es) (others c es))) [
      | true ↦ lower low e.0 last (others c es) (omega (arith, all.0)) (rises_still c e.0 last es all.3)
      | false ↦ (all.0, all.1, tt, rises_still c e.0 last es all.3)
    ]

module _ (client tag : ℕ) where
  abbrev one : Content → ℕ
  one c = one_if client tag c.client c.tag

  one_more : (n : ℕ) (c : Content) (m : List (ℕ × Content)) → at m n ≡ None → held_of client tag (with m n c) ≡ one c + held_of client tag m
  unfolding held_of
  one_more n c [] none = refl
  one_more n c (e ∷ es) none =
      (elim (nat_cmp n e.0) as (λ o. nat_cmp n e.0 ≡ o → cond (is_eq o) (Some e.1) (at es n) ≡ None
      → held_of client tag (match_ordering o ((n, c) ∷ e ∷ es) ((e.0, c) ∷ es) (e ∷ with es n c)) ≡ one c + (one e.1 + held_of client tag es)) [
        | Less ↦ λ k later. refl
        | Equal ↦ λ k here. absurd cc
        | Greater ↦ λ k later. omega (arith, one_more n c es later)
      ]) refl none

  as_many : (n low last : ℕ) (c d : Content) (m : List (ℕ × Content)) → Holds Any low last m → at m n ≡ Some c → one c ≡ one d → held_of client tag (with m n d) ≡ held_of client tag m
  unfolding held_of
  as_many n low last c d [] all is same = absurd cc
  as_many n low last c d (e ∷ es) all is same =
      (elim (nat_cmp n e.0) as (λ o. nat_cmp n e.0 ≡ o → cond (is_eq o) (Some e.1) (at es n) ≡ Some c
      → held_of client tag (match_ordering o ((n, d) ∷ e ∷ es) ((e.0, d) ∷ es) (e ∷ with es n d)) ≡ one e.1 + held_of client tag es) [
        | Less ↦ λ k later. absurd (let no : ⊥ = omega (arith, (found Any n e.0 last c es all.3 later).0, cmp_less n e.0 k) in no)
        | Equal ↦ λ k here. let value : e.1 ≡ c = cc in omega (arith, same, ap one value)
        | Greater ↦ λ k later. omega (arith, as_many n e.0 last c d es all.3 later same)
      ]) refl is

  one_less : (n : ℕ) (c : Content) (m : List (ℕ × Content)) → at m n ≡ Some c → held_of client tag m ≡ one c + held_of client tag (without m n)
  unfolding held_of
  one_less n c [] is = absurd cc
  one_less n c (e ∷ es) is =
      (elim (nat_cmp n e.0) as (λ o. nat_cmp n e.0 ≡ o → cond (is_eq o) (Some e.1) (at es n) ≡ Some c
      → one e.1 + held_of client tag es ≡ one c + held_of client tag (cond (is_eq o) es (e ∷ without es n))) [
        | Less ↦ λ k later. omega (arith, one_less n c es later)
        | Equal ↦ λ k here. let value : e.1 ≡ c = cc in omega (arith, ap one value)
        | Greater ↦ λ k later. omega (arith, one_less n c es later)
      ]) refl is

  all_told : (m : List (ℕ × Content)) → told_of client tag (all_lost m) ≡ held_of client tag m
  unfolding held_of told_of
  all_told [] = refl
  all_told (e ∷ es) = omega (arith, all_told es)

  told_both : (a b : List Told) → told_of client tag (a ++ b) ≡ told_of client tag a + told_of client tag b
  unfolding told_of
  told_both [] b = omega arith
  told_both (t ∷ a) b = omega (arith, told_both a b)

  another : (c d t : ℕ) → nat_eq d c ≡ true → nat_eq c client ≡ false → one_if client tag d t ≡ 0
  another c d t same differs =
      let e : d ≡ c = eqb-true d c same in
      ap (λ k. cond (nat_eq k client && nat_eq t tag) 1 0) e ∙ ap (λ b. cond (b && nat_eq t tag) 1 0) differs

  others_stay : (c : ℕ) (m : List (ℕ × Content)) → nat_eq c client ≡ false → held_of client tag (others c m) ≡ held_of client tag m
  unfolding held_of
  others_stay c [] differs = refl
  others_stay c (e ∷ es) differs =
      (elim (nat_eq e.1.client c) as (λ b. nat_eq e.1.client c ≡ b → held_of client tag (cond (not b) (e ∷ others c es) (others c es)) ≡ one e.1 + held_of client tag es) [
        | true ↦ λ its. omega (arith, others_stay c es differs, another c e.1.client e.1.tag its differs)
        | false ↦ λ its. omega (arith, others_stay c es differs)
      ]) refl

  -- ---- what an event does

  abbrev Moves : State → ℕ → Step → Type 0
  Moves g begun step = Good step.state × (held_of client tag g.held + begun ≡ told_of client tag step.told + held_of client tag step.state.held)

  abbrev Counts : State → ℕ → Step → Type 0
  Counts g begun step = held_of client tag g.held + begun ≡ told_of client tag step.told + held_of client tag step.state.held

  move_if : (g : State) (begun : ℕ) (b : Bool) (x y : Step) → Moves g begun x → Moves g begun y → Moves g begun (cond b x y)
  move_if g begun true x y one other = one
  move_if g begun false x y one other = other

  -- nothing of the contents changes
  stays : (g : State) (step : Step) → Good g → step.state.held ≡ g.held → step.state.last ≡ g.last → step.told ≡ [] → Moves g 0 step
  unfolding told_of
  stays g step good held last told = (
    subst (λ l. Holds Any 0 l step.state.held) (sym last) (subst (Holds Any 0 g.last) (sym held) good),
    let count : held_of client tag step.state.held ≡ held_of client tag g.held = ap (held_of client tag) held in
        let none : told_of client tag step.told ≡ 0 = ap (told_of client tag) told in
        omega (arith, count, none),
  )

  -- a content is answered
  answered : (g h : State) (n : ℕ) (c : Content) (answer : Answer) (orders : List Order) → Good g → h.held ≡ g.held → h.last ≡ g.last → at g.held n ≡ Some c → Moves g 0 (answers h n c answer orders)
  unfolding told_of
  answered g h n c answer orders good held last is = (
    subst (λ l. Holds Any 0 l (without h.held n)) (sym last) (subst (λ m. Holds Any 0 g.last (without m n)) (sym held) (taken_out Any Any n 0 g.last g.held (λ e other p. tt) good)),
    let count : held_of client tag (without h.held n) ≡ held_of client tag (without g.held n) = ap (λ m. held_of client tag (without m n)) held in
        omega (arith, count, one_less n c g.held is),
  )

  -- a content has another count, or has ended
  changes : (g : State) (step : Step) (n : ℕ) (c d : Content) → Good g → at g.held n ≡ Some c → one c ≡ one d → step.state.held ≡ with g.held n d → step.state.last ≡ g.last → step.told ≡ [] → Moves g 0 step
  unfolding told_of
  changes g step n c d good is same held last told =
      let f = found Any n 0 g.last c g.held good is in (
        subst (λ l. Holds Any 0 l step.state.held) (sym last) (subst (Holds Any 0 g.last) (sym held) (put_in Any Any n 0 g.last g.last d g.held (λ e other p. tt) f.0 f.1 (omega arith) tt good)),
        let count : held_of client tag step.state.held ≡ held_of client tag (with g.held n d) = ap (held_of client tag) held in
            let none : told_of client tag step.told ≡ 0 = ap (told_of client tag) told in
            omega (arith, count, none, as_many n 0 g.last c d g.held good is same),
      )

  -- a content begins

  abbrev Begun : State → ℕ → Result Step BeginFault → Type 0
  Begun g count r = Moves g (if_taken count r) (begun g r)

  refused : (g : State) (count : ℕ) (why : BeginFault) → Good g → Begun g count (Err why)
  refused g count why good = stays g (begun g (Err why)) good refl refl refl

  opens : (g : State) (c : Content) (b : Bool) → Good g
      → Begun g (one c) (cond b (Err NumbersSpent) (Ok (record { state = opened g c; told = []; orders = Begins (g.last + 1) ∷ [] })))
  unfolding told_of
  opens g c true good = refused g (one c) NumbersSpent good
  opens g c false good = (
    put_in Any Any (g.last + 1) 0 g.last (g.last + 1) c g.held (λ e other p. tt) (omega arith) (omega arith) (omega arith) tt good,
    omega (arith, one_more (g.last + 1) c g.held (none_above 0 g.last (g.last + 1) g.held good (omega arith))),
  )

  begins_once : (g : State) (c : Content) (o : Option Answer) → Good g → Begun g (one c) (begins g c o)
  unfolding told_of
  begins_once g c (Some answer) good = (good, omega arith)
  begins_once g c None good = opens g c (g.last == 2 ^ 64 - 1) good

  begin_once : (g : State) (count : ℕ) (b : Bool) (r : Result Step BeginFault) → Good g → Begun g count r → Begun g count (cond b (Err Within) r)
  begin_once g count true r good is = refused g count Within good
  begin_once g count false r good is = is

  -- the other events

  grows_once : (g : State) (n : ℕ) (some : List ℕ) (o : Option Content) → Good g → at g.held n ≡ o → Moves g 0 (grows g n some o)
  grows_once g n some None good is = stays g (quiet g) good refl refl refl
  grows_once g n some (Some c) good is =
      move_if g 0 (nat_lt c.most (c.count + length some)) _ _ (answered g g n c (Lacks TooLarge) (Drops n ∷ []) good refl refl is)
      (changes g (record { state = record g { held = with g.held n (record c { count = c.count + length some }) }; told = []; orders = Brings n some ∷ [] }) n c (record c { count = c.count + length some }) good is refl refl refl refl)

  brings_once : (g : State) (some : List ℕ) (o : Option ℕ) → Good g → Moves g 0 (brings g some o)
  brings_once g some None good = stays g (quiet g) good refl refl refl
  brings_once g some (Some n) good = grows_once g n some (at g.held n) good refl

  brought_once : (g : State) (c : ℕ) (some : List ℕ) → Good g → Moves g 0 (brought_by g c some)
  brought_once g c [] good = stays g (quiet g) good refl refl refl
  brought_once g c (b ∷ some) good = brings_once g (b ∷ some) (at g.current c) good

  ends_once : (g h : State) (n : ℕ) (ending : Ending) (o : Option Content) → Good g → h.held ≡ g.held → h.last ≡ g.last → at g.held n ≡ o → Moves g 0 (ends h n ending o)
  ends_once g h n ending None good held last is = stays g (quiet h) good held last refl
  ends_once g h n Whole (Some c) good held last is =
      changes g (ends h n Whole (Some c)) n c (record c { ended = true }) good is refl (ap (λ m. with m n (record c { ended = true })) held) last refl
  ends_once g h n GivenUp (Some c) good held last is = answered g h n c (Lacks lacks.GivenUp) (Drops n ∷ []) good held last is

  ends_at_once : (g h : State) (ending : Ending) (o : Option ℕ) → Good g → h.held ≡ g.held → h.last ≡ g.last → Moves g 0 (ends_at h ending o)
  ends_at_once g h ending None good held last = stays g (quiet h) good held last refl
  ends_at_once g h ending (Some n) good held last = ends_once g h n ending (at h.held n) good held last (ap (λ m. at m n) (sym held))

  expires_once : (g : State) (n : ℕ) (o : Option Content) → Good g → at g.held n ≡ o → Moves g 0 (expires g n o)
  expires_once g n None good is = stays g (quiet g) good refl refl refl
  expires_once g n (Some c) good is = answered g g n c (Unjudged TimedOut) (Drops n ∷ []) good refl refl is

  expires_at_once : (g : State) (o : Option ℕ) → Good g → Moves g 0 (expires_at g o)
  expires_at_once g None good = stays g (quiet g) good refl refl refl
  expires_at_once g (Some n) good = expires_once g n (at g.held n) good refl

  abbrev Turns : State → Turn → Type 0
  Turns g turn = Moves g 0 (turned g turn)

  decided_once : (g : State) (floor : ℕ) (w : Word) (c : Content) (o : Option Unwelcome) → Good g → at g.held (number_of w) ≡ Some c → Turns g (decides g floor w c o)
  decided_once g floor w c (Some why) good is = stays g (quiet g) good refl refl refl
  decided_once g floor w c None good is = answered g g (number_of w) c (answer_of floor w) [] good refl refl is

  passed_once : (g : State) (b : Bool) (why : Unwelcome) → Good g → Turns g (cond b (Ok (None, g)) (Err why))
  passed_once g true why good = stays g (quiet g) good refl refl refl
  passed_once g false why good = stays g (quiet g) good refl refl refl

  heard_once : (g : State) (floor : ℕ) (w : Word) (o : Option Content) → Good g → at g.held (number_of w) ≡ o → Turns g (heard_of g floor w o)
  heard_once g floor w None good is = passed_once g _ _ good
  heard_once g floor w (Some c) good is = decided_once g floor w c (unwelcome c w) good is

  greets_if : (g : State) (b : Bool) (why : Unwelcome) (r : Result State Unwelcome) → Good g → Moves g 0 (greeted g r) → Moves g 0 (greeted g (cond b (Err why) r))
  greets_if g true why r good is = stays g (quiet g) good refl refl refl
  greets_if g false why r good is = is

  moves : (g : State) (e : Event) → Good g → IsNotLeaving client e → Moves g (begun_at client tag g e) (step_of g e)
  unfolding step_of told_of held_of
  moves g (Greets floor version) good stay =
      greets_if g g.takes _ _ good (greets_if g (nat_lt version floor) _ (Ok (record g { takes = true })) good (stays g (greeted g (Ok (record g { takes = true }))) good refl refl refl))
  moves g (Begin service c t most) good stay =
      begin_once g (one_if client tag c t) (is_some (at g.current c)) (begins g (empty c t most) (not_taken service g.takes)) good (begins_once g (empty c t most) (not_taken service g.takes) good)
  moves g (Bring c some) good stay = brought_once g c some good
  moves g (End c ending) good stay = ends_at_once g (record g { current = without g.current c }) ending (at g.current c) good refl refl
  moves g (Hears floor w) good stay = heard_once g floor w (at g.held (number_of w)) good refl
  moves g (IsLate c) good stay = expires_at_once g (at g.current c) good
  moves g (Leaves c) good stay = (rises_still c 0 g.last g.held good, omega (arith, others_stay c g.held stay))
  moves g Loses good stay = (tt, omega (arith, all_told g.held))

  once_from : (es : List Event) (g : State) → Good g → Each (IsNotLeaving client) es
      → held_of client tag g.held + begun_of client tag g es ≡ told_of client tag (told_in g es) + held_of client tag (state_after g es).held
  unfolding begun_of told_in state_after told_of
  once_from [] g good stay = omega arith
  once_from (e ∷ es) g good stay =
      let m = moves g e good stay.0 in
      omega (arith, m.1, once_from es (step_of g e).state m.0 stay.1, told_both (step_of g e).told (told_in (step_of g e).state es))

pub answered_once : LargeAsksAreAnsweredOnce
unfolding held_of
answered_once es client tag stay = omega (arith, once_from client tag es at_first tt stay)
