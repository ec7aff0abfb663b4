-- Behind the end of a content nothing of it is sent but that it is dropped, and behind that nothing.
use Rattle.std.proofs.Common.{◌≡◌, ℕ, ◌+◌, ◌-◌, ◌^◌, ◌≤◌, ◌==◌, Bool, true, false, nat_eq, nat_lt, map, length, List, [], ◌∷◌, ◌++◌, is_some, Option, Some, None, Result, Ok, Err, cond, refl, sym, ◌∙◌, ap, subst, arith}
use Rattle.std.specs.List.{AllByRecursion as Each}
use Rattle.std.specs.List.Sorted.{IsStrictlySortedBy}
use Rattle.std.specs.Map.{keys_of}
use Rattle.std.specs.Ordering.{nat_cmp}
use Rattle.std.specs.declared.cmp.Ordering.TheVariants.{Less}
use Rattle.av_large.specs.Calls.{begins, brought_by, brings, decides, empty, ends, ends_at, expires, expires_at, grows, heard_of, not_taken, number_of, opened, unwelcome}
use Rattle.av_large.specs.Index.{Ascends}
use Rattle.av_large.specs.Laws.{AreInOrder, IsDropOrAnother, IsOfAnother, MayFollow, NothingFollowsTheEnd}
use Rattle.av_large.specs.Run.{Event, Greets, Begin, Bring, End, Hears, IsLate, Leaves, Loses, begun, greeted, orders_in, step_of, turned}
use Rattle.av_large.specs.State.{State, Step, answers, at_first, others, quiet, theirs}
use Rattle.av_large.specs.declared.answer.Answer.{Answer}
use Rattle.av_large.specs.declared.answer.Answer.TheVariants.{Lacks}
use Rattle.av_asks.specs.declared.large_answer.LargeCause.TheVariants.{TooLarge}
use Rattle.av_large.specs.declared.content.Content.{Content}
use Rattle.av_large.specs.declared.content.Ending.{Ending}
use Rattle.av_large.specs.declared.content.Ending.TheVariants.{Whole, GivenUp}
use Rattle.av_large.specs.declared.fault.BeginFault.{BeginFault}
use Rattle.av_large.specs.declared.fault.BeginFault.TheVariants.{NumbersSpent, Within}
use Rattle.av_large.specs.declared.fault.Unwelcome.{Unwelcome}
use Rattle.av_large.proofs.MapLemmas.{by_number, cmp_less, each_from, found_other, found_without, here_with, other_with}
use Rattle.av_large.proofs.OnceLemmas.{Any, lower}
use Rattle.av_large.proofs.PromiseLemmas.{differ, each_both, each_weaker}
use Rattle.av_large.proofs.StateLemmas.{Inv, ascends_from, first_kept, held_rises, keeps, not_both, out, same_content}
use Rattle.av_parts.proofs.HeldLemmas.{Holds, found}
use Rattle.av_parts.specs.Judge.{at, with, without}
use Rattle.av_parts.specs.Orders.{Order, Begins, Brings, Ends, Drops}
use Rattle.av_parts.specs.declared.word.Word.{Word}

-- the number of an order
abbrev of : Order → ℕ
of (Begins n) = n
of (Brings n some) = n
of (Ends n count) = n
of (Drops n) = n

abbrev IsDrop : Order → Type 0
IsDrop (Begins n) = ⊥
IsDrop (Brings n some) = ⊥
IsDrop (Ends n count) = ⊥
IsDrop (Drops n) = Unit {0}

-- its content is held, and only dropped once it has ended
abbrev HasIt : Order → Option Content → Type 0
HasIt o None = ⊥
HasIt o (Some c) = c.ended ≡ true → IsDrop o

-- an order may come from this state on: it is of a new content, or of one that is held
abbrev MayCome : ℕ → List (ℕ × Content) → Order → Type 0
MayCome last held o = of o ≤ last → HasIt o (at held (of o))

another : (n : ℕ) (o : Order) → (of o ≡ n → ⊥) → IsOfAnother n o
another n (Begins m) differs = differ m n differs
another n (Brings m some) differs = differ m n differs
another n (Ends m count) differs = differ m n differs
another n (Drops m) differs = differ m n differs

drop_or : (n : ℕ) (o : Order) → (of o ≡ n → IsDrop o) → IsDropOrAnother n o
drop_or n (Begins m) only = differ m n only
drop_or n (Brings m some) only = differ m n only
drop_or n (Ends m count) only = differ m n only
drop_or n (Drops m) only = tt

-- the content of an order that may come
its_content : {P : Type 0} (o : Order) (x : Option Content) → HasIt o x → ((c : Content) → x ≡ Some c → P) → P
its_content {P} o None has f = absurd has
its_content {P} o (Some c) has f = f c refl

has_of : (o : Order) (c : Content) (x : Option Content) → x ≡ Some c → (c.ended ≡ true → IsDrop o) → HasIt o x
has_of o c x is only = subst (HasIt o) (sym is) only

only_drop : (o : Order) (c : Content) (x : Option Content) → HasIt o x → x ≡ Some c → c.ended ≡ true → IsDrop o
only_drop o c x has is = subst (HasIt o) is has

each_all : {A : Type 0} (P : A → Type 0) (xs : List A) → ((x : A) → P x) → Each P xs
each_all {A} P [] f = tt
each_all {A} P (x ∷ xs) f = (f x, each_all P xs f)

-- orders that may come after a step, and are in order, are so behind the step's
abbrev Follows : State → Step → Type 0
Follows g step =
    (rest : List Order) → Each (MayCome step.state.last step.state.held) rest → AreInOrder rest
    → Each (MayCome g.last g.held) (step.orders ++ rest) × AreInOrder (step.orders ++ rest)

follow_if : (g : State) (b : Bool) (x y : Step) → Follows g x → Follows g y → Follows g (cond b x y)
follow_if g true x y one other = one
follow_if g false x y one other = other

module _ (g : State) (inv : Inv g) where
  abbrev Now : Order → Type 0
  Now o = MayCome g.last g.held o

  -- ---- a content is held no more

  back_out : (n : ℕ) (o : Order) → MayCome g.last (without g.held n) o → Now o
  back_out n o may = λ le.
      let has = may le in
      its_content o (at (without g.held n) (of o)) has (λ c is.
      has_of o c (at g.held (of o)) (found_without n (of o) c g.held (held_rises g inv) is).1 (only_drop o c (at (without g.held n) (of o)) has is))

  not_out : (n : ℕ) (o : Order) → n ≤ g.last → MayCome g.last (without g.held n) o → of o ≡ n → ⊥
  not_out n o le may same =
      its_content o (at (without g.held n) (of o)) (may (omega (arith, le, same))) (λ c is. (found_without n (of o) c g.held (held_rises g inv) is).0 same)

  forgets : (n : ℕ) (step : Step) → step.state.last ≡ g.last → step.state.held ≡ without g.held n → step.orders ≡ [] → Follows g step
  forgets n step last held none =
      λ rest may ordered.
      let coming : Each (MayCome g.last (without g.held n)) rest = subst (λ m. Each (MayCome g.last m) rest) held (subst (λ l. Each (MayCome l step.state.held) rest) last may) in
      subst (λ os. Each Now (os ++ rest) × AreInOrder (os ++ rest)) (sym none) (each_weaker (MayCome g.last (without g.held n)) Now rest (back_out n) coming, ordered)

  drops : (n : ℕ) (c : Content) (step : Step) → at g.held n ≡ Some c → step.state.last ≡ g.last → step.state.held ≡ without g.held n → step.orders ≡ Drops n ∷ [] → Follows g step
  unfolding AreInOrder
  drops n c step is last held sent =
      λ rest may ordered.
      let coming : Each (MayCome g.last (without g.held n)) rest = subst (λ m. Each (MayCome g.last m) rest) held (subst (λ l. Each (MayCome l step.state.held) rest) last may) in
      let le : n ≤ g.last = (found Any n 0 g.last c g.held inv.rises is).1 in
      let this : Now (Drops n) = λ low. has_of (Drops n) c (at g.held n) is (λ ended. tt) in
      subst (λ os. Each Now (os ++ rest) × AreInOrder (os ++ rest)) (sym sent) (
        (this, each_weaker (MayCome g.last (without g.held n)) Now rest (back_out n) coming),
        (each_weaker (MayCome g.last (without g.held n)) (MayFollow (Drops n)) rest (λ o it. another n o (not_out n o le it)) coming, ordered),
      )

  -- ---- a content goes on, or ends

  grows_on : (n : ℕ) (c : Content) (some : List ℕ) (count : ℕ) → at g.held n ≡ Some c → c.ended ≡ false
      → Follows g (record { state = record g { held = with g.held n (record c { count = count }) }; told = []; orders = Brings n some ∷ [] })
  unfolding AreInOrder
  grows_on n c some count is open_one =
      let d = record c { count = count } in
      let back : (o : Order) → MayCome g.last (with g.held n d) o → Now o = λ o may le. by_number (of o) n
      (λ same.
      let has = may le in
      let here : at (with g.held n d) (of o) ≡ Some d = ap (at (with g.held n d)) same ∙ here_with n d g.held in
      has_of o c (at g.held (of o)) (ap (at g.held) same ∙ is) (only_drop o d (at (with g.held n d) (of o)) has here))
      (λ differs. subst (HasIt o) (other_with (of o) n d g.held differs) (may le)) in
      λ rest may ordered. (
        (λ le. has_of (Brings n some) c (at g.held n) is (λ ended. not_both c.ended ended open_one), each_weaker (MayCome g.last (with g.held n d)) Now rest back may),
        (each_all (MayFollow (Brings n some)) rest (λ o. tt), ordered),
      )

  ends_now : (k n : ℕ) (c : Content) → at g.held n ≡ Some c → c.ended ≡ false
      → Follows g (record { state = record g { held = with g.held n (record c { ended = true }); current = without g.current k }; told = []; orders = Ends n c.count ∷ [] })
  unfolding AreInOrder
  ends_now k n c is open_one =
      let d = record c { ended = true } in
      let le_last : n ≤ g.last = (found Any n 0 g.last c g.held inv.rises is).1 in
      let back : (o : Order) → MayCome g.last (with g.held n d) o → Now o = λ o may le. by_number (of o) n
      (λ same. has_of o c (at g.held (of o)) (ap (at g.held) same ∙ is) (λ ended. not_both c.ended ended open_one))
      (λ differs. subst (HasIt o) (other_with (of o) n d g.held differs) (may le)) in
      let only : (o : Order) → MayCome g.last (with g.held n d) o → MayFollow (Ends n c.count) o = λ o may. drop_or n o (λ same.
      let here : at (with g.held n d) (of o) ≡ Some d = ap (at (with g.held n d)) same ∙ here_with n d g.held in
      only_drop o d (at (with g.held n d) (of o)) (may (omega (arith, le_last, same))) here refl) in
      λ rest may ordered. (
        (λ le. has_of (Ends n c.count) c (at g.held n) is (λ ended. not_both c.ended ended open_one), each_weaker (MayCome g.last (with g.held n d)) Now rest back may),
        (each_weaker (MayCome g.last (with g.held n d)) (MayFollow (Ends n c.count)) rest only may, ordered),
      )

  -- ---- a content begins

  opens_now : (c : Content) → Follows g (record { state = opened g c; told = []; orders = Begins (g.last + 1) ∷ [] })
  unfolding AreInOrder
  opens_now c =
      let n = g.last + 1 in
      let back : (o : Order) → MayCome n (with g.held n c) o → Now o = λ o may le.
      subst (HasIt o) (other_with (of o) n c g.held (λ same. let no : ⊥ = omega (arith, same, le) in no)) (may (omega (arith, le))) in
      λ rest may ordered. (
        (λ le. absurd (let no : ⊥ = omega (arith, le) in no), each_weaker (MayCome n (with g.held n c)) Now rest back may),
        (each_all (MayFollow (Begins n)) rest (λ o. tt), ordered),
      )

  stays : Follows g (quiet g)
  stays = λ rest may ordered. (may, ordered)

  opened_if : (c : Content) (b : Bool) → Follows g (begun g (cond b (Err NumbersSpent) (Ok (record { state = opened g c; told = []; orders = Begins (g.last + 1) ∷ [] }))))
  opened_if c true = stays
  opened_if c false = opens_now c

  begins_so : (c : Content) (o : Option Answer) → Follows g (begun g (begins g c o))
  begins_so c (Some answer) = λ rest may ordered. (may, ordered)
  begins_so c None = opened_if c (g.last == 2 ^ 64 - 1)

  begin_so : (b : Bool) (r : Result Step BeginFault) → Follows g (begun g r) → Follows g (begun g (cond b (Err Within) r))
  begin_so true r is = stays
  begin_so false r is = is

  -- ---- the other events

  grows_so : (k n : ℕ) (some : List ℕ) (o : Option Content) → at g.current k ≡ Some n → at g.held n ≡ o → Follows g (grows g n some o)
  grows_so k n some None current is = stays
  grows_so k n some (Some c) current is =
      follow_if g (nat_lt c.most (c.count + length some)) _ _ (drops n c (answers g n c (Lacks TooLarge) (Drops n ∷ [])) is refl refl refl) (grows_on n c some (c.count + length some) is (inv.its k n c current is).1)

  brings_so : (k : ℕ) (some : List ℕ) (o : Option ℕ) → at g.current k ≡ o → Follows g (brings g some o)
  brings_so k some None is = stays
  brings_so k some (Some n) is = grows_so k n some (at g.held n) is refl

  brought_so : (k : ℕ) (some : List ℕ) → Follows g (brought_by g k some)
  brought_so k [] = stays
  brought_so k (b ∷ some) = brings_so k (b ∷ some) (at g.current k) refl

  ends_so : (k n : ℕ) (ending : Ending) (o : Option Content) → at g.current k ≡ Some n → at g.held n ≡ o → Follows g (ends (out g k) n ending o)
  ends_so k n ending None current is = λ rest may ordered. (may, ordered)
  ends_so k n Whole (Some c) current is = ends_now k n c is (inv.its k n c current is).1
  ends_so k n GivenUp (Some c) current is = drops n c (ends (out g k) n GivenUp (Some c)) is refl refl refl

  ends_at_so : (k : ℕ) (ending : Ending) (o : Option ℕ) → at g.current k ≡ o → Follows g (ends_at (out g k) ending o)
  ends_at_so k ending None is = λ rest may ordered. (may, ordered)
  ends_at_so k ending (Some n) is = ends_so k n ending (at g.held n) is refl

  expires_so : (n : ℕ) (o : Option Content) → at g.held n ≡ o → Follows g (expires g n o)
  expires_so n None is = stays
  expires_so n (Some c) is = drops n c (expires g n (Some c)) is refl refl refl

  expires_at_so : (o : Option ℕ) → Follows g (expires_at g o)
  expires_at_so None = stays
  expires_at_so (Some n) = expires_so n (at g.held n) refl

  decided_so : (floor : ℕ) (w : Word) (c : Content) (o : Option Unwelcome) → Follows g (turned g (decides g floor w c o))
  decided_so floor w c (Some why) = stays
  decided_so floor w c None = forgets (number_of w) (turned g (decides g floor w c None)) refl refl refl

  passed_so : (b : Bool) (why : Unwelcome) → Follows g (turned g (cond b (Ok (None, g)) (Err why)))
  passed_so true why = stays
  passed_so false why = stays

  heard_so : (floor : ℕ) (w : Word) (o : Option Content) → Follows g (turned g (heard_of g floor w o))
  heard_so floor w None = passed_so _ _
  heard_so floor w (Some c) = decided_so floor w c (unwelcome c w)

  greets_so : (b : Bool) (why : Unwelcome) (r : Result State Unwelcome) → Follows g (greeted g r) → Follows g (greeted g (cond b (Err why) r))
  greets_so true why r is = stays
  greets_so false why r is = is

  -- ---- a client leaves

  back_others : (k : ℕ) (o : Order) → MayCome g.last (others k g.held) o → Now o
  back_others k o may = λ le.
      let has = may le in
      its_content o (at (others k g.held) (of o)) has (λ c is.
      has_of o c (at g.held (of o)) (found_other k (of o) c g.held (held_rises g inv) is).0 (only_drop o c (at (others k g.held) (of o)) has is))

  -- an order that may come when a client has left is of none of its contents
  not_theirs : (k : ℕ) (e : ℕ × Content) (o : Order) → at g.held e.0 ≡ Some e.1 → nat_eq e.1.client k ≡ true → MayCome g.last (others k g.held) o → of o ≡ e.0 → ⊥
  not_theirs k e o is its may same =
      let le : e.0 ≤ g.last = (found Any e.0 0 g.last e.1 g.held inv.rises is).1 in
      its_content o (at (others k g.held) (of o)) (may (omega (arith, le, same))) (λ c there.
      let f = found_other k (of o) c g.held (held_rises g inv) there in
      let it : e.1 ≡ c = same_content e.1 c (at g.held e.0) is (subst (λ i. at g.held i ≡ Some c) same f.0) in
      not_both (nat_eq c.client k) (ap (λ (y : Content). nat_eq y.client k) (sym it) ∙ its) f.1)

  abbrev IsIn : ℕ → ℕ × Content → Type 0
  IsIn k e = (at g.held e.0 ≡ Some e.1) × (nat_eq e.1.client k ≡ true)

  theirs_in : (k : ℕ) (m : List (ℕ × Content)) → Each (λ (e : ℕ × Content). at g.held e.0 ≡ Some e.1) m → Each (IsIn k) (theirs k m)
  theirs_in k [] all = tt
  theirs_in k (e ∷ m) all =
      (elim (nat_eq e.1.client k) as (λ b. nat_eq e.1.client k ≡ b → Each (IsIn k) (cond b (e ∷ theirs k m) (theirs k m))) [ true ↦ λ its. ((all.0, its), theirs_in k m all.1) | false ↦ λ its. theirs_in k m all.1 ]) refl

  later_drops : (n : ℕ) (m : List (ℕ × Content)) → Each (λ y. nat_cmp n y ≡ Less) (keys_of m) → Each (MayFollow (Drops n)) (map (λ e. Drops e.0) m)
  later_drops n [] all = tt
  later_drops n (e ∷ m) all = (differ e.0 n (λ same. let no : ⊥ = omega (arith, same, cmp_less n e.0 all.0) in no), later_drops n m all.1)

  drop_each : (k : ℕ) (m : List (ℕ × Content)) (rest : List Order) → Ascends m → Each (IsIn k) m → Each (MayCome g.last (others k g.held)) rest → AreInOrder rest
      → Each Now (map (λ e. Drops e.0) m ++ rest) × AreInOrder (map (λ e. Drops e.0) m ++ rest)
  unfolding AreInOrder IsStrictlySortedBy
  drop_each k [] rest up all may ordered = (each_weaker (MayCome g.last (others k g.held)) Now rest (back_others k) may, ordered)
  drop_each k (e ∷ m) rest up all may ordered =
      let more = drop_each k m rest up.1 all.1 may ordered in (
        (λ le. has_of (Drops e.0) e.1 (at g.held e.0) all.0.0 (λ ended. tt), more.0),
        (
          each_both (MayFollow (Drops e.0)) (map (λ x. Drops x.0) m) rest (later_drops e.0 m up.0)
              (each_weaker (MayCome g.last (others k g.held)) (MayFollow (Drops e.0)) rest (λ o it. another e.0 o (not_theirs k e o all.0.0 all.0.1 it)) may),
          more.1,
        ),
      )

  theirs_rise : (k low last : ℕ) (m : List (ℕ × Content)) → Holds Any low last m → Holds Any low last (theirs k m)
  theirs_rise k low last [] all = tt
  theirs_rise k low last (e ∷ m) all =
      elim (nat_eq e.1.client k) as (λ b. Holds Any low last (cond b (e ∷ theirs k m) (theirs k m))) [
        | true ↦ (all.0, all.1, tt, theirs_rise k e.0 last m all.3)
        | false ↦ lower low e.0 last (theirs k m) (omega (arith, all.0)) (theirs_rise k e.0 last m all.3)
      ]

  steps_follow : (e : Event) → Follows g (step_of g e)
  unfolding step_of
  steps_follow (Greets floor version) = greets_so g.takes _ _ (greets_so (nat_lt version floor) _ (Ok (record g { takes = true })) (λ rest may ordered. (may, ordered)))
  steps_follow (Begin service k t most) = begin_so (is_some (at g.current k)) _ (begins_so (empty k t most) (not_taken service g.takes))
  steps_follow (Bring k some) = brought_so k some
  steps_follow (End k ending) = ends_at_so k ending (at g.current k) refl
  steps_follow (Hears floor w) = heard_so floor w (at g.held (number_of w))
  steps_follow (IsLate k) = expires_at_so (at g.current k)
  steps_follow (Leaves k) =
      λ rest may ordered.
      drop_each k (theirs k g.held) rest (ascends_from 0 g.last (theirs k g.held) (theirs_rise k 0 g.last g.held inv.rises))
      (theirs_in k g.held (each_from (λ n c. at g.held n ≡ Some c) g.held (held_rises g inv) (λ n c is. is))) may ordered
  steps_follow Loses = λ rest may ordered. (each_weaker (MayCome g.last []) Now rest (λ o it le. absurd (it le)) may, ordered)

follow_from : (es : List Event) (g : State) → Inv g → Each (MayCome g.last g.held) (orders_in g es) × AreInOrder (orders_in g es)
unfolding orders_in AreInOrder
follow_from [] g inv = (tt, tt)
follow_from (e ∷ es) g inv =
    let more = follow_from es (step_of g e).state (keeps g e inv) in
    steps_follow g inv e (orders_in (step_of g e).state es) more.0 more.1

pub nothing_follows : NothingFollowsTheEnd
nothing_follows es = (follow_from es at_first first_kept).1
