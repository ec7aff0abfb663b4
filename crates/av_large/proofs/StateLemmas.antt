-- What holds of every state that events lead to.
use Rattle.std.proofs.Common.{◌≡◌, ℕ, ◌+◌, ◌-◌, ◌^◌, ◌<◌, ◌≤◌, ◌==◌, Bool, true, false, nat_eq, nat_lt, length, List, [], ◌∷◌, is_some, Option, Some, None, Result, Ok, Err, cond, refl, sym, ◌∙◌, ap, subst, arith}
use Rattle.std.specs.List.{AllByRecursion as Each}
use Rattle.std.specs.List.Sorted.{IsStrictlySortedBy}
use Rattle.std.specs.Map.{keys_of}
use Rattle.std.specs.Ordering.{nat_cmp}
use Rattle.std.specs.declared.cmp.Ordering.TheVariants.{Less}
use Rattle.std.proofs.lemmas.Bool.Decides.{nat_tests}
use Rattle.av_large.specs.Calls.{begins, brought_by, brings, decides, empty, ends, ends_at, expires, expires_at, grows, heard_of, not_taken, number_of, opened, unwelcome}
use Rattle.av_large.specs.Index.{Ascends}
use Rattle.av_large.specs.Run.{Event, Greets, Begin, Bring, End, Hears, IsLate, Leaves, Loses, begun, greeted, step_of, turned}
use Rattle.av_large.specs.State.{State, Step, at_first, forget, others}
use Rattle.av_large.specs.declared.answer.Answer.{Answer}
use Rattle.av_large.specs.declared.content.Content.{Content}
use Rattle.av_large.specs.declared.content.Ending.{Ending}
use Rattle.av_large.specs.declared.content.Ending.TheVariants.{Whole, GivenUp}
use Rattle.av_large.specs.declared.fault.BeginFault.{BeginFault}
use Rattle.av_large.specs.declared.fault.BeginFault.TheVariants.{NumbersSpent, Within}
use Rattle.av_large.specs.declared.fault.Unwelcome.{Unwelcome}
use Rattle.av_large.proofs.MapLemmas.{ascends_with, ascends_without, by_number, found_other, found_without, here_with, less_than, other_with, other_without}
use Rattle.av_large.proofs.OnceLemmas.{Any, Good, rises_still}
use Rattle.av_parts.proofs.HeldLemmas.{Holds, found, put_in, taken_out}
use Rattle.av_parts.specs.Judge.{at, with, without}
use Rattle.av_parts.specs.Orders.{Begins}
use Rattle.av_parts.specs.declared.word.Word.{Word}

-- Numbers rise. A client is within one content at most: an open content is its client's, and a client's is open, if it is held.
pub record Inv (g : State) : Type 0 where
  pub rises : Good g
  pub people : Ascends g.current
  pub below : (k n : ℕ) → at g.current k ≡ Some n → n ≤ g.last
  pub its : (k n : ℕ) (c : Content) → at g.current k ≡ Some n → at g.held n ≡ Some c → (c.client ≡ k) × (c.ended ≡ false)
  pub within : (n : ℕ) (c : Content) → at g.held n ≡ Some c → c.ended ≡ false → at g.current c.client ≡ Some n

above_each : (k low last : ℕ) (m : List (ℕ × Content)) → k ≤ low → Holds Any low last m → Each (λ y. nat_cmp k y ≡ Less) (keys_of m)
above_each k low last [] le all = tt
above_each k low last (e ∷ es) le all =
    let lt : k < e.0 = omega (arith, le, all.0) in
    (less_than k e.0 lt, above_each k e.0 last es (omega (arith, lt)) all.3)

pub ascends_from : (low last : ℕ) (m : List (ℕ × Content)) → Holds Any low last m → Ascends m
unfolding IsStrictlySortedBy
ascends_from low last [] all = tt
ascends_from low last (e ∷ es) all = (above_each e.0 e.0 last es (omega arith) all.3, ascends_from e.0 last es all.3)

pub held_rises : (g : State) → Inv g → Ascends g.held
held_rises g inv = ascends_from 0 g.last g.held inv.rises

-- one client is within one content
one_number : (g : State) (k n m : ℕ) → at g.current k ≡ Some n → at g.current k ≡ Some m → m ≡ n
one_number g k n m one other = let same : ◌≡◌ {A = Option ℕ} (Some m) (Some n) = sym other ∙ one in cc

pub is_none : {X P : Type 0} (x : X) (o : Option X) → o ≡ None → o ≡ Some x → P
is_none {X} {P} x o none some = absurd (let no : ◌≡◌ {A = Option X} None (Some x) = sym none ∙ some in let bad : ⊥ = cc in bad)

pub same_content : (c d : Content) (o : Option Content) → o ≡ Some c → o ≡ Some d → c ≡ d
same_content c d o one other = let same : ◌≡◌ {A = Option Content} (Some c) (Some d) = sym one ∙ other in cc

pub not_both : {P : Type 0} (b : Bool) → b ≡ true → b ≡ false → P
not_both {P} b yes_it no_it = absurd (let no : ◌≡◌ {A = Bool} true false = sym yes_it ∙ no_it in let bad : ⊥ = cc in bad)

-- a content is answered
forgets : (g : State) (n : ℕ) → Inv g → Inv (forget g n)
forgets g n inv = record {
  rises = taken_out Any Any n 0 g.last g.held (λ e other p. tt) inv.rises;
  people = inv.people;
  below = inv.below;
  its = λ k m c current is. inv.its k m c current (found_without n m c g.held (held_rises g inv) is).1;
  within = λ m c is still. inv.within m c (found_without n m c g.held (held_rises g inv) is).1 still;
}

-- a content has another count
counts : (g : State) (n : ℕ) (c : Content) (count : ℕ) → Inv g → at g.held n ≡ Some c → Inv (record g { held = with g.held n (record c { count = count }) })
counts g n c count inv here =
    let d = record c { count = count } in
    let f = found Any n 0 g.last c g.held inv.rises here in
    record {
      rises = put_in Any Any n 0 g.last g.last d g.held (λ e other p. tt) f.0 f.1 (omega arith) tt inv.rises;
      people = inv.people;
      below = inv.below;
      its = λ k m x current is. by_number m n (λ same.
          let it : d ≡ x = same_content d x (at (with g.held n d) n) (here_with n d g.held) (subst (λ j. at (with g.held n d) j ≡ Some x) same is) in
          let old = inv.its k n c (subst (λ j. at g.current k ≡ Some j) same current) here in
          subst (λ (y : Content). (y.client ≡ k) × (y.ended ≡ false)) it old) (λ differs. inv.its k m x current (sym (other_with m n d g.held differs) ∙ is));
      within = λ m x is still. by_number m n (λ same.
          let it : d ≡ x = same_content d x (at (with g.held n d) n) (here_with n d g.held) (subst (λ j. at (with g.held n d) j ≡ Some x) same is) in
          let old = inv.within n c here (ap (λ (y : Content). y.ended) it ∙ still) in
          ap (λ (y : Content). at g.current y.client) (sym it) ∙ old ∙ ap Some (sym same)) (λ differs. inv.within m x (sym (other_with m n d g.held differs) ∙ is) still);
    }

-- a client that is within none has no open content
pub none_open : {P : Type 0} (g : State) (k m : ℕ) (x : Content) → Inv g → at g.current k ≡ None → at g.held m ≡ Some x → x.ended ≡ false → x.client ≡ k → P
none_open {P} g k m x inv none is still same = is_none m (at g.current k) none (ap (at g.current) (sym same) ∙ inv.within m x is still)

-- a content begins, and is answered at once
refuses : (g : State) (k : ℕ) → Inv g → at g.current k ≡ None → Inv (record g { current = with g.current k 0 })
refuses g k inv none = record {
  rises = inv.rises;
  people = ascends_with k 0 g.current inv.people;
  below = λ j m is. by_number j k (λ same.
      let zero : ◌≡◌ {A = Option ℕ} (Some 0) (Some m) = sym (here_with k 0 g.current) ∙ ap (at (with g.current k 0)) (sym same) ∙ is in
      let it : m ≡ 0 = cc in
      omega (arith, it)) (λ differs. inv.below j m (sym (other_with j k 0 g.current differs) ∙ is));
  its = λ j m x current is. by_number j k (λ same.
      let zero : ◌≡◌ {A = Option ℕ} (Some 0) (Some m) = sym (here_with k 0 g.current) ∙ ap (at (with g.current k 0)) (sym same) ∙ current in
      let it : m ≡ 0 = cc in
      let f = found Any m 0 g.last x g.held inv.rises is in
      absurd (let no : ⊥ = omega (arith, it, f.0) in no)) (λ differs. inv.its j m x (sym (other_with j k 0 g.current differs) ∙ current) is);
  within = λ m x is still. other_with x.client k 0 g.current (λ same. none_open g k m x inv none is still same) ∙ inv.within m x is still;
}

-- a content begins under a new number
opens : (g : State) (c : Content) → Inv g → at g.current c.client ≡ None → c.ended ≡ false → Inv (opened g c)
opens g c inv none fresh =
    let n = g.last + 1 in
    let k = c.client in
    let held : (m : ℕ) (x : Content) → at (with g.held n c) m ≡ Some x → (m ≡ n → ⊥) → at g.held m ≡ Some x = λ m x is differs. sym (other_with m n c g.held differs) ∙ is in
    let current : (j m : ℕ) → at (with g.current k n) j ≡ Some m → (j ≡ k → ⊥) → at g.current j ≡ Some m = λ j m is differs. sym (other_with j k n g.current differs) ∙ is in
    let number : (j m : ℕ) → at (with g.current k n) j ≡ Some m → j ≡ k → m ≡ n = λ j m is same.
    let it : ◌≡◌ {A = Option ℕ} (Some n) (Some m) = sym (here_with k n g.current) ∙ ap (at (with g.current k n)) (sym same) ∙ is in
    cc in
    let this : (m : ℕ) (x : Content) → at (with g.held n c) m ≡ Some x → m ≡ n → c ≡ x = λ m x is same. same_content c x (at (with g.held n c) n) (here_with n c g.held) (subst (λ i. at (with g.held n c) i ≡ Some x) same is) in
    record {
      rises = put_in Any Any n 0 g.last n c g.held (λ e other p. tt) (omega arith) (omega arith) (omega arith) tt inv.rises;
      people = ascends_with k n g.current inv.people;
      below = λ j m is. by_number j k (λ same. omega (arith, number j m is same)) (λ differs. let le = inv.below j m (current j m is differs) in omega (arith, le));
      its = λ j m x its is. by_number j k
          (λ same. subst (λ (y : Content). (y.client ≡ j) × (y.ended ≡ false)) (this m x is (number j m its same)) (sym same, fresh))
          (λ differs.
          let old = current j m its differs in
          inv.its j m x old (held m x is (λ same. let no : ⊥ = omega (arith, same, inv.below j m old) in no)));
      within = λ m x is still. by_number m n
          (λ same. ap (λ (y : Content). at (with g.current k n) y.client) (sym (this m x is same)) ∙ here_with k n g.current ∙ ap Some (sym same))
          (λ differs.
          let old = held m x is differs in
          other_with x.client k n g.current (λ same. none_open g k m x inv none old still same) ∙ inv.within m x old still);
    }

-- the state in which a client is within none
abbrev pub out : State → ℕ → State
out g k = record g { current = without g.current k }

-- a client is within none any more, if its content is held no more or has ended: `n` is its number
leaves_one : (g h : State) (k : ℕ) → Inv g → h.current ≡ without g.current k → h.last ≡ g.last → Good h
    → ((m : ℕ) (x : Content) → at h.held m ≡ Some x → x.ended ≡ false → (at g.held m ≡ Some x) × (x.client ≡ k → ⊥))
    → ((j m : ℕ) (x : Content) → (j ≡ k → ⊥) → at g.current j ≡ Some m → at h.held m ≡ Some x → at g.held m ≡ Some x) → Inv h
leaves_one g h k inv current last good left old =
    let was : (j m : ℕ) → at h.current j ≡ Some m → (j ≡ k → ⊥) × (at g.current j ≡ Some m) = λ j m is. found_without k j m g.current inv.people (subst (λ c. at c j ≡ Some m) current is) in
    record {
      rises = good;
      people = subst Ascends (sym current) (ascends_without k g.current inv.people);
      below = λ j m is. subst (λ l. m ≤ l) (sym last) (inv.below j m (was j m is).1);
      its = λ j m x its is. let w = was j m its in inv.its j m x w.1 (old j m x w.0 w.1 is);
      within = λ m x is still. let l = left m x is still in ap (λ c. at c x.client) current ∙ other_without x.client k g.current l.1 ∙ inv.within m x l.0 still;
    }

out_of_none : (g : State) (k : ℕ) → Inv g → at g.current k ≡ None → Inv (out g k)
out_of_none g k inv none = leaves_one g (out g k) k inv refl refl inv.rises (λ m x is still. (is, λ same. none_open g k m x inv none is still same)) (λ j m x differs its is. is)

-- another content than the one of a client is another client's, if it is open
pub anothers : (g : State) (k n m : ℕ) (x : Content) → Inv g → at g.current k ≡ Some n → (m ≡ n → ⊥) → at g.held m ≡ Some x → x.ended ≡ false → x.client ≡ k → ⊥
anothers g k n m x inv current differs is still same = differs (one_number g k n m current (ap (at g.current) (sym same) ∙ inv.within m x is still))

out_of_answered : (g : State) (k n : ℕ) → Inv g → at g.current k ≡ Some n → at g.held n ≡ None → Inv (out g k)
out_of_answered g k n inv current none = leaves_one g (out g k) k inv refl refl inv.rises (λ m x is still. (
  is,
  anothers g k n m x inv current (λ same. is_none x (at g.held n) none (subst (λ i. at g.held i ≡ Some x) same is)) is still,
)) (λ j m x differs its is. is)

gives_up : (g : State) (k n : ℕ) → Inv g → at g.current k ≡ Some n → Inv (forget (out g k) n)
gives_up g k n inv current =
    leaves_one g (forget (out g k) n) k inv refl refl (taken_out Any Any n 0 g.last g.held (λ e other p. tt) inv.rises)
    (λ m x is still. let f = found_without n m x g.held (held_rises g inv) is in (f.1, anothers g k n m x inv current f.0 f.1 still))
    (λ j m x differs its is. (found_without n m x g.held (held_rises g inv) is).1)

abbrev whole : State → ℕ → ℕ → Content → State
whole g k n c = record g { held = with g.held n (record c { ended = true }); current = without g.current k }

is_whole : (g : State) (k n : ℕ) (c : Content) → Inv g → at g.current k ≡ Some n → at g.held n ≡ Some c → Inv (whole g k n c)
is_whole g k n c inv current here =
    let d = record c { ended = true } in
    let f = found Any n 0 g.last c g.held inv.rises here in
    let same_one : (m : ℕ) (x : Content) → at (with g.held n d) m ≡ Some x → m ≡ n → d ≡ x = λ m x is same. same_content d x (at (with g.held n d) n) (here_with n d g.held) (subst (λ i. at (with g.held n d) i ≡ Some x) same is) in
    leaves_one g (whole g k n c) k inv refl refl (put_in Any Any n 0 g.last g.last d g.held (λ e other p. tt) f.0 f.1 (omega arith) tt inv.rises)
    (λ m x is still. by_number m n
    (λ same. not_both x.ended (ap (λ (y : Content). y.ended) (sym (same_one m x is same))) still)
    (λ differs. let old = sym (other_with m n d g.held differs) ∙ is in (old, anothers g k n m x inv current differs old still)))
    (λ j m x differs its is. by_number m n
    (λ same.
    let one = inv.its k n c current here in
    let other = inv.its j n c (subst (λ i. at g.current j ≡ Some i) same its) here in
    absurd (differs (sym other.0 ∙ one.0)))
    (λ another. sym (other_with m n d g.held another) ∙ is))

client_leaves : (g : State) (k : ℕ) → Inv g → Inv (record g { held = others k g.held; current = without g.current k })
client_leaves g k inv =
    leaves_one g (record g { held = others k g.held; current = without g.current k }) k inv refl refl (rises_still k 0 g.last g.held inv.rises)
    (λ m x is still.
    let f = found_other k m x g.held (held_rises g inv) is in
    (f.0, λ same. not_both (nat_eq x.client k) (let it : nat_eq x.client k ≡ true = grind (arith, nat_tests, same) in it) f.1))
    (λ j m x differs its is. (found_other k m x g.held (held_rises g inv) is).0)

all_lose : (g : State) → Inv g → Inv (record g { takes = false; held = [] })
all_lose g inv = record {
  rises = tt;
  people = inv.people;
  below = inv.below;
  its = λ k m c current is. is_none c None refl is;
  within = λ m c is still. is_none c None refl is;
}

takes_now : (g : State) → Inv g → Inv (record g { takes = true })
takes_now g inv = record { rises = inv.rises; people = inv.people; below = inv.below; its = inv.its; within = inv.within }

-- ---- what an event does keeps it so

abbrev Keeps : Step → Type 0
Keeps step = Inv step.state

keep_if : (b : Bool) (x y : Step) → Keeps x → Keeps y → Keeps (cond b x y)
keep_if true x y one other = one
keep_if false x y one other = other

pub none_of : (o : Option ℕ) → is_some o ≡ false → o ≡ None
none_of None is = refl
none_of (Some n) is = absurd (let no : ◌≡◌ {A = Bool} true false = is in let bad : ⊥ = cc in bad)

opened_if : (g : State) (c : Content) (b : Bool) → Inv g → Inv (opened g c) → Keeps (begun g (cond b (Err NumbersSpent) (Ok (record { state = opened g c; told = []; orders = Begins (g.last + 1) ∷ [] }))))
opened_if g c true inv is = inv
opened_if g c false inv is = is

begins_kept : (g : State) (c : Content) (o : Option Answer) → Inv g → at g.current c.client ≡ None → c.ended ≡ false → Keeps (begun g (begins g c o))
begins_kept g c (Some answer) inv none fresh = refuses g c.client inv none
begins_kept g c None inv none fresh = opened_if g c (g.last == 2 ^ 64 - 1) inv (opens g c inv none fresh)

begin_kept : (g : State) (b : Bool) (r : Result Step BeginFault) → Inv g → (b ≡ false → Keeps (begun g r)) → Keeps (begun g (cond b (Err Within) r))
begin_kept g true r inv is = inv
begin_kept g false r inv is = is refl

grows_kept : (g : State) (n : ℕ) (some : List ℕ) (o : Option Content) → Inv g → at g.held n ≡ o → Keeps (grows g n some o)
grows_kept g n some None inv is = inv
grows_kept g n some (Some c) inv is = keep_if (nat_lt c.most (c.count + length some)) _ _ (forgets g n inv) (counts g n c (c.count + length some) inv is)

brings_kept : (g : State) (some : List ℕ) (o : Option ℕ) → Inv g → Keeps (brings g some o)
brings_kept g some None inv = inv
brings_kept g some (Some n) inv = grows_kept g n some (at g.held n) inv refl

brought_kept : (g : State) (k : ℕ) (some : List ℕ) → Inv g → Keeps (brought_by g k some)
brought_kept g k [] inv = inv
brought_kept g k (b ∷ some) inv = brings_kept g (b ∷ some) (at g.current k) inv

ends_kept : (g : State) (k n : ℕ) (ending : Ending) (o : Option Content) → Inv g → at g.current k ≡ Some n → at g.held n ≡ o → Keeps (ends (out g k) n ending o)
ends_kept g k n ending None inv current is = out_of_answered g k n inv current is
ends_kept g k n Whole (Some c) inv current is = is_whole g k n c inv current is
ends_kept g k n GivenUp (Some c) inv current is = gives_up g k n inv current

ends_at_kept : (g : State) (k : ℕ) (ending : Ending) (o : Option ℕ) → Inv g → at g.current k ≡ o → Keeps (ends_at (out g k) ending o)
ends_at_kept g k ending None inv is = out_of_none g k inv is
ends_at_kept g k ending (Some n) inv is = ends_kept g k n ending (at g.held n) inv is refl

expires_kept : (g : State) (n : ℕ) (o : Option Content) → Inv g → Keeps (expires g n o)
expires_kept g n None inv = inv
expires_kept g n (Some c) inv = forgets g n inv

expires_at_kept : (g : State) (o : Option ℕ) → Inv g → Keeps (expires_at g o)
expires_at_kept g None inv = inv
expires_at_kept g (Some n) inv = expires_kept g n (at g.held n) inv

decided_kept : (g : State) (floor : ℕ) (w : Word) (c : Content) (o : Option Unwelcome) → Inv g → Keeps (turned g (decides g floor w c o))
decided_kept g floor w c (Some why) inv = inv
decided_kept g floor w c None inv = forgets g (number_of w) inv

passed_kept : (g : State) (b : Bool) (why : Unwelcome) → Inv g → Keeps (turned g (cond b (Ok (None, g)) (Err why)))
passed_kept g true why inv = inv
passed_kept g false why inv = inv

heard_kept : (g : State) (floor : ℕ) (w : Word) (o : Option Content) → Inv g → Keeps (turned g (heard_of g floor w o))
heard_kept g floor w None inv = passed_kept g _ _ inv
heard_kept g floor w (Some c) inv = decided_kept g floor w c (unwelcome c w) inv

greets_kept : (g : State) (b : Bool) (why : Unwelcome) (r : Result State Unwelcome) → Inv g → Keeps (greeted g r) → Keeps (greeted g (cond b (Err why) r))
greets_kept g true why r inv is = inv
greets_kept g false why r inv is = is

pub keeps : (g : State) (e : Event) → Inv g → Inv (step_of g e).state
unfolding step_of
keeps g (Greets floor version) inv = greets_kept g g.takes _ _ inv (greets_kept g (nat_lt version floor) _ (Ok (record g { takes = true })) inv (takes_now g inv))
keeps g (Begin service k t most) inv =
    begin_kept g (is_some (at g.current k)) _ inv (λ is. begins_kept g (empty k t most) (not_taken service g.takes) inv (none_of (at g.current k) is) refl)
keeps g (Bring k some) inv = brought_kept g k some inv
keeps g (End k ending) inv = ends_at_kept g k ending (at g.current k) inv refl
keeps g (Hears floor w) inv = heard_kept g floor w (at g.held (number_of w)) inv
keeps g (IsLate k) inv = expires_at_kept g (at g.current k) inv
keeps g (Leaves k) inv = client_leaves g k inv
keeps g Loses inv = all_lose g inv

pub first_kept : Inv at_first
unfolding IsStrictlySortedBy
first_kept = record {
  rises = tt;
  people = tt;
  below = λ k n is. is_none n None refl is;
  its = λ k m c current is. is_none c None refl is;
  within = λ m c is still. is_none c None refl is;
}
