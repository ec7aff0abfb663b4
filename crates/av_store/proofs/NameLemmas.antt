use Rattle.std.proofs.Common.{ℕ, ◌≡◌, ◌+◌, List, [], ◌∷◌, ◌++◌, true, false, Result, Ok, Err, cond, Option, Some, None, refl, sym, ◌∙◌, ap, subst}
use Rattle.std.specs.Global.{Vec}
use Rattle.std.specs.declared.cmp.Ordering.{Ordering}
use Rattle.std.specs.Ordering.{nat_cmp}
use Rattle.std.specs.Cmp.Lexicographic.{slice_cmp}
use Rattle.std.specs.Map.{lookup, KeepsOthers}
use Rattle.std.specs.List.{AllZip}
use Rattle.std.proofs.lemmas.Map.Entries.{entries_from_clone}
use Rattle.std.specs.BTreeMap.{BTreeMap, UpdatesBy}
use Rattle.av_store.specs.Index.{AreApart, IsIndexed, at_name}
use Rattle.av_store.specs.Rows.{Streams, is_same, stream_at, number_named, without}
use Rattle.av_base.specs.Answers.{StepsAtOnce}
use Rattle.std.specs.Prelude.{OnOk, OnErr, IfSome, is_some}
use Rattle.av_store.specs.Store.{removed}
use Rattle.av_store.specs.declared.stream.Stream.{Stream}
use Rattle.av_store.specs.declared.fault.StoreFault.{StoreFault}
use Rattle.av_store.specs.declared.fault.StoreFault.TheVariants.{NoStream}
use Rattle.av_store.proofs.IndexLemmas.{same_path, named_last, apart_last, below_last, named_without, apart_without, below_without}

abbrev key_cmp : Vec ℕ → Vec ℕ → Ordering
key_cmp v w = slice_cmp nat_cmp v.items w.items

-- what a change at one name leaves at each
pub names_updated : (m n : BTreeMap (Vec ℕ) ℕ) (name : List ℕ) (w : Option ℕ) → UpdatesBy key_cmp (λ k. slice_cmp nat_cmp name k.items) m n w
    → (q : List ℕ) → lookup (at_name q) n.entries ≡ cond (is_same q name) w (lookup (at_name q) m.entries)
unfolding KeepsOthers
names_updated m n name w h q =
    (elim (is_same q name) as (λ b. is_same q name ≡ b → lookup (at_name q) n.entries ≡ cond b w (lookup (at_name q) m.entries)) [
      | true ↦ λ is. ap (λ x. lookup (at_name x) n.entries) (same_path q name is) ∙ h.1
      | false ↦ λ is. h.3 (at_name q)
          (λ x y at. ap (λ z. is_same z y.items) (same_path q x.items at))
          (λ k at. ap (is_same q) (sym (same_path name k.items at)) ∙ is)
    ]) refl

-- the names lead to the streams after a new one
pub indexed_last : (names more : List (Vec ℕ × ℕ)) (ss : Streams) (last : ℕ) (s : Stream) → IsIndexed names ss last → number_named s.name ss ≡ None
    → ((q : List ℕ) → lookup (at_name q) more ≡ cond (is_same q s.name) (Some (last + 1)) (lookup (at_name q) names))
    → IsIndexed more (ss ++ (last + 1, s) ∷ []) (last + 1)
indexed_last names more ss last s indexed none h = record {
  found = λ q. h q ∙ ap (cond (is_same q s.name) (Some (last + 1))) (indexed.found q) ∙ sym (named_last ss (last + 1) s q none);
  apart = apart_last ss (last + 1) s indexed.apart none;
  below = below_last ss last s indexed.below;
}

-- the names lead to the streams after one is taken away
pub indexed_without : (names less : List (Vec ℕ × ℕ)) (ss : Streams) (last id : ℕ) (s : Stream) → IsIndexed names ss last → stream_at id ss ≡ Some s
    → ((q : List ℕ) → lookup (at_name q) less ≡ cond (is_same q s.name) None (lookup (at_name q) names))
    → IsIndexed less (without id ss) last
indexed_without names less ss last id s indexed is h = record {
  found = λ q. h q ∙ ap (cond (is_same q s.name) None) (indexed.found q) ∙ sym (named_without ss id s q indexed.apart is);
  apart = apart_without ss id indexed.apart;
  below = below_without ss id last indexed.below;
}

pub indexed_removed : (names less : List (Vec ℕ × ℕ)) (ss tt : Streams) (last id : ℕ) (r : Result (Unit {0}) StoreFault) → IsIndexed names ss last
    → StepsAtOnce ss tt r (removed ss id)
    → OnOk r (IfSome (stream_at id ss) (λ s. (q : List ℕ) → lookup (at_name q) less ≡ cond (is_same q s.name) None (lookup (at_name q) names)))
    → OnErr r (less ≡ names)
    → IsIndexed less tt last
indexed_removed names less ss tt last id (Ok done) indexed h found same =
    (elim (stream_at id ss) as (λ o. stream_at id ss ≡ o → cond (is_some o) (Ok (without id ss)) (Err NoStream) ≡ Ok tt
    → IfSome o (λ s. (q : List ℕ) → lookup (at_name q) less ≡ cond (is_same q s.name) None (lookup (at_name q) names)) → IsIndexed less tt last) [
      | None ↦ λ is g f. absurd cc
      | Some s ↦ λ is g f. let left : without id ss ≡ tt = cc in subst (λ x. IsIndexed less x last) left (indexed_without names less ss last id s indexed is f)
    ]) refl h found
indexed_removed names less ss tt last id (Err f) indexed h found same = rw (h.1) (rw same indexed)

pub indexed_empty : IsIndexed [] [] 0
unfolding AreApart
indexed_empty = record { found = λ q. refl; apart = tt; below = tt }

pub none_of : {A : Type 0} (o : Option A) → is_some o ≡ false → o ≡ None
none_of None h = refl
none_of (Some x) h = absurd cc

-- a copy of the names leads where they do
pub indexed_copy : (C : Vec ℕ → Vec ℕ → Type 0) → ((v w : Vec ℕ) → C v w → w.items ≡ v.items) → (names more : List (Vec ℕ × ℕ)) (ss : Streams) (last : ℕ) → IsIndexed names ss last
    → AllZip (λ v w. C v.0 w.0 × (w.1 ≡ v.1)) names more → IsIndexed more ss last
indexed_copy C same names more ss last indexed h = record { found = λ q. copied q names more h ∙ indexed.found q; apart = indexed.apart; below = indexed.below }
  where
    copied : (q : List ℕ) (ns ms : List (Vec ℕ × ℕ)) → AllZip (λ v w. C v.0 w.0 × (w.1 ≡ v.1)) ns ms → lookup (at_name q) ms ≡ lookup (at_name q) ns
    copied q [] [] h = refl
    copied q (n ∷ ns) (m ∷ ms) h = λ i. cond (is_same q (same n.0 m.0 h.0.0 i)) (Some (h.0.1 i)) (copied q ns ms h.1 i)
    copied q [] (m ∷ ms) h = absurd h
    copied q (n ∷ ns) [] h = absurd h

pub same_items : (xs ys : List ℕ) → AllZip (λ x y. y ≡ x) xs ys → ys ≡ xs
same_items [] [] h = refl
same_items (x ∷ xs) (y ∷ ys) h = λ i. h.0 i ∷ same_items xs ys h.1 i
same_items [] (y ∷ ys) h = absurd h
same_items (x ∷ xs) [] h = absurd h

pub same_stream : (v w : Stream) → (w.name ≡ v.name) × ((w.generation ≡ v.generation) × (w.bytes ≡ v.bytes)) → w ≡ v
same_stream v w h = λ i. record { name = h.0 i; generation = h.1.0 i; bytes = h.1.1 i }

pub rows_copied : (ss tt : Streams) → AllZip (λ p q. (q.0 ≡ p.0) × ((q.1.name ≡ p.1.name) × ((q.1.generation ≡ p.1.generation) × (q.1.bytes ≡ p.1.bytes)))) ss tt → tt ≡ ss
rows_copied ss tt h = entries_from_clone (λ x y. y ≡ x) (λ v w. (w.name ≡ v.name) × ((w.generation ≡ v.generation) × (w.bytes ≡ v.bytes))) (λ x y e. e) same_stream ss tt h
