-- Stretches of a file follow on each other.
use Rattle.std.proofs.Common.{ℕ, ◌≡◌, ◌∙◌, ◌+◌, ◌-◌, ◌*◌, ◌/◌, ◌<◌, ◌≤◌, ◌++◌, List, [], length, take, drop, Option, None, Some, Result, Ok, Err, IfOk, IfSome, sym, ap, subst, arith, drop-drop, take-add, take_all, lt-ltb, le-ltb, inl, inr, if◌then◌else◌}
use Rattle.std.proofs.lemmas.Bool.{cases_lt}
use Rattle.std.proofs.lemmas.Nat.{mul-le}
use Rattle.std.proofs.Math.Nat.{div-mul-le_self}
use Rattle.std.specs.Result.{result_ok}
use Rattle.av_files.specs.Findings.{IsWhole, NamedSet, findings_of}
use Rattle.av_files.specs.declared.finding.Finding.{Finding}
use Rattle.av_segments.specs.Segments.{Stretch, segment_of}
use Rattle.av_scan.specs.Stretches.{AreFromTo, IsFoundFrom, place_of}
use Rattle.av_scan.specs.Told.{AreFoundIn}
use Rattle.av_scan.specs.declared.scanning.Matches.TheVariants.{First}

-- ---- places

-- a stretch that is not the last one begins at a multiple of its length
begun_at : (size count i : ℕ) → i < count → place_of size count i ≡ size / count * i
unfolding place_of
begun_at size count i below = ap (λ b. if b then size / count * i else size) (lt-ltb i count below)

-- the last one ends with the file
pub ends_at : (size count i : ℕ) → count ≤ i → place_of size count i ≡ size
unfolding place_of
ends_at size count i past = ap (λ b. if b then size / count * i else size) (le-ltb i count past)

pub fits : (size count i : ℕ) → i < count → size / count * i ≤ size
fits size count i below = omega (arith, div-mul-le_self size count, mul-le (size / count) i (size / count) count (omega arith) (omega (arith, below)))

-- each stretch ends where it begins, or after that
pub ordered : (size count i : ℕ) → i < count → place_of size count i ≤ place_of size count (i + 1)
ordered size count i below =
    elim (cases_lt (i + 1) count) [
      | inl more ↦ omega (arith, begun_at size count i below, begun_at size count (i + 1) more, mul-le (size / count) i (size / count) (i + 1) (omega arith) (omega arith))
      | inr last ↦ omega (arith, begun_at size count i below, ends_at size count (i + 1) last, fits size count i below)
    ]

pub first_at : (size count : ℕ) → 0 < count → place_of size count 0 ≡ 0
first_at size count some = begun_at size count 0 some ∙ omega arith

-- ---- bytes

nothing : (left : Option (List ℕ)) (from : ℕ) → AreFromTo left from from []
nothing None from = tt
nothing (Some all) from = let none : from - from ≡ 0 = omega arith in sym (ap (λ n. take n (drop from all)) none)

-- bytes up to a place, and from there on
both : (all : List ℕ) (from place to : ℕ) → from ≤ place → place ≤ to
    → take (place - from) (drop from all) ++ take (to - place) (drop place all) ≡ take (to - from) (drop from all)
both all from place to before after =
    let rest : drop (place - from) (drop from all) ≡ drop place all = drop-drop (place - from) from all ∙ ap (λ n. drop n all) (omega (arith, before)) in
    ap (λ xs. take (place - from) (drop from all) ++ take (to - place) xs) (sym rest)
    ∙ sym (take-add (place - from) (to - place) (drop from all))
    ∙ ap (λ n. take n (drop from all)) (omega (arith, before, after))

follow : (left : Option (List ℕ)) (from place to : ℕ) (c d : List ℕ) → from ≤ place → place ≤ to → AreFromTo left from place c → AreFromTo left place to d
    → AreFromTo left from to (c ++ d)
follow None from place to c d before after one other = tt
follow (Some all) from place to c d before after one other =
    ap (λ xs. xs ++ d) one ∙ ap (λ ys. take (place - from) (drop from all) ++ ys) other ∙ both all from place to before after

-- ---- what is found

-- no bytes yet
pub none_yet : (left : Option (List ℕ)) (sets : List NamedSet) (from : ℕ) (s : Stretch) → s ≡ segment_of sets [] → IsFoundFrom left sets from from s
none_yet left sets from s is = record { content = []; bytes = nothing left from; found = is }

-- a stretch with the bytes that follow
pub next : (left : Option (List ℕ)) (sets : List NamedSet) (from place to : ℕ) (s n : Stretch) (d : List ℕ) → from ≤ place → place ≤ to → IsFoundFrom left sets from place s
    → AreFromTo left place to d → ((c : List ℕ) → s ≡ segment_of sets c → n ≡ segment_of sets (c ++ d)) → IsFoundFrom left sets from to n
next left sets from place to s n d before after of bytes grows = record {
  content = of.content ++ d;
  bytes = follow left from place to of.content d before after of.bytes bytes;
  found = grows of.content of.found;
}

whole : (left : Option (List ℕ)) (size : ℕ) (content : List ℕ) → AreFromTo left 0 size content → IfSome left (λ all. size ≡ length all) → IsWhole left content
whole None size content bytes known = tt
whole (Some all) size content bytes known =
    let here : take (size - 0) (drop 0 all) ≡ take size all = ap (λ n. take n all) (omega arith) in
    bytes ∙ here ∙ take_all size all (omega (arith, known))

-- the verdict of a whole file, from its stretches in one
pub found_whole : {A E : Type 0} (items : A → List Finding) (left : Option (List ℕ)) (sets : List NamedSet) (size most : ℕ) (s : Stretch) (r : Result A E) (o : Option A)
    → o ≡ result_ok r → size ≤ most → IsFoundFrom left sets 0 size s → s.length ≡ size → IfSome left (λ all. size ≡ length all)
    → IfOk r (λ fs. (sets : List NamedSet) (c : List ℕ) → s ≡ segment_of sets c → items fs ≡ findings_of sets c)
    → IfSome o (λ fs. AreFoundIn left First most sets (items fs))
found_whole items left sets size most s (Err e) o is short of length_is known found = subst (λ o. IfSome o (λ fs. AreFoundIn left First most sets (items fs))) (sym is) tt
found_whole items left sets size most s (Ok fs) o is short of length_is known found = subst (λ o. IfSome o (λ fs. AreFoundIn left First most sets (items fs))) (sym is) (record {
  content = of.content;
  whole = whole left size of.content of.bytes known;
  short = omega (arith, ap (λ t. t.length) of.found, length_is, short);
  found = found sets of.content of.found;
})
