-- What is kept of two stretches joins to what is kept of the whole.
use Rattle.std.proofs.Common.{ℕ, zero, suc, ◌≡◌, ◌+◌, ◌-◌, ◌<◌, ◌≤◌, ◌^◌, true, false, not, List, [], ◌∷◌, ◌++◌, length, map, take, drop, get_or, set, slice_get, None, Some, refl, sym, ap, ◌∙◌, subst, arith, inl, inr, length-append, length-drop, drop-drop, nat_le, leb-true}
use Rattle.std.proofs.lemmas.Bool.{or_parts, cases_Bool, not-true}
use Rattle.std.proofs.lemmas.List.{map_more, take-take, take_all, take_at, drop-append-le, drop_all, drop_at, length-take}
use Rattle.std.proofs.lemmas.Option.{get_or_from_slice_get, slice_get-map, slice_get_within}
use Rattle.std.specs.List.{list_any, refill}
use Rattle.std.specs.Option.{option_map}
use Rattle.av_base.specs.declared.verdict.Verdict.{Verdict}
use Rattle.av_base.specs.declared.verdict.Verdict.TheVariants.{Clean, Infected}
use Rattle.av_files.specs.Findings.{NamedSet, findings_from}
use Rattle.av_match.proofs.Verdicts.{verdict_is}
use Rattle.av_match.specs.Match.{IsVerdict, verdict}
use Rattle.av_match.specs.Scanning.{AreSolid, are_bound}
use Rattle.av_sigset.specs.Set.{NumberedSet, patterns_of}
use Rattle.av_sigset.specs.declared.signature.Pattern.{Pattern}
use Rattle.av_segments.proofs.CutLemmas.{verdicts_join}
use Rattle.av_segments.specs.Joining.{edge, joined_verdict, last, least_of, moved_on}
use Rattle.av_segments.specs.Laws.{SegmentsJoin}
use Rattle.av_segments.specs.Seams.{Fits, IsSeam}
use Rattle.av_segments.specs.declared.across.Seam.{Seam}
use Rattle.av_segments.specs.Segments.{AreAllSolid, Stretch, joined_verdicts, may_be_cut, patterns_in, placed_from, segment_of, verdicts_of}

-- ---- first and last bytes

-- the first bytes of two stretches are those of the first one's and of the second's
pub first_of_first : (n : ℕ) (c d : List ℕ) → take n (take n c ++ d) ≡ take n (c ++ d)
first_of_first zero c d = refl
first_of_first (suc n) [] d = refl
first_of_first (suc n) (x ∷ c) d = ap (λ t. x ∷ t) (first_of_first n c d)

pub first_then_first : (n m : ℕ) (c d : List ℕ) → n ≤ m → take n (c ++ take m d) ≡ take n (c ++ d)
first_then_first zero m c d le = refl
first_then_first (suc n) m [] d le = take-take (suc n) m d le
first_then_first (suc n) m (x ∷ c) d le = ap (λ t. x ∷ t) (first_then_first n m c d (omega (arith, le)))

-- so are the last
pub last_of_last : (n : ℕ) (c d : List ℕ) → last n (last n c ++ d) ≡ last n (c ++ d)
last_of_last n c d =
    let k = length c - n in
    let short : length (drop k c ++ d) ≡ length c - k + length d = length-append (drop k c) d ∙ ap (λ l. l + length d) (length-drop k c) in
    let whole = length-append c d in
    ap (drop (length (drop k c ++ d) - n)) (sym (drop-append-le k c d (omega arith))) ∙ drop-drop (length (drop k c ++ d) - n) k (c ++ d)
    ∙ ap (λ j. drop j (c ++ d)) (omega (arith, short, whole))

pub last_then_last : (n : ℕ) (c d : List ℕ) → last n (c ++ last n d) ≡ last n (c ++ d)
last_then_last n c d =
    let k = length d - n in
    let short : length (c ++ drop k d) ≡ length c + (length d - k) = length-append c (drop k d) ∙ ap (λ l. length c + l) (length-drop k d) in
    let whole = length-append c d in
    elim (cases_Bool (nat_le (length d) n)) [
      | inl few ↦
          let none : k ≡ 0 = (let le = leb-true (length d) n few in omega (arith, le)) in
          ap (λ j. last n (c ++ drop j d)) none
      | inr many ↦
          let more : n < length d = grind (arith, many) in
          let left : length (c ++ drop k d) - n ≡ length c = omega (arith, short, more) in
          let right : length (c ++ d) - n ≡ length c + k = omega (arith, whole, more) in
          ap (λ j. drop j (c ++ drop k d)) left ∙ drop_at c (drop k d) (length c) refl
          ∙ sym (ap (λ j. drop j (c ++ d)) right ∙ sym (drop-drop k (length c) (c ++ d)) ∙ ap (drop k) (drop_at c d (length c) refl))
    ]

-- the first bytes of both are all of the few that there are, and of the others as many as there is room for
pub first_behind : (n : ℕ) (c d : List ℕ) → length c ≤ n → take n (c ++ d) ≡ c ++ take (n - length c) d
first_behind n [] d le = ap (λ k. take k d) (omega arith)
first_behind zero (x ∷ c) d le = absurd (omega (arith, le))
first_behind (suc n) (x ∷ c) d le = ap (λ t. x ∷ t) (first_behind n c d (omega (arith, le)) ∙ ap (λ k. c ++ take k d) (omega arith))

-- the last bytes of both are the last ones of the second, and before them as many of the first as there is room for
pub last_behind : (n : ℕ) (c d : List ℕ) → last n (c ++ d) ≡ last (n - length (last n d)) c ++ last n d
last_behind n c d =
    let whole = length-append c d in
    elim (cases_Bool (nat_le (length d) n)) [
      | inl few ↦
          let le = leb-true (length d) n few in
          let all : last n d ≡ d = (let none : length d - n ≡ 0 = omega (arith, le) in ap (λ j. drop j d) none) in
          let k : length (c ++ d) - n ≡ length c - (n - length d) = omega (arith, whole, le) in
          ap (λ j. drop j (c ++ d)) k ∙ drop-append-le (length c - (n - length d)) c d (omega arith)
          ∙ sym (ap (λ e. last (n - length e) c ++ e) all)
      | inr many ↦
          let more : n < length d = grind (arith, many) in
          let full : length (last n d) ≡ n = omega (arith, more, length-drop (length d - n) d) in
          let k : length (c ++ d) - n ≡ length c + (length d - n) = omega (arith, whole, more) in
          let none : last (n - length (last n d)) c ≡ [] = drop_all (length c - (n - length (last n d))) c (omega (arith, full)) in
          ap (λ j. drop j (c ++ d)) k ∙ sym (drop-drop (length d - n) (length c) (c ++ d)) ∙ ap (drop (length d - n)) (drop_at c d (length c) refl)
          ∙ sym (ap (λ e. e ++ last n d) none)
    ]

-- ---- segments

-- the sets may be cut, so each one may
pub cut_parts : (s : NamedSet) (sets : List NamedSet) → may_be_cut (s ∷ sets) ≡ true → (are_bound (patterns_in s) ≡ false) × (may_be_cut sets ≡ true)
cut_parts s sets may =
    let none = or_parts (are_bound (patterns_in s)) (list_any (λ t. are_bound (patterns_in t)) sets) (not-true _ may) in
    (none.0, ap not none.1)

all_join : (sets all : List NamedSet) (a b : List ℕ) → AreAllSolid sets → may_be_cut sets ≡ true
    → joined_verdicts sets (segment_of all a) (segment_of all b) (verdicts_of sets a) (verdicts_of sets b) ≡ verdicts_of sets (a ++ b)
all_join [] all a b solid may = refl
all_join (s ∷ sets) all a b solid may =
    let parts = cut_parts s sets may in
    let first = verdicts_join (patterns_in s) a b solid.0 parts.0 in
    let others = all_join sets all a b solid.1 parts.1 in
    cc (first, others)

abbrev of_these : ℕ → List ℕ → List ℕ → List Verdict → Stretch
of_these n h t v = record { length = n; head = h; tail = t; verdicts = v }

of_fields : {m n : ℕ} {h i t u : List ℕ} {v w : List Verdict} → m ≡ n → h ≡ i → t ≡ u → v ≡ w → of_these m h t v ≡ of_these n i u w
of_fields e f g k = cc (e, f, g, k)

pub segments_join : SegmentsJoin
segments_join = λ sets a b solid may.
    of_fields (sym (length-append a b)) (first_of_first edge a (take edge b) ∙ first_then_first edge edge a b (omega arith))
    (last_of_last edge a (last edge b) ∙ last_then_last edge a b) (all_join sets sets a b solid may)

-- each verdict with its place is the finding there
pub placed_found : (place : ℕ) (sets : List NamedSet) (c : List ℕ) → placed_from place (verdicts_of sets c) ≡ findings_from place sets c
placed_found place [] c = refl
placed_found place (s ∷ sets) c = ap (λ t. record { set = place; verdict = verdict (patterns_in s) c } ∷ t) (placed_found (place + 1) sets c)

-- ---- the bytes at a cut

-- a verdict's match ends within the content
fits : (ps : List Pattern) (c : List ℕ) (by : ℕ) → by + length c < 2 ^ 64 → Fits by (verdict ps c)
fits ps c by short =
    (elim (verdict ps c) as (λ v. IsVerdict ps c v → Fits by v) [
      | Clean ↦ λ _. tt
      | Infected i e ↦ λ is. let inside = is.occurs.2.inside in omega (arith, short, inside)
    ]) (verdict_is ps c)

-- the least of the verdict at the cut and of the one behind it, if the stretch before is clean
pub across_is : (ps : List Pattern) (a b : List ℕ) (s : Seam) (bytes : List ℕ) (at_cut after u w r : Verdict) → AreSolid ps → are_bound ps ≡ false → IsSeam a b s → Clean ≡ verdict ps a
    → after ≡ verdict ps b → at_cut ≡ verdict ps bytes → bytes ≡ s.bytes.items → (Fits s.start at_cut → u ≡ moved_on s.start at_cut) → (Fits s.cut after → w ≡ moved_on s.cut after)
    → r ≡ least_of u w → r ≡ verdict ps (a ++ b)
across_is ps a b s bytes at_cut after u w r solid free seam clean is at same moved then least =
    let here : at_cut ≡ verdict ps (last edge a ++ take edge b) = at ∙ ap (verdict ps) (same ∙ seam.bytes) in
    let lengths = length-append (last edge a) (take edge b) in
    let before = length-drop (length a - edge) a in
    let behind = length-take edge b in
    let short = seam.short in
    let start = seam.start in
    let cut = seam.cut in
    let room : s.start + length (last edge a ++ take edge b) < 2 ^ 64 = grind (arith, lengths, before, behind, short, start) in
    let u_is : u ≡ moved_on (length a - length (last edge a)) (verdict ps (last edge a ++ take edge b)) =
    moved (subst (Fits s.start) (sym here) (fits ps (last edge a ++ take edge b) s.start room)) ∙ ap (moved_on s.start) here ∙ ap (λ n. moved_on n (verdict ps (last edge a ++ take edge b))) start in
    let w_is : w ≡ moved_on (length a) (verdict ps b) =
    then (subst (Fits s.cut) (sym is) (fits ps b s.cut (omega (arith, short, cut)))) ∙ ap (moved_on s.cut) is ∙ ap (λ n. moved_on n (verdict ps b)) cut in
    least ∙ ap (λ v. least_of v w) u_is ∙ ap (least_of (moved_on (length a - length (last edge a)) (verdict ps (last edge a ++ take edge b)))) w_is
    ∙ subst (λ v. joined_verdict ps (length a) (last edge a) (take edge b) v (verdict ps b) ≡ verdict ps (a ++ b)) (sym clean) (verdicts_join ps a b solid free)

-- ---- a segment that grows

-- what is kept, with the bytes and verdicts of a stretch that follows, is kept of both
pub grown : (sets : List NamedSet) (a b head tail : List ℕ) (s t : Stretch) → s ≡ segment_of sets a → take edge head ≡ take edge b → last edge tail ≡ last edge b → t.length ≡ s.length + length b
    → t.head ≡ take edge (s.head ++ head) → t.tail ≡ last edge (s.tail ++ tail) → t.verdicts ≡ verdicts_of sets (a ++ b) → t ≡ segment_of sets (a ++ b)
grown sets a b head tail s t is first end longer kept_first kept_last found =
    of_fields {m = t.length} {h = t.head} {t = t.tail} {v = t.verdicts} (longer ∙ ap (λ u. u.length + length b) is ∙ sym (length-append a b))
    (kept_first ∙ ap (λ u. take edge (u.head ++ head)) is ∙ first_of_first edge a head ∙ sym (first_then_first edge edge a head (omega arith)) ∙ ap (λ l. take edge (a ++ l)) first
    ∙ first_then_first edge edge a b (omega arith))
    (kept_last ∙ ap (λ u. last edge (u.tail ++ tail)) is ∙ last_of_last edge a tail ∙ sym (last_then_last edge a tail) ∙ ap (λ l. last edge (a ++ l)) end ∙ last_then_last edge a b)
    found

-- the bytes at the cut behind it
pub seam_is : (sets : List NamedSet) (a b head : List ℕ) (s : Stretch) (seam : Seam) → s ≡ segment_of sets a → take edge head ≡ take edge b → s.length + length b < 2 ^ 64
    → seam.bytes.items ≡ s.tail ++ take edge head → seam.start ≡ s.length - length s.tail → seam.cut ≡ s.length → IsSeam a b seam
seam_is sets a b head s seam is first short bytes start cut =
    let long : s.length ≡ length a = ap (λ u. u.length) is in
    record {
      bytes = bytes ∙ ap (λ u. u.tail ++ take edge head) is ∙ ap (λ l. last edge a ++ l) first;
      start = start ∙ ap (λ u. u.length - length u.tail) is;
      cut = cut ∙ long;
      short = omega (arith, short, long);
    }

-- ---- a list of which so many are done

-- of each element g if its place is below n, and f else
abbrev pub halves : {X Y : Type 0} → (X → Y) → (X → Y) → ℕ → List X → List Y
halves f g n [] = []
halves f g zero (x ∷ xs) = f x ∷ halves f g zero xs
halves f g (suc n) (x ∷ xs) = g x ∷ halves f g n xs

pub halves_none : {X Y : Type 0} (f g : X → Y) (xs : List X) → halves f g 0 xs ≡ map f xs
halves_none f g [] = refl
halves_none f g (x ∷ xs) = ap (λ t. f x ∷ t) (halves_none f g xs)

pub halves_all : {X Y : Type 0} (f g : X → Y) (n : ℕ) (xs : List X) → length xs ≤ n → halves f g n xs ≡ map g xs
halves_all f g n [] le = refl
halves_all f g zero (x ∷ xs) le = absurd (omega (arith, le))
halves_all f g (suc n) (x ∷ xs) le = ap (λ t. g x ∷ t) (halves_all f g n xs (omega (arith, le)))

pub halves_next : {X Y : Type 0} (f g : X → Y) (i : ℕ) (xs : List X) (x : X) → slice_get xs i ≡ Some x → set (halves f g i xs) i (g x) ≡ halves f g (suc i) xs
halves_next f g i [] x at = absurd (cc at)
halves_next f g zero (y ∷ xs) x at = let same : y ≡ x = cc at in ap (λ z. g z ∷ halves f g zero xs) (sym same)
halves_next f g (suc i) (y ∷ xs) x at = ap (λ t. g y ∷ t) (halves_next f g i xs x at)

pub halves_at : {X Y : Type 0} (f g : X → Y) (i : ℕ) (xs : List X) (x : X) (d : Y) → slice_get xs i ≡ Some x → get_or (halves f g i xs) i d ≡ f x
halves_at f g i [] x d at = absurd (cc at)
halves_at f g zero (y ∷ xs) x d at = let same : y ≡ x = cc at in ap f same
halves_at f g (suc i) (y ∷ xs) x d at = halves_at f g i xs x d at

-- one more is done
pub one_more : {X Y : Type 0} (f g : X → Y) (i : ℕ) (xs : List X) (x : X) (vs ws : List Y) (before after : Y) → vs ≡ halves f g i xs → slice_get xs i ≡ Some x
    → ws ≡ set vs i after → (before ≡ f x → after ≡ g x) → before ≡ get_or vs i before → ws ≡ halves f g (i + 1) xs
one_more f g i xs x vs ws before after so at now step was =
    let old : before ≡ f x = was ∙ ap (λ l. get_or l i before) so ∙ halves_at f g i xs x before at in
    now ∙ ap (λ l. set l i after) so ∙ ap (set (halves f g i xs) i) (step old) ∙ halves_next f g i xs x at ∙ ap (λ n. halves f g n xs) (omega arith)

-- what is at a place of a list of images is the image of what is there
pub image_at : {X Y : Type 0} (h : X → Y) (xs : List X) (ys : List Y) (i : ℕ) (x : X) (y : Y) → ys ≡ map h xs → slice_get xs i ≡ Some x → y ≡ get_or ys i y → y ≡ h x
image_at h xs ys i x y is at some =
    let there : slice_get ys i ≡ Some (h x) = ap (λ l. slice_get l i) is ∙ slice_get-map h xs i ∙ ap (option_map h) at in
    some ∙ get_or_from_slice_get ys i (h x) y there

-- a step under a set is one under the same set
pub step_under : (set of : NumberedSet) (c d : List ℕ) (before after : Verdict) → of ≡ set → are_bound (patterns_of set.signatures) ≡ false
    → (are_bound (patterns_of of.signatures) ≡ false → before ≡ verdict (patterns_of of.signatures) c → after ≡ verdict (patterns_of of.signatures) d)
    → before ≡ verdict (patterns_of set.signatures) c → after ≡ verdict (patterns_of set.signatures) d
step_under set of c d before after same free step =
    subst (λ s. are_bound (patterns_of s.signatures) ≡ false → (are_bound (patterns_of s.signatures) ≡ false → before ≡ verdict (patterns_of s.signatures) c → after ≡ verdict (patterns_of s.signatures) d)
    → before ≡ verdict (patterns_of s.signatures) c → after ≡ verdict (patterns_of s.signatures) d) same (λ free step. step free) free
    (subst (λ s. are_bound (patterns_of s.signatures) ≡ false → before ≡ verdict (patterns_of s.signatures) c → after ≡ verdict (patterns_of s.signatures) d) same step)

-- nothing is at a place behind the last
pub past : {X : Type 0} (xs : List X) (i : ℕ) → None ≡ slice_get xs i → length xs ≤ i
past [] i none = omega arith
past (x ∷ xs) zero none = absurd (cc none)
past (x ∷ xs) (suc i) none = let le = past xs i none in omega (arith, le)

-- the images of the first ones, and of one more
pub next_image : {X Y : Type 0} (f : X → Y) (xs : List X) (ys : List Y) (x : X) (y : Y) → ys ≡ map f (take (length ys) xs) → slice_get xs (length ys) ≡ Some x → y ≡ f x
    → ys ++ y ∷ [] ≡ map f (take (length (ys ++ y ∷ [])) xs)
next_image f xs ys x y so at is =
    let n = length ys in
    let longer : length (ys ++ y ∷ []) ≡ n + 1 = length-append ys (y ∷ []) in
    let here : get_or xs n x ≡ x = get_or_from_slice_get xs n x x at in
    sym (ap (λ k. map f (take k xs)) longer ∙ map_more f xs n x (slice_get_within xs n x at) ∙ ap (λ l. l ++ f (get_or xs n x) ∷ []) (sym so) ∙ ap (λ z. ys ++ f z ∷ []) here ∙ ap (λ z. ys ++ z ∷ []) (sym is))

pub all_images : {X Y : Type 0} (f : X → Y) (xs : List X) (ys : List Y) → ys ≡ map f (take (length ys) xs) → None ≡ slice_get xs (length ys) → ys ≡ map f xs
all_images f xs ys so none = so ∙ ap (map f) (take_all (length ys) xs (past xs (length ys) none))

-- a list that is written over by one of its length is that
pub refilled : {X : Type 0} (n : ℕ) (xs ys : List X) → length ys ≡ n → refill n xs ys ≡ ys
refilled n xs ys same = take_at ys (drop (length ys) xs) n same

-- the sets behind a place decide as those from it on, if the one there may be cut or is not there
pub free_next : (i : ℕ) (sets : List NamedSet) (s : NamedSet) → slice_get sets i ≡ Some s → are_bound (patterns_in s) ≡ false → may_be_cut (drop (i + 1) sets) ≡ may_be_cut (drop i sets)
free_next i sets s at free =
    let next : i + 1 ≡ suc i = omega arith in
    ap (λ n. may_be_cut (drop n sets)) next ∙ from i sets at
  where
    from : (i : ℕ) (sets : List NamedSet) → slice_get sets i ≡ Some s → may_be_cut (drop (suc i) sets) ≡ may_be_cut (drop i sets)
    from i [] at = absurd (cc at)
    from zero (t ∷ sets) at = let same : t ≡ s = cc at in rw (ap (λ u. are_bound (patterns_in u)) same ∙ free) refl
    from (suc i) (t ∷ sets) at = from i sets at

pub none_next : (i : ℕ) (sets : List NamedSet) → None ≡ slice_get sets i → may_be_cut (drop (i + 1) sets) ≡ may_be_cut (drop i sets)
none_next i sets none =
    let le = past sets i none in
    ap may_be_cut (drop_all (i + 1) sets (omega (arith, le)) ∙ sym (drop_all i sets le))

pub bound_here : (i : ℕ) (sets : List NamedSet) (s : NamedSet) → slice_get sets i ≡ Some s → are_bound (patterns_in s) ≡ true → may_be_cut (drop i sets) ≡ false
bound_here i [] s at bound = absurd (cc at)
bound_here zero (t ∷ sets) s at bound = let same : t ≡ s = cc at in rw (ap (λ u. are_bound (patterns_in u)) same ∙ bound) refl
bound_here (suc i) (t ∷ sets) s at bound = bound_here i sets s at bound

-- of sets that may be cut, the one at a place may
pub cut_at : (i : ℕ) (sets : List NamedSet) (s : NamedSet) → may_be_cut sets ≡ true → slice_get sets i ≡ Some s → are_bound (patterns_in s) ≡ false
cut_at i [] s may at = absurd (cc at)
cut_at zero (t ∷ sets) s may at = let same : t ≡ s = cc at in subst (λ u. are_bound (patterns_in u) ≡ false) same (cut_parts t sets may).0
cut_at (suc i) (t ∷ sets) s may at = cut_at i sets s (cut_parts t sets may).1 at
