-- What stands at the front of bytes, of asks as of answers.
use Rattle.std.proofs.Common.{ℕ, ◌≡◌, ◌+◌, ◌≤◌, List, ◌++◌, length, take, drop, Bool, true, false, cond, Result, Ok, Err, refl, sym, ◌∙◌, ap, arith, length-drop}
use Rattle.std.specs.Prelude.{Option, Some, None, slice_index}
use Rattle.std.proofs.lemmas.List.{take-append-le, drop-append-le, get_or-take, get_or-drop}
use Rattle.std.proofs.Math.Seq.{take-append_seam}
use Rattle.av_asks.specs.declared.head.Side.{Side}
use Rattle.av_asks.specs.declared.head.Head.{Head}
use Rattle.av_asks.specs.declared.head.Head.TheVariants as head
use Rattle.av_asks.specs.Spelling.{field4, framed}
use Rattle.av_asks.specs.Head.{head_of}
use Rattle.av_asks.specs.Reading.{front_by, with_size}
use Rattle.av_asks.proofs.HeadLemmas.{whole_is, whole-more, length-more, kind-more}

-- what was told stays, whatever comes behind it
abbrev pub IsSteady : {A F : Type 0} → (List ℕ → Result (Option (A × ℕ)) F) → Type 0
IsSteady {A} {F} front = (a b : List ℕ) (r : Result (Option (A × ℕ)) F) → front a ≡ r → (front a ≡ Ok None → ⊥) → front (a ++ b) ≡ r

-- what is taken is some of what is there
abbrev pub IsSized : {A F : Type 0} → (List ℕ → Result (Option (A × ℕ)) F) → Type 0
IsSized {A} front = (bytes : List ℕ) (x : A) (size : ℕ) → front bytes ≡ Ok (Some (x, size)) → (1 ≤ size) × (size ≤ length bytes)

-- a test that had to fail
pub passes : {A F : Type 0} (b : Bool) (f : F) (r : Result A F) (x : A) → cond b (Err f) r ≡ Ok x → (b ≡ false) × (r ≡ Ok x)
passes true f r x e = absurd cc
passes false f r x e = (refl, e)

-- the first byte of a frame's body
pub first_is : (bytes : List ℕ) (n : ℕ) → 1 ≤ n → slice_index (take n (drop 4 bytes)) 0 ≡ slice_index bytes 4
first_is bytes n some = get_or-take n (drop 4 bytes) 0 0 (omega arith) ∙ get_or-drop 4 bytes 0 0

with_size_is : {A F : Type 0} (k : ℕ) (r : Result A F) (x : A) (size : ℕ) → with_size k r ≡ Ok (Some (x, size)) → (r ≡ Ok x) × (k ≡ size)
with_size_is {A} k (Ok y) x size e =
    let pairs : ◌≡◌ {A = A × ℕ} (y, k) (x, size) = cc in
    (ap (λ p. Ok p.0) pairs, ap (λ p. p.1) pairs)
with_size_is k (Err f) x size e = absurd cc

-- what is given was read of a whole frame
pub front_is : {A F : Type 0} (length_fault kind_fault : F) (read : List ℕ → Result A F) (rest : List ℕ) (h : Head) (x : A) (size : ℕ) → front_by length_fault kind_fault read rest h ≡ Ok (Some (x, size)) → (n : ℕ) × (h ≡ head.Whole n) × (read (take n (drop 4 rest)) ≡ Ok x) × (4 + n ≡ size)
front_is l k read rest head.Waits x size e = absurd cc
front_is l k read rest head.Length x size e = absurd cc
front_is l k read rest head.Kind x size e = absurd cc
front_is l k read rest (head.Whole n) x size e =
    let is = with_size_is (4 + n) (read (take n (drop 4 rest))) x size e in (n, refl, is.0, is.1)

pub sized_by : {A F : Type 0} (side : Side) (length_fault kind_fault : F) (read : List ℕ → Result A F) (rest : List ℕ) (x : A) (size : ℕ) → front_by length_fault kind_fault read rest (head_of side rest) ≡ Ok (Some (x, size)) → (1 ≤ size) × (size ≤ length rest)
sized_by side l k read rest x size e =
    let is = front_is l k read rest (head_of side rest) x size e in
    let whole = whole_is side rest is.0 is.1 in
    (omega (arith, is.3), omega (arith, is.3, whole.3))

body-more : (a b : List ℕ) (n : ℕ) → 4 + n ≤ length a → take n (drop 4 (a ++ b)) ≡ take n (drop 4 a)
body-more a b n long =
    ap (take n) (drop-append-le 4 a b (omega arith)) ∙ take-append-le n (drop 4 a) b (omega (arith, length-drop 4 a))

pub steady_by : {A F : Type 0} (side : Side) (length_fault kind_fault : F) (read : List ℕ → Result A F) (a b : List ℕ) (r : Result (Option (A × ℕ)) F) → front_by length_fault kind_fault read a (head_of side a) ≡ r → (front_by length_fault kind_fault read a (head_of side a) ≡ Ok None → ⊥) → front_by length_fault kind_fault read (a ++ b) (head_of side (a ++ b)) ≡ r
steady_by {A} {F} side l k read a b r e told =
    let now : List ℕ → Head → Result (Option (A × ℕ)) F = front_by l k read in
    (elim (head_of side a) as (λ h. head_of side a ≡ h → now (a ++ b) (head_of side (a ++ b)) ≡ now a h) [
      | head.Waits ↦ λ is. absurd (told (ap (now a) is))
      | head.Length ↦ λ is. ap (now (a ++ b)) (length-more side a b is)
      | head.Kind ↦ λ is. ap (now (a ++ b)) (kind-more side a b is)
      | head.Whole n ↦ λ is.
          ap (now (a ++ b)) (whole-more side a b n is)
          ∙ ap (λ body. with_size (4 + n) (read body)) (body-more a b n (whole_is side a n is).3)
    ]) refl ∙ e

-- a frame that was spelled is read, whatever follows it
pub framed_front : {A F : Type 0} (length_fault kind_fault : F) (read : List ℕ → Result A F) (body more : List ℕ) (h : Head) (x : A) → h ≡ head.Whole (length body) → read body ≡ Ok x → front_by length_fault kind_fault read (framed body ++ more) h ≡ Ok (Some (x, 4 + length body))
unfolding field4
framed_front l k read body more h x whole e =
    let all = framed body ++ more in
    ap (front_by l k read all) whole
    ∙ ap (λ b. with_size (4 + length body) (read b)) (take-append_seam body more)
    ∙ ap (with_size (4 + length body)) e

-- what was read of the frame at the front stands there
pub found_front : {A F : Type 0} (side : Side) (length_fault kind_fault : F) (read : List ℕ → Result A F) (rest : List ℕ) (n k : ℕ) (x : A) → head.Whole n ≡ head_of side rest → k ≡ n → read (take k (drop 4 rest)) ≡ Ok x → front_by length_fault kind_fault read rest (head_of side rest) ≡ Ok (Some (x, 4 + n))
found_front side l f read rest n k x whole same e =
    ap (front_by l f read rest) (sym whole)
    ∙ ap (λ i. with_size (4 + n) (read (take i (drop 4 rest)))) (sym same)
    ∙ ap (with_size (4 + n)) e
