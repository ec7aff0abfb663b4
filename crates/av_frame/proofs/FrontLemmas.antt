-- What stands at the front of bytes.
use Rattle.std.proofs.Common.{ℕ, ◌≡◌, ◌+◌, ◌≤◌, List, ◌++◌, length, take, drop, true, false, cond, nat_eq, nat_lt, ◌||◌, inl, inr, Result, Ok, Err, refl, sym, ◌∙◌, ap, subst, arith, length-drop, length-append}
use Rattle.std.specs.Prelude.{Option, Some, None, IsOk}
use Rattle.std.specs.Int.{w32, to_be_bytes, from_be_bytes}
use Rattle.std.proofs.lemmas.Nat.{from_be_bytes-to_be_bytes_4}
use Rattle.std.proofs.lemmas.List.{take-append-drop, length-take-le, take-append-le, drop-append-le, drop-drop}
use Rattle.std.proofs.Math.Seq.{take-append_seam}
use Rattle.std.proofs.lemmas.Bool.{ltb-false, le-ltb}
use Rattle.std.proofs.lemmas.Bool.Decides.{nat_tests}
use Rattle.av_base.specs.declared.verdict.Verdict.TheVariants.{Clean, Infected}
use Rattle.av_frame.specs.declared.outcome.Outcome.TheVariants.{Judged, Failed}
use Rattle.av_frame.specs.declared.fault.FrameFault.{FrameFault}
use Rattle.av_frame.specs.declared.fault.FrameFault.TheVariants as fault
use Rattle.av_frame.specs.declared.message.Body.{Body}
use Rattle.av_frame.specs.declared.message.Body.TheVariants.{Scan, Chunk, NoChunk, Abort, Hello, Read, Reply, Updated}
use Rattle.av_frame.specs.declared.sizes.TheConstants.{MAX_BODY}
use Rattle.av_frame.specs.Message.{IsInRange, IsLetter, Letter}
use Rattle.av_frame.specs.Spelling.{spelling, size_of, frame, field4}
use Rattle.av_frame.specs.Reading.{number4, decoded}
use Rattle.av_base.specs.Answers.{Reads}
use Rattle.av_base.specs.declared.refusal.Refusal.{Refusal}
use Rattle.av_base.specs.declared.refusal.Refusal.TheVariants.{NoMemory}
use Rattle.av_frame.specs.Feed.{with_size, front_of, BeginsWithFrame}
use Rattle.av_frame.proofs.SizeLemmas.{length-spelling}
use Rattle.av_frame.proofs.SpellingLemmas.{decoded-spelling}
use Rattle.av_frame.proofs.ReadingLemmas.{IsBytes, IsBytes-taken, four, chosen, decoded_spells}

-- ---- how long bodies and frames are

size_bounds : (m : Body) → IsInRange m → (1 ≤ size_of m) × (size_of m ≤ MAX_BODY)
size_bounds (Scan id stream generation size) fits = (omega arith, omega arith)
size_bounds (Chunk id offset bytes) fits = (omega arith, omega (arith, fits.1.1))
size_bounds (NoChunk id offset cause) fits = (omega arith, omega arith)
size_bounds (Abort id) fits = (omega arith, omega arith)
size_bounds (Hello volume version) fits = (omega arith, omega arith)
size_bounds (Read id offset count) fits = (omega arith, omega arith)
size_bounds (Reply id (Judged version Clean)) fits = (omega arith, omega arith)
size_bounds (Reply id (Judged version (Infected index end_at))) fits = (omega arith, omega arith)
size_bounds (Reply id (Failed cause)) fits = (omega arith, omega arith)
size_bounds (Updated version) fits = (omega arith, omega arith)

pub spelling_bounds : (m : Letter) → IsLetter m → (1 ≤ length (spelling m)) × (length (spelling m) ≤ MAX_BODY)
spelling_bounds m fits = rw length-spelling (size_bounds m.body fits)

pub length-frame : (m : Letter) → length (frame m) ≡ 4 + length (spelling m)
unfolding field4
length-frame m = omega arith

-- ---- the front by its numbers

abbrev front_by : ℕ → ℕ → Result Letter FrameFault → Result (Option (Letter × ℕ)) FrameFault
front_by len n r =
    cond (nat_lt len 4) (Ok None) (cond (nat_eq n 0 || nat_lt MAX_BODY n) (Err fault.Length) (cond (nat_lt len (4 + n)) (Ok None) (with_size (4 + n) r)))

front_by-whole : (len n : ℕ) (r : Result Letter FrameFault) → 1 ≤ n → n ≤ MAX_BODY → 4 + n ≤ len → front_by len n r ≡ with_size (4 + n) r
front_by-whole len n r low high long =
    let enough : nat_lt len 4 ≡ false = le-ltb _ _ (omega arith) in
    let good : (nat_eq n 0 || nat_lt MAX_BODY n) ≡ false = grind (arith, nat_tests) in
    let whole : nat_lt len (4 + n) ≡ false = le-ltb _ _ long in
    rw (enough, good, whole) refl

-- a message's frame at the front is found
pub front_of-frame : (m : Letter) (more : List ℕ) → IsLetter m → front_of (frame m ++ more) ≡ Ok (Some (m, 4 + length (spelling m)))
unfolding front_of field4
front_of-frame m more fits =
    let n = length (spelling m) in
    let all = frame m ++ more in
    let bounds = spelling_bounds m fits in
    let size : number4 all 0 ≡ n = from_be_bytes-to_be_bytes_4 n (omega (arith, bounds.1)) in
    let long : length all ≡ 4 + n + length more = omega (arith, length-append (spelling m) more) in
    let body : take n (drop 4 all) ≡ spelling m = take-append_seam (spelling m) more in
    ap (λ k. front_by (length all) k (decoded (take k (drop 4 all)))) size
    ∙ ap (λ b. front_by (length all) n (decoded b)) body
    ∙ ap (front_by (length all) n) (decoded-spelling m fits)
    ∙ front_by-whole (length all) n (Ok m) bounds.0 bounds.1 (omega (arith, long))

-- ---- what is found is a message's frame

-- a body that was read stands in its frame
pub body_framed : (bytes : List ℕ) (m : Letter) → IsBytes bytes → 4 + number4 bytes 0 ≤ length bytes → decoded (take (number4 bytes 0) (drop 4 bytes)) ≡ Ok m → IsLetter m × (bytes ≡ frame m ++ drop (4 + number4 bytes 0) bytes) × (number4 bytes 0 ≡ length (spelling m))
unfolding field4
body_framed bytes m fits long e =
    let n = number4 bytes 0 in
    let body = take n (drop 4 bytes) in
    let spells = decoded_spells body m (IsBytes-taken bytes 4 n fits) e in
    let count : length body ≡ n = length-take-le n (drop 4 bytes) (omega (arith, length-drop 4 bytes)) in
    let size : n ≡ length (spelling m) = sym count ∙ ap length spells.1 in
    let front : bytes ≡ to_be_bytes w32 n ++ drop 4 bytes = four bytes 0 fits (omega arith) in
    let rest : drop 4 bytes ≡ spelling m ++ drop (4 + n) bytes =
    sym (take-append-drop n (drop 4 bytes)) ∙ ap (λ b. b ++ drop n (drop 4 bytes)) spells.1 ∙ ap (λ xs. spelling m ++ xs) (drop-drop n 4 bytes) in
    let whole : bytes ≡ to_be_bytes w32 n ++ (spelling m ++ drop (4 + n) bytes) = front ∙ ap (λ xs. to_be_bytes w32 n ++ xs) rest in
    (spells.0, whole ∙ ap (λ k. to_be_bytes w32 k ++ (spelling m ++ drop (4 + n) bytes)) size, size)

with_size_is : (k : ℕ) (r : Result Letter FrameFault) (m : Letter) (size : ℕ) → with_size k r ≡ Ok (Some (m, size)) → (r ≡ Ok m) × (k ≡ size)
with_size_is k (Ok x) m size e =
    let pairs : ◌≡◌ {A = Letter × ℕ} (x, k) (m, size) = cc in
    (ap (λ p. Ok p.0) pairs, ap (λ p. p.1) pairs)
with_size_is k (Err f) m size e = absurd cc

-- the front is a message's frame
pub front_framed : (bytes : List ℕ) (m : Letter) (size : ℕ) → IsBytes bytes → front_of bytes ≡ Ok (Some (m, size)) → IsLetter m × (bytes ≡ frame m ++ drop size bytes) × (size ≡ 4 + length (spelling m))
unfolding front_of
front_framed bytes m size fits e =
    let n = number4 bytes 0 in
    let r = decoded (take n (drop 4 bytes)) in
    let by_size = cond (nat_lt (length bytes) (4 + n)) (Ok None) (with_size (4 + n) r) in
    let by_length = cond (nat_eq n 0 || nat_lt MAX_BODY n) (Err fault.Length) by_size in
    elim (chosen (nat_lt (length bytes) 4) (Ok None) by_length (Ok (Some (m, size))) e) [
      | inl p ↦ absurd cc
      | inr p ↦ elim (chosen (nat_eq n 0 || nat_lt MAX_BODY n) (Err fault.Length) by_size (Ok (Some (m, size))) p.1) [
        | inl q ↦ absurd cc
        | inr q ↦ elim (chosen (nat_lt (length bytes) (4 + n)) (Ok None) (with_size (4 + n) r) (Ok (Some (m, size))) q.1) [
          | inl s ↦ absurd cc
          | inr s ↦
              let is = with_size_is (4 + n) r m size s.1 in
              let framed = body_framed bytes m fits (ltb-false _ _ s.0) is.0 in
              (framed.0, framed.1 ∙ ap (λ k. frame m ++ drop k bytes) is.1, sym is.1 ∙ ap (λ k. 4 + k) framed.2)
        ]
      ]
    ]

-- ---- a fault stays, whatever comes behind it

number4-more : (a b : List ℕ) → 4 ≤ length a → number4 (a ++ b) 0 ≡ number4 a 0
number4-more a b long = ap (from_be_bytes w32) (take-append-le 4 a b long)

body-more : (a b : List ℕ) (n : ℕ) → 4 + n ≤ length a → take n (drop 4 (a ++ b)) ≡ take n (drop 4 a)
body-more a b n long =
    ap (take n) (drop-append-le 4 a b (omega arith)) ∙ take-append-le n (drop 4 a) b (omega (arith, length-drop 4 a))

-- the front's numbers once its length is there
front_by-bad : (len n : ℕ) (r : Result Letter FrameFault) → 4 ≤ len → (nat_eq n 0 || nat_lt MAX_BODY n) ≡ true → front_by len n r ≡ Err fault.Length
front_by-bad len n r long bad =
    let enough : nat_lt len 4 ≡ false = le-ltb _ _ long in
    rw (enough, bad) refl

front_by-good : (len n : ℕ) (r : Result Letter FrameFault) → (nat_eq n 0 || nat_lt MAX_BODY n) ≡ false → 4 + n ≤ len → front_by len n r ≡ with_size (4 + n) r
front_by-good len n r good long =
    let enough : nat_lt len 4 ≡ false = le-ltb _ _ (omega arith) in
    let whole : nat_lt len (4 + n) ≡ false = le-ltb _ _ long in
    rw (enough, good, whole) refl

pub front_of-more : (a b : List ℕ) (f : FrameFault) → front_of a ≡ Err f → front_of (a ++ b) ≡ Err f
unfolding front_of
front_of-more a b f e =
    let n = number4 a 0 in
    let all = a ++ b in
    let r = decoded (take n (drop 4 a)) in
    let by_size = cond (nat_lt (length a) (4 + n)) (Ok None) (with_size (4 + n) r) in
    let by_length = cond (nat_eq n 0 || nat_lt MAX_BODY n) (Err fault.Length) by_size in
    elim (chosen (nat_lt (length a) 4) (Ok None) by_length (Err f) e) [
      | inl p ↦ absurd cc
      | inr p ↦
          let long : 4 ≤ length a = ltb-false _ _ p.0 in
          let longer : 4 ≤ length all = omega (arith, length-append a b) in
          let same = ap (λ k. front_by (length all) k (decoded (take k (drop 4 all)))) (number4-more a b long) in
          elim (chosen (nat_eq n 0 || nat_lt MAX_BODY n) (Err fault.Length) by_size (Err f) p.1) [
            | inl q ↦ same ∙ front_by-bad (length all) n _ longer q.0 ∙ cc
            | inr q ↦ elim (chosen (nat_lt (length a) (4 + n)) (Ok None) (with_size (4 + n) r) (Err f) q.1) [
              | inl s ↦ absurd cc
              | inr s ↦
                  let whole : 4 + n ≤ length a = ltb-false _ _ s.0 in
                  same ∙ front_by-good (length all) n _ q.0 (omega (arith, length-append a b))
                  ∙ ap (λ x. with_size (4 + n) (decoded x)) (body-more a b n whole) ∙ s.1
            ]
          ]
    ]

-- where the decoder found a message there is a frame
pub decoded_framed : (bytes : List ℕ) → IsBytes bytes → 4 + number4 bytes 0 ≤ length bytes → IsOk (decoded (take (number4 bytes 0) (drop 4 bytes))) → (m : Letter) × (more : List ℕ) × IsLetter m × (bytes ≡ frame m ++ more)
decoded_framed bytes fits long ok =
    let body = take (number4 bytes 0) (drop 4 bytes) in
    (elim (decoded body) as (λ r. decoded body ≡ r → IsOk r → (m : Letter) × (more : List ℕ) × IsLetter m × (bytes ≡ frame m ++ more)) [
      | Ok m ↦ λ e _. let framed = body_framed bytes m fits long e in (m, drop (4 + number4 bytes 0) bytes, framed.0, framed.1)
      | Err f ↦ λ e no_message. absurd cc
    ]) refl ok

-- the same of a body that was cut out of the bytes
pub cut_framed : (bytes behind body : List ℕ) (size : ℕ) (m : Letter) → IsBytes bytes → size ≡ number4 bytes 0 → 4 + size ≤ length bytes → behind ≡ drop 4 bytes → body ≡ take size behind → decoded body ≡ Ok m → IsLetter m × (bytes ≡ frame m ++ drop (4 + size) bytes)
cut_framed bytes behind body size m fits is long first second e =
    let cut : body ≡ take (number4 bytes 0) (drop 4 bytes) = second ∙ ap (take size) first ∙ ap (λ k. take k (drop 4 bytes)) is in
    let framed = body_framed bytes m fits (omega (arith, is)) (ap decoded (sym cut) ∙ e) in
    (framed.0, framed.1 ∙ ap (λ k. frame m ++ drop (4 + k) bytes) (sym is))

pub cut_begins : (bytes behind body : List ℕ) (size : ℕ) (refusal : Refusal FrameFault) → IsBytes bytes → size ≡ number4 bytes 0 → 4 + size ≤ length bytes → behind ≡ drop 4 bytes → body ≡ take size behind → Reads {A = Letter} (Err refusal) (decoded body) → refusal ≡ NoMemory → BeginsWithFrame bytes
cut_begins bytes behind body size refusal fits is long first second reads none =
    let cut : body ≡ take (number4 bytes 0) (drop 4 bytes) = second ∙ ap (take size) first ∙ ap (λ k. take k (drop 4 bytes)) is in
    let ok : IsOk (decoded body) = subst (λ r. Reads {A = Letter} (Err r) (decoded body)) none reads in
    decoded_framed bytes fits (omega (arith, is)) (subst (λ b. IsOk (decoded b)) cut ok)
