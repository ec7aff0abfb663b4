-- What is read is spelled so.
use Rattle.std.proofs.Common.{ℕ, ◌≡◌, ◌+◌, ◌≤◌, ◌<◌, ◌^◌, List, [], ◌∷◌, ◌++◌, length, take, drop, get_or, Bool, true, false, cond, nat_eq, ◌⊎◌, inl, inr, Result, Ok, Err, refl, sym, ◌∙◌, ap, subst, arith, length-drop, drop-cons, add-one}
use Rattle.std.specs.Prelude.{Option, Some, None, slice_index}
use Rattle.std.specs.Int.{w32, w64, to_be_bytes, from_be_bytes}
use Rattle.std.proofs.lemmas.Nat.{be_bytes_4, be_bytes_8}
use Rattle.std.proofs.lemmas.List.{take-append-drop, length-take, get_or-take, get_or-drop, get_or_past, drop-drop}
use Rattle.std.proofs.lemmas.Bool.{cases_lt, eqb-true, ltb-true}
use Rattle.std.proofs.Math.ListN.{drop_of_length-le}
use Rattle.std.proofs.lemmas.Bool.Decides.{nat_tests}
use Rattle.av_base.specs.declared.message_id.MessageId.{MessageId}
use Rattle.av_base.specs.Port.{port_number, port_of}
use Rattle.av_base.specs.declared.port.Port.{Port}
use Rattle.av_base.specs.declared.port.Port.TheVariants as port
use Rattle.av_base.specs.declared.verdict.Verdict.TheVariants.{Clean, Infected}
use Rattle.av_frame.specs.declared.cause.NoChunkCause.{NoChunkCause}
use Rattle.av_frame.specs.declared.cause.NoChunkCause.TheVariants.{NoQuestion, PastEnd}
use Rattle.av_frame.specs.declared.cause.FailCause.{FailCause}
use Rattle.av_frame.specs.declared.cause.FailCause.TheVariants.{JobsFull, PastLength}
use Rattle.av_frame.specs.declared.outcome.Outcome.{Outcome}
use Rattle.av_frame.specs.declared.outcome.Outcome.TheVariants.{Judged, Failed}
use Rattle.av_frame.specs.declared.fault.FrameFault.{FrameFault}
use Rattle.av_frame.specs.declared.fault.FrameFault.TheVariants as fault
use Rattle.av_frame.specs.declared.message.Body.{Body}
use Rattle.av_frame.specs.declared.message.Body.TheVariants.{Scan, Chunk, NoChunk, Abort, Hello, Read, Reply, Updated}
use Rattle.av_frame.specs.Cause.{no_chunk_number, no_chunk_cause, fail_number, fail_cause}
use Rattle.av_frame.specs.declared.sizes.TheConstants.{CHUNK_HEADER}
use Rattle.av_frame.specs.Message.{IsInRange, in_range, Letter, via}
use Rattle.av_frame.specs.Spelling.{fields, kind_of, Spells, id_fields, field8, field4}
use Rattle.av_frame.specs.Reading.{number8, number4, id_at, port_at, checked, scan_of, chunk_of, no_chunk_with, no_chunk_of, abort_of, hello_of, read_of, clean_of, infected_of, failed_with, failed_of, reply_of, updated_of, plain_of, decoded}

-- ---- tests that decide

-- of two ways the one that was gone
pub chosen : {A : Type 0} (b : Bool) (x y z : A) → cond b x y ≡ z → ((b ≡ true) × (x ≡ z)) ⊎ ((b ≡ false) × (y ≡ z))
chosen true x y z e = inl (refl, e)
chosen false x y z e = inr (refl, e)

-- a test that had to hold, and one that had to fail
passed : {A : Type 0} (b : Bool) (r : Result A FrameFault) (d : FrameFault) (y : A) → cond b r (Err d) ≡ Ok y → (b ≡ true) × (r ≡ Ok y)
passed true r d y e = (refl, e)
passed false r d y e = absurd cc

failed : {A : Type 0} (b : Bool) (r : Result A FrameFault) (d : FrameFault) (y : A) → cond b (Err d) r ≡ Ok y → (b ≡ false) × (r ≡ Ok y)
failed true r d y e = absurd cc
failed false r d y e = (refl, e)

-- a message that was taken is that of its port and fields
checked_is : (at : Option Port) (m : Body) (n : Letter) → checked at m ≡ Ok n → (port : Port) × (at ≡ Some port) × (in_range m ≡ true) × (via port m ≡ n)
unfolding checked
checked_is None m n e = absurd cc
checked_is (Some port) m n e = let p = passed (in_range m) (Ok (via port m)) fault.Range n e in (port, refl, p.0, cc)

-- the port that was found has the number that was read
port_numbered : (n : ℕ) (port : Port) → port_of n ≡ Some port → n ≡ port_number port
port_numbered n port.One e = grind (arith, nat_tests)
port_numbered n port.Two e = grind (arith, nat_tests)

-- ---- bytes and numbers

abbrev pub IsBytes : List ℕ → Type 0
IsBytes bytes = (i : ℕ) → get_or bytes i 0 < 256

pub IsBytes-taken : (bytes : List ℕ) (at n : ℕ) → IsBytes bytes → IsBytes (take n (drop at bytes))
IsBytes-taken bytes at n fits i =
    elim (cases_lt i n) [
      | inl lt ↦ rw (get_or-take n (drop at bytes) i 0 lt, get_or-drop) (fits (at + i))
      | inr le ↦ rw (get_or_past (take n (drop at bytes)) i 0 (omega (arith, length-take n (drop at bytes)))) (omega arith)
    ]

below8 : (bytes : List ℕ) → IsBytes bytes → from_be_bytes w64 bytes < 2 ^ 64
below8 bytes fits = omega (arith, fits 0, fits 1, fits 2, fits 3, fits 4, fits 5, fits 6, fits 7)

number8-lt : (bytes : List ℕ) (at : ℕ) → IsBytes bytes → number8 bytes at < 2 ^ 64
number8-lt bytes at fits = below8 _ (IsBytes-taken bytes at 8 fits)

-- eight and four bytes at a place, and what follows them
eight : (bytes : List ℕ) (at : ℕ) → IsBytes bytes → at + 8 ≤ length bytes → drop at bytes ≡ to_be_bytes w64 (number8 bytes at) ++ drop (at + 8) bytes
eight bytes at fits long =
    let len : length (take 8 (drop at bytes)) ≡ 8 = simp (length-take, length-drop) (omega arith) in
    let back : to_be_bytes w64 (number8 bytes at) ≡ take 8 (drop at bytes) = be_bytes_8 _ (number8 bytes at) len (IsBytes-taken bytes at 8 fits) refl in
    sym (take-append-drop 8 (drop at bytes)) ∙ ap (λ xs. xs ++ drop 8 (drop at bytes)) (sym back) ∙ ap (λ xs. to_be_bytes w64 (number8 bytes at) ++ xs) (drop-drop 8 at bytes)

pub four : (bytes : List ℕ) (at : ℕ) → IsBytes bytes → at + 4 ≤ length bytes → drop at bytes ≡ to_be_bytes w32 (number4 bytes at) ++ drop (at + 4) bytes
four bytes at fits long =
    let len : length (take 4 (drop at bytes)) ≡ 4 = simp (length-take, length-drop) (omega arith) in
    let back : to_be_bytes w32 (number4 bytes at) ≡ take 4 (drop at bytes) = be_bytes_4 _ (number4 bytes at) len (IsBytes-taken bytes at 4 fits) refl in
    sym (take-append-drop 4 (drop at bytes)) ∙ ap (λ xs. xs ++ drop 4 (drop at bytes)) (sym back) ∙ ap (λ xs. to_be_bytes w32 (number4 bytes at) ++ xs) (drop-drop 4 at bytes)

one : (bytes : List ℕ) (at : ℕ) → at + 1 ≤ length bytes → drop at bytes ≡ slice_index bytes at ∷ drop (at + 1) bytes
one bytes at long = rw add-one (drop-cons bytes at 0 (omega arith))

-- ---- a body in fields of one, four and eight bytes

data Part : Type 0 where
  One : Part
  Four : Part
  Eight : Part

abbrev width : Part → ℕ
width One = 1
width Four = 4
width Eight = 8

abbrev part_at : Part → List ℕ → ℕ → List ℕ
part_at One bytes at = slice_index bytes at ∷ []
part_at Four bytes at = to_be_bytes w32 (number4 bytes at)
part_at Eight bytes at = to_be_bytes w64 (number8 bytes at)

abbrev widths : List Part → ℕ
widths [] = 0
widths (p ∷ ps) = width p + widths ps

-- the fields from a place on, and what stands behind them
abbrev parts_from : List Part → ℕ → List ℕ → List ℕ → List ℕ
parts_from [] at bytes rest = rest
parts_from (p ∷ ps) at bytes rest = part_at p bytes at ++ parts_from ps (at + width p) bytes rest

part_is : (p : Part) (at : ℕ) (bytes : List ℕ) → IsBytes bytes → at + width p ≤ length bytes → drop at bytes ≡ part_at p bytes at ++ drop (at + width p) bytes
part_is One at bytes fits long = one bytes at long
part_is Four at bytes fits long = four bytes at fits long
part_is Eight at bytes fits long = eight bytes at fits long

parts_are : (ps : List Part) (at : ℕ) (bytes : List ℕ) → IsBytes bytes → at + widths ps ≤ length bytes → drop at bytes ≡ parts_from ps at bytes (drop (at + widths ps) bytes)
parts_are [] at bytes fits long = let same : at ≡ at + 0 = omega arith in ap (λ n. drop n bytes) same
parts_are (p ∷ ps) at bytes fits long =
    let regrouped : at + width p + widths ps ≡ at + (width p + widths ps) = omega arith in
    let others = parts_are ps (at + width p) bytes fits (omega arith) in
    part_is p at bytes fits (omega arith)
    ∙ ap (λ xs. part_at p bytes at ++ xs) (others ∙ ap (λ n. parts_from ps (at + width p) bytes (drop n bytes)) regrouped)

-- a body of a kind, all of whose bytes are fields
body_is : (kind : ℕ) (ps : List Part) (bytes : List ℕ) → IsBytes bytes → slice_index bytes 0 ≡ kind → length bytes ≡ 1 + widths ps → bytes ≡ kind ∷ parts_from ps 1 bytes []
body_is kind ps bytes fits is len =
    let ends : drop (1 + widths ps) bytes ≡ [] = drop_of_length-le bytes {i = 1 + widths ps} (omega arith) in
    one bytes 0 (omega arith) ∙ ap (λ b. b ∷ drop 1 bytes) is
    ∙ ap (λ xs. kind ∷ xs) (parts_are ps 1 bytes fits (omega arith) ∙ ap (parts_from ps 1 bytes) ends)

-- ---- numbers that stand in their fields and pass the tests are in their ranges

abbrev IdFits : MessageId → Type 0
IdFits id = (id.boot < 2 ^ 64) × (id.seq < 2 ^ 64)

abbrev OutcomeFits : Outcome → Type 0
OutcomeFits (Judged version verdict) = version < 2 ^ 64
OutcomeFits (Failed cause) = Unit {0}

abbrev Fits : Body → Type 0
Fits (Scan id stream generation size) = IdFits id × (stream < 2 ^ 64)
Fits (Chunk id offset bytes) = IdFits id
Fits (NoChunk id offset cause) = IdFits id
Fits (Abort id) = IdFits id
Fits (Hello volume version) = (volume < 2 ^ 64) × (version < 2 ^ 64)
Fits (Read id offset count) = IdFits id
Fits (Reply id outcome) = IdFits id × OutcomeFits outcome
Fits (Updated version) = version < 2 ^ 64

in_range_means : (m : Body) → Fits m → in_range m ≡ true → IsInRange m
in_range_means (Scan id stream generation size) fits tests = grind (arith, nat_tests)
in_range_means (Chunk id offset bytes) fits tests = grind (arith, nat_tests)
in_range_means (NoChunk id offset cause) fits tests = grind (arith, nat_tests)
in_range_means (Abort id) fits tests = grind (arith, nat_tests)
in_range_means (Hello volume version) fits tests = grind (arith, nat_tests)
in_range_means (Read id offset count) fits tests = grind (arith, nat_tests)
in_range_means (Reply id (Judged version Clean)) fits tests = grind (arith, nat_tests)
in_range_means (Reply id (Judged version (Infected index end_at))) fits tests = grind (arith, nat_tests)
in_range_means (Reply id (Failed cause)) fits tests = grind (arith, nat_tests)
in_range_means (Updated version) fits tests = grind (arith, nat_tests)

id_fits : (bytes : List ℕ) → IsBytes bytes → IdFits (id_at bytes)
id_fits bytes fits = (number8-lt bytes 2 fits, number8-lt bytes 10 fits)

-- a body of these fields, whose port is not looked at yet
abbrev behind : List ℕ → Body → List ℕ
behind bytes read = kind_of read ∷ slice_index bytes 1 ∷ fields read

-- fields that pass are the message, and the body spells them behind its kind and its port
spelled : (bytes : List ℕ) (read : Body) (m : Letter) → Fits read → bytes ≡ behind bytes read → checked (port_at bytes) read ≡ Ok m → Spells bytes m
spelled bytes read m fits whole e =
    let c = checked_is (port_at bytes) read m e in
    subst (Spells bytes) c.3 (in_range_means read fits c.2, whole ∙ ap (λ n. kind_of read ∷ n ∷ fields read) (port_numbered (slice_index bytes 1) c.0 c.1))

-- a cause that was found has the number that was read
no_chunk_numbered : (n : ℕ) (cause : NoChunkCause) → no_chunk_cause n ≡ Some cause → n ≡ no_chunk_number cause
no_chunk_numbered n NoQuestion e = grind (arith, nat_tests)
no_chunk_numbered n PastEnd e = grind (arith, nat_tests)

fail_numbered : (n : ℕ) (cause : FailCause) → fail_cause n ≡ Some cause → n ≡ fail_number cause
fail_numbered n JobsFull e = grind (arith, nat_tests)
fail_numbered n PastLength e = grind (arith, nat_tests)

-- ---- kind by kind

scan_takes : (bytes : List ℕ) (m : Letter) → IsBytes bytes → slice_index bytes 0 ≡ 1 → scan_of bytes ≡ Ok m → Spells bytes m
unfolding scan_of field8
scan_takes bytes m fits kind e =
    let p = passed _ _ _ _ e in
    let whole : bytes ≡ behind bytes (Scan (id_at bytes) (number8 bytes 18) (number8 bytes 26) (number8 bytes 34)) = body_is 1 (One ∷ Eight ∷ Eight ∷ Eight ∷ Eight ∷ Eight ∷ []) bytes fits kind (eqb-true _ _ p.0) in
    spelled bytes _ m (id_fits bytes fits, number8-lt bytes 18 fits) whole p.1

chunk_takes : (bytes : List ℕ) (m : Letter) → IsBytes bytes → slice_index bytes 0 ≡ 2 → chunk_of bytes ≡ Ok m → Spells bytes m
unfolding chunk_of field8
chunk_takes bytes m fits kind e =
    let p = passed _ _ _ _ e in
    let long : CHUNK_HEADER < length bytes = ltb-true _ _ p.0 in
    let whole : bytes ≡ behind bytes (Chunk (id_at bytes) (number8 bytes 18) (drop CHUNK_HEADER bytes)) =
    one bytes 0 (omega arith) ∙ ap (λ b. b ∷ drop 1 bytes) kind ∙ ap (λ xs. 2 ∷ xs) (parts_are (One ∷ Eight ∷ Eight ∷ Eight ∷ []) 1 bytes fits (omega arith)) in
    spelled bytes _ m (id_fits bytes fits) whole p.1

no_chunk_takes : (bytes : List ℕ) (m : Letter) → IsBytes bytes → slice_index bytes 0 ≡ 3 → no_chunk_of bytes ≡ Ok m → Spells bytes m
unfolding no_chunk_of field8
no_chunk_takes bytes m fits kind e =
    let p = passed _ _ _ _ e in
    let whole : bytes ≡ 3 ∷ parts_from (One ∷ Eight ∷ Eight ∷ Eight ∷ One ∷ []) 1 bytes [] = body_is 3 (One ∷ Eight ∷ Eight ∷ Eight ∷ One ∷ []) bytes fits kind (eqb-true _ _ p.0) in
    (elim (no_chunk_cause (slice_index bytes 26)) as (λ o. no_chunk_cause (slice_index bytes 26) ≡ o → no_chunk_with (port_at bytes) (id_at bytes) (number8 bytes 18) o ≡ Ok m → Spells bytes m) [
      | None ↦ λ is none. absurd cc
      | Some cause ↦ λ is some.
          let number : slice_index bytes 26 ≡ no_chunk_number cause = no_chunk_numbered _ cause is in
          spelled bytes _ m (id_fits bytes fits) (whole ∙ ap (λ n. 3 ∷ slice_index bytes 1 ∷ ((id_fields (id_at bytes) ++ field8 (number8 bytes 18)) ++ n ∷ [])) number) some
    ]) refl p.1

abort_takes : (bytes : List ℕ) (m : Letter) → IsBytes bytes → slice_index bytes 0 ≡ 4 → abort_of bytes ≡ Ok m → Spells bytes m
unfolding abort_of field8
abort_takes bytes m fits kind e =
    let p = passed _ _ _ _ e in
    let whole : bytes ≡ behind bytes (Abort (id_at bytes)) = body_is 4 (One ∷ Eight ∷ Eight ∷ []) bytes fits kind (eqb-true _ _ p.0) in
    spelled bytes _ m (id_fits bytes fits) whole p.1

hello_takes : (bytes : List ℕ) (m : Letter) → IsBytes bytes → slice_index bytes 0 ≡ 5 → hello_of bytes ≡ Ok m → Spells bytes m
unfolding hello_of field8
hello_takes bytes m fits kind e =
    let p = passed _ _ _ _ e in
    let whole : bytes ≡ behind bytes (Hello (number8 bytes 2) (number8 bytes 10)) = body_is 5 (One ∷ Eight ∷ Eight ∷ []) bytes fits kind (eqb-true _ _ p.0) in
    spelled bytes _ m (number8-lt bytes 2 fits, number8-lt bytes 10 fits) whole p.1

read_takes : (bytes : List ℕ) (m : Letter) → IsBytes bytes → slice_index bytes 0 ≡ 6 → read_of bytes ≡ Ok m → Spells bytes m
unfolding read_of field8 field4
read_takes bytes m fits kind e =
    let p = passed _ _ _ _ e in
    let whole : bytes ≡ behind bytes (Read (id_at bytes) (number8 bytes 18) (number4 bytes 26)) = body_is 6 (One ∷ Eight ∷ Eight ∷ Eight ∷ Four ∷ []) bytes fits kind (eqb-true _ _ p.0) in
    spelled bytes _ m (id_fits bytes fits) whole p.1

clean_takes : (bytes : List ℕ) (m : Letter) → IsBytes bytes → slice_index bytes 0 ≡ 7 → slice_index bytes 18 ≡ 0 → clean_of bytes ≡ Ok m → Spells bytes m
unfolding clean_of field8
clean_takes bytes m fits kind status e =
    let p = passed _ _ _ _ e in
    let whole : bytes ≡ 7 ∷ parts_from (One ∷ Eight ∷ Eight ∷ One ∷ Eight ∷ []) 1 bytes [] = body_is 7 (One ∷ Eight ∷ Eight ∷ One ∷ Eight ∷ []) bytes fits kind (eqb-true _ _ p.0) in
    spelled bytes _ m (id_fits bytes fits, number8-lt bytes 19 fits) (whole ∙ ap (λ n. 7 ∷ slice_index bytes 1 ∷ (id_fields (id_at bytes) ++ n ∷ field8 (number8 bytes 19))) status) p.1

infected_takes : (bytes : List ℕ) (m : Letter) → IsBytes bytes → slice_index bytes 0 ≡ 7 → slice_index bytes 18 ≡ 1 → infected_of bytes ≡ Ok m → Spells bytes m
unfolding infected_of field8 field4
infected_takes bytes m fits kind status e =
    let p = passed _ _ _ _ e in
    let whole : bytes ≡ 7 ∷ parts_from (One ∷ Eight ∷ Eight ∷ One ∷ Eight ∷ Four ∷ Eight ∷ []) 1 bytes [] = body_is 7 (One ∷ Eight ∷ Eight ∷ One ∷ Eight ∷ Four ∷ Eight ∷ []) bytes fits kind (eqb-true _ _ p.0) in
    spelled bytes _ m (id_fits bytes fits, number8-lt bytes 19 fits)
    (whole ∙ ap (λ n. 7 ∷ slice_index bytes 1 ∷ (id_fields (id_at bytes) ++ n ∷ (field8 (number8 bytes 19) ++ field4 (number4 bytes 27) ++ field8 (number8 bytes 31)))) status) p.1

failed_takes : (bytes : List ℕ) (m : Letter) → IsBytes bytes → slice_index bytes 0 ≡ 7 → slice_index bytes 18 ≡ 2 → failed_of bytes ≡ Ok m → Spells bytes m
unfolding failed_of field8
failed_takes bytes m fits kind status e =
    let p = passed _ _ _ _ e in
    let whole : bytes ≡ 7 ∷ parts_from (One ∷ Eight ∷ Eight ∷ One ∷ One ∷ []) 1 bytes [] = body_is 7 (One ∷ Eight ∷ Eight ∷ One ∷ One ∷ []) bytes fits kind (eqb-true _ _ p.0) in
    (elim (fail_cause (slice_index bytes 19)) as (λ o. fail_cause (slice_index bytes 19) ≡ o → failed_with (port_at bytes) (id_at bytes) o ≡ Ok m → Spells bytes m) [
      | None ↦ λ is none. absurd cc
      | Some cause ↦ λ is some.
          let number : slice_index bytes 19 ≡ fail_number cause = fail_numbered _ cause is in
          spelled bytes _ m (id_fits bytes fits, tt)
          (whole ∙ ap (λ n. 7 ∷ slice_index bytes 1 ∷ (id_fields (id_at bytes) ++ n ∷ slice_index bytes 19 ∷ [])) status ∙ ap (λ n. 7 ∷ slice_index bytes 1 ∷ (id_fields (id_at bytes) ++ 2 ∷ n ∷ [])) number) some
    ]) refl p.1

reply_takes : (bytes : List ℕ) (m : Letter) → IsBytes bytes → slice_index bytes 0 ≡ 7 → reply_of bytes ≡ Ok m → Spells bytes m
unfolding reply_of
reply_takes bytes m fits kind e =
    let p = failed _ _ _ _ e in
    let status = slice_index bytes 18 in
    let third = cond (nat_eq status 2) (failed_of bytes) (Err fault.Range) in
    elim (chosen (nat_eq status 0) (clean_of bytes) (cond (nat_eq status 1) (infected_of bytes) third) (Ok m) p.1) [
      | inl q ↦ clean_takes bytes m fits kind (eqb-true _ _ q.0) q.1
      | inr q ↦ elim (chosen (nat_eq status 1) (infected_of bytes) third (Ok m) q.1) [
        | inl r ↦ infected_takes bytes m fits kind (eqb-true _ _ r.0) r.1
        | inr r ↦ let t = passed _ _ _ _ r.1 in failed_takes bytes m fits kind (eqb-true _ _ t.0) t.1
      ]
    ]

updated_takes : (bytes : List ℕ) (m : Letter) → IsBytes bytes → slice_index bytes 0 ≡ 8 → updated_of bytes ≡ Ok m → Spells bytes m
unfolding updated_of field8
updated_takes bytes m fits kind e =
    let p = passed _ _ _ _ e in
    let whole : bytes ≡ behind bytes (Updated (number8 bytes 2)) = body_is 8 (One ∷ Eight ∷ []) bytes fits kind (eqb-true _ _ p.0) in
    spelled bytes _ m (number8-lt bytes 2 fits) whole p.1

plain_takes : (bytes : List ℕ) (m : Letter) → IsBytes bytes → plain_of bytes ≡ Ok m → Spells bytes m
unfolding plain_of
plain_takes bytes m fits e =
    let kind = slice_index bytes 0 in
    let by8 = cond (nat_eq kind 8) (updated_of bytes) (Err fault.Kind) in
    let by7 = cond (nat_eq kind 7) (reply_of bytes) by8 in
    let by6 = cond (nat_eq kind 6) (read_of bytes) by7 in
    let by5 = cond (nat_eq kind 5) (hello_of bytes) by6 in
    let by4 = cond (nat_eq kind 4) (abort_of bytes) by5 in
    let by3 = cond (nat_eq kind 3) (no_chunk_of bytes) by4 in
    elim (chosen (nat_eq kind 1) (scan_of bytes) by3 (Ok m) e) [
      | inl q ↦ scan_takes bytes m fits (eqb-true _ _ q.0) q.1
      | inr a ↦ elim (chosen (nat_eq kind 3) (no_chunk_of bytes) by4 (Ok m) a.1) [
        | inl q ↦ no_chunk_takes bytes m fits (eqb-true _ _ q.0) q.1
        | inr b ↦ elim (chosen (nat_eq kind 4) (abort_of bytes) by5 (Ok m) b.1) [
          | inl q ↦ abort_takes bytes m fits (eqb-true _ _ q.0) q.1
          | inr c ↦ elim (chosen (nat_eq kind 5) (hello_of bytes) by6 (Ok m) c.1) [
            | inl q ↦ hello_takes bytes m fits (eqb-true _ _ q.0) q.1
            | inr d ↦ elim (chosen (nat_eq kind 6) (read_of bytes) by7 (Ok m) d.1) [
              | inl q ↦ read_takes bytes m fits (eqb-true _ _ q.0) q.1
              | inr f ↦ elim (chosen (nat_eq kind 7) (reply_of bytes) by8 (Ok m) f.1) [
                | inl q ↦ reply_takes bytes m fits (eqb-true _ _ q.0) q.1
                | inr g ↦ let q = passed _ _ _ _ g.1 in updated_takes bytes m fits (eqb-true _ _ q.0) q.1
              ]
            ]
          ]
        ]
      ]
    ]

-- what is read is spelled so
pub decoded_spells : (bytes : List ℕ) (m : Letter) → IsBytes bytes → decoded bytes ≡ Ok m → Spells bytes m
unfolding decoded
decoded_spells bytes m fits e =
    let p = failed _ _ _ _ e in
    elim (chosen (nat_eq (slice_index bytes 0) 2) (chunk_of bytes) (plain_of bytes) (Ok m) p.1) [
      | inl q ↦ chunk_takes bytes m fits (eqb-true _ _ q.0) q.1
      | inr q ↦ plain_takes bytes m fits q.1
    ]
