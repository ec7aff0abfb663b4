-- What is spelled is read again.
use Rattle.std.proofs.Common.{ℕ, ◌≡◌, ◌+◌, List, length, true, false, cond, nat_eq, nat_lt, ◌||◌, Ok, Err, refl, ◌∙◌, ap, arith}
use Rattle.std.specs.Prelude.{Some}
use Rattle.std.specs.Int.{w64, from_be_bytes, to_be_bytes}
use Rattle.std.proofs.lemmas.Nat.{from_be_bytes-to_be_bytes_4, from_be_bytes-to_be_bytes_8}
use Rattle.std.proofs.lemmas.Bool.Decides.{nat_tests}
use Rattle.av_base.specs.declared.message_id.MessageId.{MessageId}
use Rattle.av_base.specs.Port.{port_number, port_of}
use Rattle.av_base.specs.declared.port.Port.{Port}
use Rattle.av_base.specs.declared.port.Port.TheVariants.{One, Two}
use Rattle.av_base.specs.declared.verdict.Verdict.TheVariants.{Clean, Infected}
use Rattle.av_frame.specs.declared.cause.NoChunkCause.{NoChunkCause}
use Rattle.av_frame.specs.declared.cause.NoChunkCause.TheVariants.{NoQuestion, PastEnd}
use Rattle.av_frame.specs.declared.cause.FailCause.{FailCause}
use Rattle.av_frame.specs.declared.cause.FailCause.TheVariants.{JobsFull, PastLength}
use Rattle.av_frame.specs.declared.outcome.Outcome.TheVariants.{Judged, Failed}
use Rattle.av_frame.specs.declared.fault.FrameFault.TheVariants as fault
use Rattle.av_frame.specs.declared.message.Body.{Body}
use Rattle.av_frame.specs.declared.message.Body.TheVariants.{Scan, Chunk, NoChunk, Abort, Hello, Read, Reply, Updated}
use Rattle.av_frame.specs.Cause.{no_chunk_number, no_chunk_cause, fail_number, fail_cause}
use Rattle.av_frame.specs.declared.sizes.TheConstants.{CHUNK_HEADER, MAX_BODY}
use Rattle.av_frame.specs.Message.{IsId, IsInRange, IsLetter, in_range, Letter, via}
use Rattle.av_frame.specs.Spelling.{spelled_at, spelling, field8, field4}
use Rattle.av_frame.specs.Reading.{number8, number4, id_at, port_at, checked, scan_of, chunk_of, no_chunk_with, no_chunk_of, abort_of, hello_of, read_of, clean_of, infected_of, failed_with, failed_of, reply_of, updated_of, plain_of, decoded}

-- fields in their ranges pass the tests
in_range-fits : (m : Body) → IsInRange m → in_range m ≡ true
in_range-fits (Scan id stream generation size) fits = grind (arith, nat_tests)
in_range-fits (Chunk id offset bytes) fits = grind (arith, nat_tests)
in_range-fits (NoChunk id offset cause) fits = grind (arith, nat_tests)
in_range-fits (Abort id) fits = grind (arith, nat_tests)
in_range-fits (Hello volume version) fits = grind (arith, nat_tests)
in_range-fits (Read id offset count) fits = grind (arith, nat_tests)
in_range-fits (Reply id (Judged version Clean)) fits = grind (arith, nat_tests)
in_range-fits (Reply id (Judged version (Infected index end_at))) fits = grind (arith, nat_tests)
in_range-fits (Reply id (Failed cause)) fits = grind (arith, nat_tests)
in_range-fits (Updated version) fits = grind (arith, nat_tests)

pub checked-fits : (port : Port) (m : Body) → IsInRange m → checked (Some port) m ≡ Ok (via port m)
unfolding checked
checked-fits port m fits = ap (λ b. cond b (Ok (via port m)) (Err fault.Range)) (in_range-fits m fits)

-- a port's number, read again
port_again : (port : Port) → port_of (port_number port) ≡ Some port
port_again One = refl
port_again Two = refl

-- an id's two numbers, read again
id_again : (id : MessageId) → IsId id → ◌≡◌ {A = MessageId} (record { boot = from_be_bytes w64 (to_be_bytes w64 id.boot); seq = from_be_bytes w64 (to_be_bytes w64 id.seq) }) id
id_again id fits =
    ap (λ n. record { boot = n; seq = from_be_bytes w64 (to_be_bytes w64 id.seq) }) (from_be_bytes-to_be_bytes_8 id.boot fits.0.1)
    ∙ ap (λ n. record { boot = id.boot; seq = n }) (from_be_bytes-to_be_bytes_8 id.seq fits.1.1)

scan_again : (port : Port) (id : MessageId) (stream generation size : ℕ) → IsInRange (Scan id stream generation size) → decoded (spelled_at port (Scan id stream generation size)) ≡ Ok (via port (Scan id stream generation size))
unfolding decoded plain_of scan_of field8
scan_again port id stream generation size fits =
    let s = spelled_at port (Scan id stream generation size) in
    let who : id_at s ≡ id = id_again id fits.0 in
    let first : number8 s 18 ≡ stream = from_be_bytes-to_be_bytes_8 stream fits.1.1 in
    let second : number8 s 26 ≡ generation = from_be_bytes-to_be_bytes_8 generation (omega (arith, fits.3)) in
    let third : number8 s 34 ≡ size = from_be_bytes-to_be_bytes_8 size (omega (arith, fits.4)) in
    ap (λ p. checked p (Scan (id_at s) (number8 s 18) (number8 s 26) (number8 s 34))) (port_again port)
    ∙ ap (λ i. checked (Some port) (Scan i (number8 s 18) (number8 s 26) (number8 s 34))) who
    ∙ ap (λ n. checked (Some port) (Scan id n (number8 s 26) (number8 s 34))) first
    ∙ ap (λ n. checked (Some port) (Scan id stream n (number8 s 34))) second
    ∙ ap (λ n. checked (Some port) (Scan id stream generation n)) third
    ∙ checked-fits port (Scan id stream generation size) fits

chunk_again : (port : Port) (id : MessageId) (offset : ℕ) (bytes : List ℕ) → IsInRange (Chunk id offset bytes) → decoded (spelled_at port (Chunk id offset bytes)) ≡ Ok (via port (Chunk id offset bytes))
unfolding decoded chunk_of field8
chunk_again port id offset bytes fits =
    let s = spelled_at port (Chunk id offset bytes) in
    let size : length s ≡ CHUNK_HEADER + length bytes = omega arith in
    let whole : (nat_eq (length s) 0 || nat_lt MAX_BODY (length s)) ≡ false = grind (arith, nat_tests) in
    let enough : nat_lt CHUNK_HEADER (length s) ≡ true = grind (arith, nat_tests) in
    let who : id_at s ≡ id = id_again id fits.0 in
    let first : number8 s 18 ≡ offset = from_be_bytes-to_be_bytes_8 offset (omega (arith, fits.1)) in
    ap (λ b. cond b (Err fault.Length) (cond (nat_lt CHUNK_HEADER (length s)) (checked (port_at s) (Chunk (id_at s) (number8 s 18) bytes)) (Err fault.Shape))) whole
    ∙ ap (λ b. cond b (checked (port_at s) (Chunk (id_at s) (number8 s 18) bytes)) (Err fault.Shape)) enough
    ∙ ap (λ p. checked p (Chunk (id_at s) (number8 s 18) bytes)) (port_again port)
    ∙ ap (λ i. checked (Some port) (Chunk i (number8 s 18) bytes)) who
    ∙ ap (λ n. checked (Some port) (Chunk id n bytes)) first
    ∙ checked-fits port (Chunk id offset bytes) fits

cause_again : (cause : NoChunkCause) → no_chunk_cause (no_chunk_number cause) ≡ Some cause
cause_again NoQuestion = refl
cause_again PastEnd = refl

no_chunk_again : (port : Port) (id : MessageId) (offset : ℕ) (cause : NoChunkCause) → IsInRange (NoChunk id offset cause) → decoded (spelled_at port (NoChunk id offset cause)) ≡ Ok (via port (NoChunk id offset cause))
unfolding decoded plain_of no_chunk_of field8
no_chunk_again port id offset cause fits =
    let s = spelled_at port (NoChunk id offset cause) in
    let who : id_at s ≡ id = id_again id fits.0 in
    let first : number8 s 18 ≡ offset = from_be_bytes-to_be_bytes_8 offset (omega (arith, fits.1)) in
    ap (λ p. no_chunk_with p (id_at s) (number8 s 18) (no_chunk_cause (no_chunk_number cause))) (port_again port)
    ∙ ap (λ i. no_chunk_with (Some port) i (number8 s 18) (no_chunk_cause (no_chunk_number cause))) who
    ∙ ap (λ n. no_chunk_with (Some port) id n (no_chunk_cause (no_chunk_number cause))) first
    ∙ ap (no_chunk_with (Some port) id offset) (cause_again cause)
    ∙ checked-fits port (NoChunk id offset cause) fits

abort_again : (port : Port) (id : MessageId) → IsInRange (Abort id) → decoded (spelled_at port (Abort id)) ≡ Ok (via port (Abort id))
unfolding decoded plain_of abort_of field8
abort_again port id fits =
    let s = spelled_at port (Abort id) in
    let who : id_at s ≡ id = id_again id fits in
    ap (λ p. checked p (Abort (id_at s))) (port_again port)
    ∙ ap (λ i. checked (Some port) (Abort i)) who ∙ checked-fits port (Abort id) fits

hello_again : (port : Port) (volume version : ℕ) → IsInRange (Hello volume version) → decoded (spelled_at port (Hello volume version)) ≡ Ok (via port (Hello volume version))
unfolding decoded plain_of hello_of field8
hello_again port volume version fits =
    let s = spelled_at port (Hello volume version) in
    let first : number8 s 2 ≡ volume = from_be_bytes-to_be_bytes_8 volume fits.0 in
    let second : number8 s 10 ≡ version = from_be_bytes-to_be_bytes_8 version fits.1.1 in
    ap (λ p. checked p (Hello (number8 s 2) (number8 s 10))) (port_again port)
    ∙ ap (λ n. checked (Some port) (Hello n (number8 s 10))) first
    ∙ ap (λ n. checked (Some port) (Hello volume n)) second
    ∙ checked-fits port (Hello volume version) fits

read_again : (port : Port) (id : MessageId) (offset count : ℕ) → IsInRange (Read id offset count) → decoded (spelled_at port (Read id offset count)) ≡ Ok (via port (Read id offset count))
unfolding decoded plain_of read_of field8 field4
read_again port id offset count fits =
    let s = spelled_at port (Read id offset count) in
    let who : id_at s ≡ id = id_again id fits.0 in
    let first : number8 s 18 ≡ offset = from_be_bytes-to_be_bytes_8 offset (omega (arith, fits.1)) in
    let second : number4 s 26 ≡ count = from_be_bytes-to_be_bytes_4 count (omega (arith, fits.3)) in
    ap (λ p. checked p (Read (id_at s) (number8 s 18) (number4 s 26))) (port_again port)
    ∙ ap (λ i. checked (Some port) (Read i (number8 s 18) (number4 s 26))) who
    ∙ ap (λ n. checked (Some port) (Read id n (number4 s 26))) first
    ∙ ap (λ n. checked (Some port) (Read id offset n)) second
    ∙ checked-fits port (Read id offset count) fits

clean_again : (port : Port) (id : MessageId) (version : ℕ) → IsInRange (Reply id (Judged version Clean)) → decoded (spelled_at port (Reply id (Judged version Clean))) ≡ Ok (via port (Reply id (Judged version Clean)))
unfolding decoded plain_of reply_of clean_of field8
clean_again port id version fits =
    let s = spelled_at port (Reply id (Judged version Clean)) in
    let who : id_at s ≡ id = id_again id fits.0 in
    let first : number8 s 19 ≡ version = from_be_bytes-to_be_bytes_8 version fits.1.0.1 in
    ap (λ p. checked p (Reply (id_at s) (Judged (number8 s 19) Clean))) (port_again port)
    ∙ ap (λ i. checked (Some port) (Reply i (Judged (number8 s 19) Clean))) who
    ∙ ap (λ n. checked (Some port) (Reply id (Judged n Clean))) first
    ∙ checked-fits port (Reply id (Judged version Clean)) fits

infected_again : (port : Port) (id : MessageId) (version index end_at : ℕ) → IsInRange (Reply id (Judged version (Infected index end_at))) → decoded (spelled_at port (Reply id (Judged version (Infected index end_at)))) ≡ Ok (via port (Reply id (Judged version (Infected index end_at))))
unfolding decoded plain_of reply_of infected_of field8 field4
infected_again port id version index end_at fits =
    let s = spelled_at port (Reply id (Judged version (Infected index end_at))) in
    let who : id_at s ≡ id = id_again id fits.0 in
    let first : number8 s 19 ≡ version = from_be_bytes-to_be_bytes_8 version fits.1.0.1 in
    let second : number4 s 27 ≡ index = from_be_bytes-to_be_bytes_4 index (omega (arith, fits.1.1.0)) in
    let third : number8 s 31 ≡ end_at = from_be_bytes-to_be_bytes_8 end_at (omega (arith, fits.1.1.2)) in
    ap (λ p. checked p (Reply (id_at s) (Judged (number8 s 19) (Infected (number4 s 27) (number8 s 31))))) (port_again port)
    ∙ ap (λ i. checked (Some port) (Reply i (Judged (number8 s 19) (Infected (number4 s 27) (number8 s 31))))) who
    ∙ ap (λ n. checked (Some port) (Reply id (Judged n (Infected (number4 s 27) (number8 s 31))))) first
    ∙ ap (λ n. checked (Some port) (Reply id (Judged version (Infected n (number8 s 31))))) second
    ∙ ap (λ n. checked (Some port) (Reply id (Judged version (Infected index n)))) third
    ∙ checked-fits port (Reply id (Judged version (Infected index end_at))) fits

fail_again : (cause : FailCause) → fail_cause (fail_number cause) ≡ Some cause
fail_again JobsFull = refl
fail_again PastLength = refl

failed_again : (port : Port) (id : MessageId) (cause : FailCause) → IsInRange (Reply id (Failed cause)) → decoded (spelled_at port (Reply id (Failed cause))) ≡ Ok (via port (Reply id (Failed cause)))
unfolding decoded plain_of reply_of failed_of field8
failed_again port id cause fits =
    let s = spelled_at port (Reply id (Failed cause)) in
    let who : id_at s ≡ id = id_again id fits.0 in
    ap (λ p. failed_with p (id_at s) (fail_cause (fail_number cause))) (port_again port)
    ∙ ap (λ i. failed_with (Some port) i (fail_cause (fail_number cause))) who
    ∙ ap (failed_with (Some port) id) (fail_again cause)
    ∙ checked-fits port (Reply id (Failed cause)) fits

updated_again : (port : Port) (version : ℕ) → IsInRange (Updated version) → decoded (spelled_at port (Updated version)) ≡ Ok (via port (Updated version))
unfolding decoded plain_of updated_of field8
updated_again port version fits =
    ap (λ p. checked p (Updated (number8 (spelled_at port (Updated version)) 2))) (port_again port)
    ∙ ap (λ n. checked (Some port) (Updated n)) (from_be_bytes-to_be_bytes_8 version fits.1)
    ∙ checked-fits port (Updated version) fits

read_again_at : (port : Port) (m : Body) → IsInRange m → decoded (spelled_at port m) ≡ Ok (via port m)
read_again_at port (Scan id stream generation size) fits = scan_again port id stream generation size fits
read_again_at port (Chunk id offset bytes) fits = chunk_again port id offset bytes fits
read_again_at port (NoChunk id offset cause) fits = no_chunk_again port id offset cause fits
read_again_at port (Abort id) fits = abort_again port id fits
read_again_at port (Hello volume version) fits = hello_again port volume version fits
read_again_at port (Read id offset count) fits = read_again port id offset count fits
read_again_at port (Reply id (Judged version Clean)) fits = clean_again port id version fits
read_again_at port (Reply id (Judged version (Infected index end_at))) fits = infected_again port id version index end_at fits
read_again_at port (Reply id (Failed cause)) fits = failed_again port id cause fits
read_again_at port (Updated version) fits = updated_again port version fits

-- what is spelled is read again
pub decoded-spelling : (m : Letter) → IsLetter m → decoded (spelling m) ≡ Ok m
decoded-spelling m fits = read_again_at m.port m.body fits
