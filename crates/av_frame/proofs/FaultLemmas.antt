-- Where reading gives no message it gives the fault of the body.
use Rattle.std.proofs.Common.{ℕ, ◌≡◌, List, length, Bool, true, false, cond, not, nat_eq, nat_lt, ◌||◌, ◌&&◌, Result, Ok, Err, refl, sym, ap, subst, arith}
use Rattle.std.specs.Prelude.{Option, Some, None, slice_index}
use Rattle.std.proofs.lemmas.Bool.{eqb-true}
use Rattle.std.proofs.lemmas.Bool.Decides.{nat_tests}
use Rattle.av_base.specs.declared.message_id.MessageId.{MessageId}
use Rattle.av_base.specs.declared.port.Port.{Port}
use Rattle.av_frame.specs.declared.cause.NoChunkCause.{NoChunkCause}
use Rattle.av_frame.specs.declared.cause.FailCause.{FailCause}
use Rattle.av_frame.specs.declared.fault.FrameFault.{FrameFault}
use Rattle.av_frame.specs.declared.fault.FrameFault.TheVariants as fault
use Rattle.av_frame.specs.declared.message.Body.{Body}
use Rattle.av_frame.specs.declared.sizes.TheConstants.{HEAD_SIZE, MAX_BODY}
use Rattle.av_frame.specs.Message.{in_range, Letter, via}
use Rattle.av_frame.specs.Reading.{checked, scan_of, chunk_of, no_chunk_with, no_chunk_of, abort_of, hello_of, read_of, clean_of, infected_of, failed_with, failed_of, reply_of, updated_of, plain_of, decoded, fits_kind, fits_status, fault_of}

-- its error, if it is one, is this fault
abbrev Errs : Result Letter FrameFault → FrameFault → Type 0
Errs r d = (f : FrameFault) → r ≡ Err f → f ≡ d

split : (b : Bool) (r s : Result Letter FrameFault) (d : FrameFault) → (b ≡ true → Errs r d) → (b ≡ false → Errs s d) → Errs (cond b r s) d
split true r s d h k = h refl
split false r s d h k = k refl

errs_err : (x d : FrameFault) → x ≡ d → Errs (Err x) d
errs_err x d is f e = cc

errs_checked : (at : Option Port) (m : Body) → Errs (checked at m) fault.Range
unfolding checked
errs_checked None m = errs_err fault.Range fault.Range refl
errs_checked (Some port) m = split (in_range m) (Ok (via port m)) (Err fault.Range) fault.Range (λ _ f e. absurd cc) (λ _. errs_err fault.Range fault.Range refl)

errs_no_chunk : (at : Option Port) (id : MessageId) (offset : ℕ) (o : Option NoChunkCause) → Errs (no_chunk_with at id offset o) fault.Range
errs_no_chunk at id offset None = errs_err fault.Range fault.Range refl
errs_no_chunk at id offset (Some cause) = errs_checked _ _

errs_failed : (at : Option Port) (id : MessageId) (o : Option FailCause) → Errs (failed_with at id o) fault.Range
errs_failed at id None = errs_err fault.Range fault.Range refl
errs_failed at id (Some cause) = errs_checked _ _

-- a body of the wrong size for its kind, or else a field out of its range
errs_shape : (b : Bool) (r : Result Letter FrameFault) → Errs r fault.Range → Errs (cond b r (Err fault.Shape)) (cond (not b) fault.Shape fault.Range)
errs_shape true r h = h
errs_shape false r h = errs_err fault.Shape fault.Shape refl

-- a fault that comes first
errs_cond : (b : Bool) (x : FrameFault) (r : Result Letter FrameFault) (d : FrameFault) → Errs r d → Errs (cond b (Err x) r) (cond b x d)
errs_cond true x r d h = errs_err x x refl
errs_cond false x r d h = h

-- the fault of a body whose length is one of a body
abbrev within : (size kind status : ℕ) → FrameFault
within size kind status =
    cond (nat_eq kind 0 || nat_lt 8 kind) fault.Kind
    (cond (not (fits_kind kind size)) fault.Shape
    (cond (nat_eq kind 7 && nat_lt 2 status) fault.Range
    (cond (nat_eq kind 7 && not (fits_status status size)) fault.Shape fault.Range)))

abbrev of_kind : List ℕ → ℕ → FrameFault
of_kind body kind = within (length body) kind (slice_index body 18)

abbrev of_status : ℕ → ℕ → FrameFault
of_status size status = cond (nat_lt 2 status) fault.Range (cond (not (fits_status status size)) fault.Shape fault.Range)

scan_errs : (body : List ℕ) → Errs (scan_of body) (of_kind body 1)
unfolding scan_of
scan_errs body = errs_shape _ _ (errs_checked _ _)

chunk_errs : (body : List ℕ) → Errs (chunk_of body) (of_kind body 2)
unfolding chunk_of
chunk_errs body = errs_shape _ _ (errs_checked _ _)

no_chunk_errs : (body : List ℕ) → Errs (no_chunk_of body) (of_kind body 3)
unfolding no_chunk_of
no_chunk_errs body = errs_shape _ _ (errs_no_chunk _ _ _ _)

abort_errs : (body : List ℕ) → Errs (abort_of body) (of_kind body 4)
unfolding abort_of
abort_errs body = errs_shape _ _ (errs_checked _ _)

hello_errs : (body : List ℕ) → Errs (hello_of body) (of_kind body 5)
unfolding hello_of
hello_errs body = errs_shape _ _ (errs_checked _ _)

read_errs : (body : List ℕ) → Errs (read_of body) (of_kind body 6)
unfolding read_of
read_errs body = errs_shape _ _ (errs_checked _ _)

clean_errs : (body : List ℕ) → Errs (clean_of body) (of_status (length body) 0)
unfolding clean_of
clean_errs body = errs_shape _ _ (errs_checked _ _)

infected_errs : (body : List ℕ) → Errs (infected_of body) (of_status (length body) 1)
unfolding infected_of
infected_errs body = errs_shape _ _ (errs_checked _ _)

failed_errs : (body : List ℕ) → Errs (failed_of body) (of_status (length body) 2)
unfolding failed_of
failed_errs body = errs_shape _ _ (errs_failed _ _ _)

-- a status above 2 comes before its length
unknown_status : (size status : ℕ) → nat_eq status 0 ≡ false → nat_eq status 1 ≡ false → nat_eq status 2 ≡ false → fault.Range ≡ of_status size status
unknown_status size status a b c =
    let above : nat_lt 2 status ≡ true = grind (arith, nat_tests) in
    ap (λ t. cond t fault.Range (cond (not (fits_status status size)) fault.Shape fault.Range)) (sym above)

status_errs : (body : List ℕ) → Errs (cond (nat_eq (slice_index body 18) 0) (clean_of body) (cond (nat_eq (slice_index body 18) 1) (infected_of body) (cond (nat_eq (slice_index body 18) 2) (failed_of body) (Err fault.Range)))) (of_status (length body) (slice_index body 18))
status_errs body =
    let at : (status : ℕ) (r : Result Letter FrameFault) → nat_eq (slice_index body 18) status ≡ true → Errs r (of_status (length body) status) → Errs r (of_status (length body) (slice_index body 18)) =
    λ status r is h. subst (λ s. Errs r (of_status (length body) s)) (sym (eqb-true _ _ is)) h in
    split _ _ _ _ (λ is. at 0 _ is (clean_errs body)) (λ a.
    split _ _ _ _ (λ is. at 1 _ is (infected_errs body)) (λ b.
    split _ _ _ _ (λ is. at 2 _ is (failed_errs body)) (λ c.
    errs_err _ _ (unknown_status (length body) _ a b c))))

reply_errs : (body : List ℕ) → Errs (reply_of body) (of_kind body 7)
unfolding reply_of
reply_errs body = errs_cond (not (nat_lt HEAD_SIZE (length body))) _ _ _ (status_errs body)

updated_errs : (body : List ℕ) → Errs (updated_of body) (of_kind body 8)
unfolding updated_of
updated_errs body = errs_shape _ _ (errs_checked _ _)

-- a kind that no message has
unknown_kind : (size kind status : ℕ) → nat_eq kind 1 ≡ false → nat_eq kind 2 ≡ false → nat_eq kind 3 ≡ false → nat_eq kind 4 ≡ false → nat_eq kind 5 ≡ false → nat_eq kind 6 ≡ false → nat_eq kind 7 ≡ false → nat_eq kind 8 ≡ false → (nat_eq kind 0 || nat_lt 8 kind) ≡ true
unknown_kind size kind status k1 k2 k3 k4 k5 k6 k7 k8 = grind (arith, nat_tests)

plain_errs : (body : List ℕ) → nat_eq (slice_index body 0) 2 ≡ false → Errs (plain_of body) (of_kind body (slice_index body 0))
unfolding plain_of
plain_errs body k2 =
    let kind = slice_index body 0 in
    let at : (k : ℕ) (r : Result Letter FrameFault) → nat_eq kind k ≡ true → Errs r (of_kind body k) → Errs r (of_kind body kind) =
    λ k r is h. subst (λ n. Errs r (of_kind body n)) (sym (eqb-true _ _ is)) h in
    split _ _ _ _ (λ is. at 1 _ is (scan_errs body)) (λ k1.
    split _ _ _ _ (λ is. at 3 _ is (no_chunk_errs body)) (λ k3.
    split _ _ _ _ (λ is. at 4 _ is (abort_errs body)) (λ k4.
    split _ _ _ _ (λ is. at 5 _ is (hello_errs body)) (λ k5.
    split _ _ _ _ (λ is. at 6 _ is (read_errs body)) (λ k6.
    split _ _ _ _ (λ is. at 7 _ is (reply_errs body)) (λ k7.
    split _ _ _ _ (λ is. at 8 _ is (updated_errs body)) (λ k8.
    errs_err _ _ (
    let none = unknown_kind (length body) kind (slice_index body 18) k1 k2 k3 k4 k5 k6 k7 k8 in
    ap (λ b. cond b fault.Kind
    (cond (not (fits_kind kind (length body))) fault.Shape
    (cond (nat_eq kind 7 && nat_lt 2 (slice_index body 18)) fault.Range
    (cond (nat_eq kind 7 && not (fits_status (slice_index body 18) (length body))) fault.Shape fault.Range)))) (sym none)))))))))

-- the fault that reading gives is the body's
pub decoded_errs : (body : List ℕ) (f : FrameFault) → decoded body ≡ Err f → f ≡ fault_of body
unfolding decoded
decoded_errs body = errs_cond (nat_eq (length body) 0 || nat_lt MAX_BODY (length body)) _ _ _
    (split _ _ _ _ (λ is. subst (λ n. Errs (chunk_of body) (of_kind body n)) (sym (eqb-true _ _ is)) (chunk_errs body)) (plain_errs body))
