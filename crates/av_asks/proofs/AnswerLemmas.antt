-- Answers, spelled and read.
use Rattle.std.proofs.Common.{ℕ, ◌≡◌, ◌+◌, ◌≤◌, List, [], ◌∷◌, ◌++◌, length, take, drop, true, false, cond, nat_eq, Result, Ok, Err, refl, sym, ◌∙◌, ap, subst, arith, length-drop}
use Rattle.std.specs.Prelude.{Option, Some, None, slice_index, ◌↔◌, IsSome, IfSome}
use Rattle.std.proofs.lemmas.Nat.{from_be_bytes-to_be_bytes_8}
use Rattle.std.proofs.lemmas.List.{length-take-le}
use Rattle.std.proofs.lemmas.Bool.{eqb-true}
use Rattle.std.proofs.lemmas.Bool.Decides.{nat_tests}
use Rattle.std.proofs.Math.ListN.{drop_of_length-le}
use Rattle.av_base.specs.Cause.{number_of, IsCauseNumber}
use Rattle.av_base.specs.declared.cause.Cause.{Cause}
use Rattle.av_base.specs.declared.cause.Cause.TheVariants.{NoStream, Infected, NotConnected, Busy, TimedOut, PortDisconnected, ScanFailed, Unsettled, StreamRemoved, FilterRestart}
use Rattle.av_asks.specs.declared.sizes.TheConstants.{DENIED_SIZE, GRANTED_SIZE, UNSCANNED_SIZE}
use Rattle.av_asks.specs.declared.fault.AnswerFault.TheVariants as fault
use Rattle.av_asks.specs.declared.answer.OpenAnswer.{OpenAnswer}
use Rattle.av_asks.specs.declared.answer.OpenAnswer.TheVariants.{Granted, Denied, Unscanned}
use Rattle.av_asks.specs.declared.head.Side.TheVariants.{Answers}
use Rattle.av_asks.specs.declared.head.Head.{Head}
use Rattle.av_asks.specs.declared.head.Head.TheVariants as head
use Rattle.av_asks.specs.Spelling.{IsAnswer, answer_body, answer_frame, field8, framed, number8, size_of}
use Rattle.av_asks.specs.Head.{fits_kind, fits_size, head_of}
use Rattle.av_asks.specs.Reading.{answer_front, answer_of, cause_of, denied_of, granted_of, unscanned_of, with_cause}
use Rattle.av_asks.specs.Laws.{AreBytes, IsReadBack, ReadsSpellings}
use Rattle.av_asks.proofs.BytesLemmas.{begins_framed, bytes_taken, eight, length-framed, number8-lt, one}
use Rattle.av_asks.proofs.HeadLemmas.{framed_head, whole_is}
use Rattle.av_asks.proofs.FrontLemmas.{IsSized, IsSteady, first_is, found_front, framed_front, front_is, sized_by, steady_by}

-- ---- causes

pub cause_again : (cause : Cause) → cause_of (number_of cause) ≡ Some cause
unfolding cause_of
cause_again NoStream = refl
cause_again Infected = refl
cause_again NotConnected = refl
cause_again Busy = refl
cause_again TimedOut = refl
cause_again PortDisconnected = refl
cause_again ScanFailed = refl
cause_again Unsettled = refl
cause_again StreamRemoved = refl
cause_again FilterRestart = refl

other_than : (n : ℕ) → (IsCauseNumber n → ⊥) → (k : ℕ) → 1 ≤ k → k ≤ 10 → nat_eq n k ≡ false
other_than n none k low high =
    (elim (nat_eq n k) as (λ b. nat_eq n k ≡ b → b ≡ false) [
      | true ↦ λ e. let same = eqb-true n k e in absurd (none (omega (arith, same, low), omega (arith, same, high)))
      | false ↦ λ e. refl
    ]) refl

pub no_cause : (n : ℕ) → (IsCauseNumber n → ⊥) → cause_of n ≡ None
unfolding cause_of
no_cause n none =
    let other = other_than n none in
    rw (other 1 (omega arith) (omega arith), other 2 (omega arith) (omega arith), other 3 (omega arith) (omega arith), other 4 (omega arith) (omega arith), other 5 (omega arith) (omega arith), other 6 (omega arith) (omega arith), other 7 (omega arith) (omega arith), other 8 (omega arith) (omega arith), other 9 (omega arith) (omega arith), other 10 (omega arith) (omega arith)) refl

-- what is found by number is the cause of the number
pub cause_found : (n : ℕ) (found : Option Cause) → IsSome found ↔ IsCauseNumber n → IfSome found (λ cause. number_of cause ≡ n) → found ≡ cause_of n
cause_found n None some value = sym (no_cause n (λ is. let clash = some.1 is in absurd cc))
cause_found n (Some cause) some value = sym (ap cause_of (sym value) ∙ cause_again cause)

-- a cause that is read has the number that was read
pub cause_numbered : (n : ℕ) (cause : Cause) → cause_of n ≡ Some cause → n ≡ number_of cause
unfolding cause_of
cause_numbered n cause e =
    let step : (k : ℕ) (c : Cause) (more : Option Cause) → cond (nat_eq n k) (Some c) more ≡ Some cause → (k ≡ number_of c) → (more ≡ Some cause → n ≡ number_of cause) → n ≡ number_of cause =
    λ k c more is number others.
    (elim (nat_eq n k) as (λ b. nat_eq n k ≡ b → cond b (Some c) more ≡ Some cause → n ≡ number_of cause) [
      | true ↦ λ t found. let same : c ≡ cause = cc in eqb-true n k t ∙ number ∙ ap number_of same
      | false ↦ λ t found. others found
    ]) refl is in
    step 1 NoStream _ e refl (λ e2. step 2 Infected _ e2 refl (λ e3. step 3 NotConnected _ e3 refl (λ e4. step 4 Busy _ e4 refl (λ e5.
    step 5 TimedOut _ e5 refl (λ e6. step 6 PortDisconnected _ e6 refl (λ e7. step 7 ScanFailed _ e7 refl (λ e8. step 8 Unsettled _ e8 refl (λ e9.
    step 9 StreamRemoved _ e9 refl (λ e10. step 10 FilterRestart None e10 refl (λ none. absurd cc))))))))))

-- ---- the front of a stream of answers

pub length-answer_body : (a : OpenAnswer) → length (answer_body a) ≡ size_of a
unfolding field8
length-answer_body (Granted tag generation version) = refl
length-answer_body (Denied tag cause) = refl
length-answer_body (Unscanned tag generation cause) = refl

pub steady : IsSteady answer_front
unfolding answer_front
steady a b r e told = steady_by Answers fault.Length fault.Kind answer_of a b r e told

pub sized : IsSized answer_front
unfolding answer_front
sized bytes x size e = sized_by Answers fault.Length fault.Kind answer_of bytes x size e

-- ---- what is spelled is read back

pub body_again : (a : OpenAnswer) → IsAnswer a → answer_of (answer_body a) ≡ Ok a
unfolding answer_of granted_of denied_of unscanned_of field8
body_again (Granted tag generation version) fits =
    let body = answer_body (Granted tag generation version) in
    let first : number8 body 1 ≡ tag = from_be_bytes-to_be_bytes_8 tag fits.0 in
    let second : number8 body 9 ≡ generation = from_be_bytes-to_be_bytes_8 generation fits.1 in
    let third : number8 body 17 ≡ version = from_be_bytes-to_be_bytes_8 version fits.2 in
    ap (λ n. Ok (Granted n (number8 body 9) (number8 body 17))) first
    ∙ ap (λ n. Ok (Granted tag n (number8 body 17))) second
    ∙ ap (λ n. Ok (Granted tag generation n)) third
body_again (Denied tag cause) fits =
    let body = answer_body (Denied tag cause) in
    let first : number8 body 1 ≡ tag = from_be_bytes-to_be_bytes_8 tag fits in
    ap (λ n. with_cause (Denied n) (cause_of (number_of cause))) first
    ∙ ap (with_cause (Denied tag)) (cause_again cause)
body_again (Unscanned tag generation cause) fits =
    let body = answer_body (Unscanned tag generation cause) in
    let first : number8 body 1 ≡ tag = from_be_bytes-to_be_bytes_8 tag fits.0 in
    let second : number8 body 9 ≡ generation = from_be_bytes-to_be_bytes_8 generation fits.1 in
    ap (λ n. with_cause (Unscanned n (number8 body 9)) (cause_of (number_of cause))) first
    ∙ ap (λ n. with_cause (Unscanned tag n) (cause_of (number_of cause))) second
    ∙ ap (with_cause (Unscanned tag generation)) (cause_again cause)

pub size_fits : (a : OpenAnswer) → (1 ≤ length (answer_body a)) × (length (answer_body a) ≤ GRANTED_SIZE) × (fits_size Answers (length (answer_body a)) ≡ true)
unfolding field8
size_fits (Granted tag generation version) = (omega arith, omega arith, refl)
size_fits (Denied tag cause) = (omega arith, omega arith, refl)
size_fits (Unscanned tag generation cause) = (omega arith, omega arith, refl)

pub kind_fits : (a : OpenAnswer) → fits_kind Answers (slice_index (answer_body a) 0) ≡ true
kind_fits (Granted tag generation version) = refl
kind_fits (Denied tag cause) = refl
kind_fits (Unscanned tag generation cause) = refl

pub read_back : IsReadBack answer_front answer_frame IsAnswer
unfolding answer_front
read_back a more fits =
    let body = answer_body a in
    let size = size_fits a in
    framed_front fault.Length fault.Kind answer_of body more _ a
    (framed_head Answers body more size.0 (omega (arith, size.1)) size.2 (kind_fits a))
    (body_again a fits)
    ∙ ap (λ n. Ok (Some (a, n))) (sym (length-framed body))

-- ---- what is read is spelled so

-- a length that had to be
pub has : {A F : Type 0} (size k : ℕ) (f : F) (r : Result A F) (x : A) → cond (nat_eq size k) r (Err f) ≡ Ok x → (size ≡ k) × (r ≡ Ok x)
has {A} {F} size k f r x e =
    (elim (nat_eq size k) as (λ b. nat_eq size k ≡ b → cond b r (Err f) ≡ Ok x → (size ≡ k) × (r ≡ Ok x)) [
      | true ↦ λ is ok. (eqb-true size k is, ok)
      | false ↦ λ is ok. absurd cc
    ]) refl e

-- a cause that had to be
caused : (told : Cause → OpenAnswer) (n : ℕ) (x : OpenAnswer) → with_cause told (cause_of n) ≡ Ok x → (cause : Cause) × (n ≡ number_of cause) × (x ≡ told cause)
caused told n x e =
    (elim (cause_of n) as (λ o. cause_of n ≡ o → with_cause told o ≡ Ok x → (cause : Cause) × (n ≡ number_of cause) × (x ≡ told cause)) [
      | None ↦ λ is ok. absurd cc
      | Some cause ↦ λ is ok. (cause, cause_numbered n cause is, cc)
    ]) refl e

pub ends_at : (bytes : List ℕ) (at : ℕ) → length bytes ≡ at → drop at bytes ≡ []
ends_at bytes at len = drop_of_length-le bytes {i = at} (omega (arith, len))

-- numbers one behind another, however they are grouped
flat_three : (a b c : ℕ) → ◌≡◌ {A = List ℕ} (2 ∷ (field8 a ++ (field8 b ++ (field8 c ++ [])))) (answer_body (Granted a b c))
unfolding field8
flat_three a b c = refl

pub flat_two : (a b : ℕ) (more : List ℕ) → ◌≡◌ {A = List ℕ} (4 ∷ (field8 a ++ (field8 b ++ more))) (4 ∷ (field8 a ++ field8 b ++ more))
unfolding field8
flat_two a b more = refl

granted_is : (body : List ℕ) → AreBytes body → slice_index body 0 ≡ 2 → (a : OpenAnswer) → granted_of body ≡ Ok a → IsAnswer a × (body ≡ answer_body a)
unfolding granted_of
granted_is body fits kind a e =
    let h = has (length body) GRANTED_SIZE fault.Shape (Ok (Granted (number8 body 1) (number8 body 9) (number8 body 17))) a e in
    let same : Granted (number8 body 1) (number8 body 9) (number8 body 17) ≡ a = cc in
    let whole : body ≡ answer_body (Granted (number8 body 1) (number8 body 9) (number8 body 17)) =
    one body 0 (omega (arith, h.0)) ∙ ap (λ b. b ∷ drop 1 body) kind
    ∙ ap (λ b. 2 ∷ b) (eight body 1 fits (omega (arith, h.0)))
    ∙ ap (λ b. 2 ∷ (field8 (number8 body 1) ++ b)) (eight body 9 fits (omega (arith, h.0)))
    ∙ ap (λ b. 2 ∷ (field8 (number8 body 1) ++ (field8 (number8 body 9) ++ b))) (eight body 17 fits (omega (arith, h.0)))
    ∙ ap (λ b. 2 ∷ (field8 (number8 body 1) ++ (field8 (number8 body 9) ++ (field8 (number8 body 17) ++ b)))) (ends_at body 25 h.0)
    ∙ flat_three (number8 body 1) (number8 body 9) (number8 body 17) in
    subst (λ b. IsAnswer b × (body ≡ answer_body b)) same ((number8-lt body 1 fits, number8-lt body 9 fits, number8-lt body 17 fits), whole)

denied_is : (body : List ℕ) → AreBytes body → slice_index body 0 ≡ 3 → (a : OpenAnswer) → denied_of body ≡ Ok a → IsAnswer a × (body ≡ answer_body a)
unfolding denied_of
denied_is body fits kind a e =
    let h = has (length body) DENIED_SIZE fault.Shape (with_cause (Denied (number8 body 1)) (cause_of (slice_index body 9))) a e in
    let c = caused (Denied (number8 body 1)) (slice_index body 9) a h.1 in
    let whole : body ≡ answer_body (Denied (number8 body 1) c.0) =
    one body 0 (omega (arith, h.0)) ∙ ap (λ b. b ∷ drop 1 body) kind
    ∙ ap (λ b. 3 ∷ b) (eight body 1 fits (omega (arith, h.0)))
    ∙ ap (λ b. 3 ∷ (field8 (number8 body 1) ++ b)) (one body 9 (omega (arith, h.0)))
    ∙ ap (λ b. 3 ∷ (field8 (number8 body 1) ++ slice_index body 9 ∷ b)) (ends_at body 10 h.0)
    ∙ ap (λ n. 3 ∷ (field8 (number8 body 1) ++ n ∷ [])) c.1 in
    subst (λ b. IsAnswer b × (body ≡ answer_body b)) (sym c.2) (number8-lt body 1 fits, whole)

unscanned_is : (body : List ℕ) → AreBytes body → slice_index body 0 ≡ 4 → (a : OpenAnswer) → unscanned_of body ≡ Ok a → IsAnswer a × (body ≡ answer_body a)
unfolding unscanned_of
unscanned_is body fits kind a e =
    let h = has (length body) UNSCANNED_SIZE fault.Shape (with_cause (Unscanned (number8 body 1) (number8 body 9)) (cause_of (slice_index body 17))) a e in
    let c = caused (Unscanned (number8 body 1) (number8 body 9)) (slice_index body 17) a h.1 in
    let whole : body ≡ answer_body (Unscanned (number8 body 1) (number8 body 9) c.0) =
    one body 0 (omega (arith, h.0)) ∙ ap (λ b. b ∷ drop 1 body) kind
    ∙ ap (λ b. 4 ∷ b) (eight body 1 fits (omega (arith, h.0)))
    ∙ ap (λ b. 4 ∷ (field8 (number8 body 1) ++ b)) (eight body 9 fits (omega (arith, h.0)))
    ∙ ap (λ b. 4 ∷ (field8 (number8 body 1) ++ (field8 (number8 body 9) ++ b))) (one body 17 (omega (arith, h.0)))
    ∙ ap (λ b. 4 ∷ (field8 (number8 body 1) ++ (field8 (number8 body 9) ++ slice_index body 17 ∷ b))) (ends_at body 18 h.0)
    ∙ ap (λ n. 4 ∷ (field8 (number8 body 1) ++ (field8 (number8 body 9) ++ n ∷ []))) c.1
    ∙ flat_two (number8 body 1) (number8 body 9) (number_of c.0 ∷ []) in
    subst (λ b. IsAnswer b × (body ≡ answer_body b)) (sym c.2) ((number8-lt body 1 fits, number8-lt body 9 fits), whole)

above_3 : (kind : ℕ) → fits_kind Answers kind ≡ true → nat_eq kind 2 ≡ false → nat_eq kind 3 ≡ false → kind ≡ 4
above_3 kind fits a b = grind (arith, nat_tests)

pub spelled : (body : List ℕ) → AreBytes body → fits_kind Answers (slice_index body 0) ≡ true → (a : OpenAnswer) → answer_of body ≡ Ok a → IsAnswer a × (body ≡ answer_body a)
unfolding answer_of
spelled body fits known a e =
    let kind = slice_index body 0 in
    (elim (nat_eq kind 2) as (λ b. nat_eq kind 2 ≡ b → cond b (granted_of body) (cond (nat_eq kind 3) (denied_of body) (unscanned_of body)) ≡ Ok a → IsAnswer a × (body ≡ answer_body a)) [
      | true ↦ λ is ok. granted_is body fits (eqb-true kind 2 is) a ok
      | false ↦ λ two.
          (elim (nat_eq kind 3) as (λ b. nat_eq kind 3 ≡ b → cond b (denied_of body) (unscanned_of body) ≡ Ok a → IsAnswer a × (body ≡ answer_body a)) [
            | true ↦ λ is ok. denied_is body fits (eqb-true kind 3 is) a ok
            | false ↦ λ three ok. unscanned_is body fits (above_3 kind known two three) a ok
          ]) refl
    ]) refl e

pub low : (n : ℕ) → fits_size Answers n ≡ true → 1 ≤ n
low n e = grind (arith, nat_tests)

pub exactly : ReadsSpellings answer_front answer_frame IsAnswer
unfolding answer_front
exactly bytes a size fits e =
    let is = front_is fault.Length fault.Kind answer_of bytes (head_of Answers bytes) a size e in
    let n = is.0 in
    let whole = whole_is Answers bytes n is.1 in
    let body = take n (drop 4 bytes) in
    let known : fits_kind Answers (slice_index body 0) ≡ true = ap (fits_kind Answers) (first_is bytes n (low n whole.0)) ∙ whole.1 in
    let s = spelled body (bytes_taken bytes 4 n fits) known a is.2 in
    let begins : bytes ≡ framed body ++ drop (4 + n) bytes =
    subst (λ k. bytes ≡ framed (take k (drop 4 bytes)) ++ drop (4 + k) bytes) whole.4 (begins_framed bytes fits (omega (arith, whole.3, whole.4))) in
    let count : length body ≡ n = length-take-le n (drop 4 bytes) (omega (arith, whole.3, length-drop 4 bytes)) in (
      s.0,
      begins ∙ ap (λ b. framed b ++ drop (4 + n) bytes) s.1 ∙ ap (λ k. answer_frame a ++ drop k bytes) is.3,
      sym is.3 ∙ ap (λ k. 4 + k) (sym count ∙ ap length s.1) ∙ sym (length-framed (answer_body a)),
    )

-- what was read of the frame at the front is spelled there
pub found : (rest : List ℕ) (n k : ℕ) (h : Head) (a : OpenAnswer) → AreBytes rest → h ≡ head_of Answers rest → h ≡ head.Whole n → k ≡ n → answer_of (take k (drop 4 rest)) ≡ Ok a → IsAnswer a × (rest ≡ answer_frame a ++ drop (4 + n) rest)
unfolding answer_front
found rest n k h a fits is whole same e =
    let x = exactly rest a (4 + n) fits (unfold answer_front in found_front Answers fault.Length fault.Kind answer_of rest n k a (sym whole ∙ is) same e) in
    (x.0, x.1)
