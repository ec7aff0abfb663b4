-- Asks, spelled and read.
use Rattle.std.proofs.Common.{ℕ, ◌≡◌, ◌+◌, ◌-◌, ◌≤◌, List, ◌∷◌, ◌++◌, length, take, drop, true, false, cond, nat_lt, Result, Ok, Err, refl, sym, ◌∙◌, ap, subst, arith, length-append, length-drop}
use Rattle.std.specs.Prelude.{Some, slice_index}
use Rattle.std.proofs.lemmas.Nat.{from_be_bytes-to_be_bytes_8}
use Rattle.std.proofs.lemmas.List.{take-append-drop, length-take-le, drop-drop}
use Rattle.std.proofs.Math.Seq.{take-append_seam, drop-append_seam}
use Rattle.std.proofs.lemmas.Bool.{ltb-false, le-ltb, eqb-true}
use Rattle.std.proofs.lemmas.Bool.Decides.{nat_tests}
use Rattle.av_asks.specs.declared.sizes.TheConstants.{ASK_HEAD, MAX_ASK, MAX_CONTENT}
use Rattle.av_asks.specs.declared.fault.AskFault.{AskFault}
use Rattle.av_asks.specs.declared.fault.AskFault.TheVariants as fault
use Rattle.av_asks.specs.declared.head.Side.TheVariants.{Asks}
use Rattle.av_asks.specs.declared.head.Head.{Head}
use Rattle.av_asks.specs.declared.head.Head.TheVariants as head
use Rattle.av_asks.specs.Spelling.{Asked, IsAsk, ask_body, ask_frame, field8, framed, number8}
use Rattle.av_asks.specs.Head.{fits_kind, fits_size, head_of}
use Rattle.av_asks.specs.Reading.{ask_front, ask_labelled, ask_of}
use Rattle.av_asks.specs.Laws.{AreBytes, IsReadBack, ReadsSpellings}
use Rattle.av_asks.proofs.BytesLemmas.{begins_framed, bytes_taken, eight, length-framed, number8-lt, one}
use Rattle.av_asks.proofs.HeadLemmas.{framed_head, whole_is}
use Rattle.av_asks.proofs.FrontLemmas.{IsSized, IsSteady, first_is, found_front, framed_front, front_is, passes, sized_by, steady_by}

pub length-ask_body : (a : Asked) → length (ask_body a) ≡ ASK_HEAD + length a.label + length a.content
unfolding field8
length-ask_body a = omega (arith, length-append a.label a.content)

-- ---- the front of a stream of asks

pub steady : IsSteady ask_front
unfolding ask_front
steady a b r e told = steady_by Asks fault.Length fault.Kind ask_of a b r e told

pub sized : IsSized ask_front
unfolding ask_front
sized bytes x size e = sized_by Asks fault.Length fault.Kind ask_of bytes x size e

-- ---- what is spelled is read back

size_fits : (n : ℕ) → ASK_HEAD ≤ n → n ≤ MAX_ASK → fits_size Asks n ≡ true
size_fits n low high = grind (arith, nat_tests)

-- the tests of a body in their order, of any fields
labelled_ok : (body : List ℕ) (count : ℕ) → ASK_HEAD + count ≤ length body → length body - (ASK_HEAD + count) ≤ MAX_CONTENT → ask_labelled body count ≡ Ok (record { tag = number8 body 1; label = take count (drop ASK_HEAD body); content = drop (ASK_HEAD + count) body })
labelled_ok body count long short =
    let a : nat_lt (length body) (ASK_HEAD + count) ≡ false = le-ltb _ _ long in
    let b : nat_lt MAX_CONTENT (length body - (ASK_HEAD + count)) ≡ false = le-ltb _ _ short in
    rw (a, b) refl

pub body_again : (a : Asked) → IsAsk a → ask_of (ask_body a) ≡ Ok a
unfolding ask_of field8
body_again a fits =
    let body = ask_body a in
    let count = length a.label in
    let len = length-ask_body a in
    let behind : drop ASK_HEAD body ≡ a.label ++ a.content = refl in
    let label : take count (drop ASK_HEAD body) ≡ a.label = take-append_seam a.label a.content in
    let content : drop (ASK_HEAD + count) body ≡ a.content = sym (drop-drop count ASK_HEAD body) ∙ drop-append_seam a.label a.content in
    let tag : number8 body 1 ≡ a.tag = from_be_bytes-to_be_bytes_8 a.tag fits.0 in
    labelled_ok body count (omega (arith, len)) (omega (arith, len, fits.2))
    ∙ ap (λ n. Ok (record { tag = n; label = take count (drop ASK_HEAD body); content = drop (ASK_HEAD + count) body })) tag
    ∙ ap (λ l. Ok (record { tag = a.tag; label = l; content = drop (ASK_HEAD + count) body })) label
    ∙ ap (λ c. Ok (record { tag = a.tag; label = a.label; content = c })) content

pub read_back : IsReadBack ask_front ask_frame IsAsk
unfolding ask_front
read_back a more fits =
    let body = ask_body a in
    let len = length-ask_body a in
    let small : length body ≤ MAX_ASK = omega (arith, len, fits.1, fits.2) in
    framed_front fault.Length fault.Kind ask_of body more _ a
    (framed_head Asks body more (omega (arith, len)) (omega (arith, small)) (size_fits _ (omega (arith, len)) small) refl)
    (body_again a fits)
    ∙ ap (λ n. Ok (Some (a, n))) (sym (length-framed body))

-- ---- what is read is spelled so

labelled_is : (body : List ℕ) (count : ℕ) (a : Asked) → ask_labelled body count ≡ Ok a → (ASK_HEAD + count ≤ length body) × (length body - (ASK_HEAD + count) ≤ MAX_CONTENT) × (a ≡ record { tag = number8 body 1; label = take count (drop ASK_HEAD body); content = drop (ASK_HEAD + count) body })
labelled_is body count a e =
    let read : Asked = record { tag = number8 body 1; label = take count (drop ASK_HEAD body); content = drop (ASK_HEAD + count) body } in
    let inner : Result Asked AskFault = cond (nat_lt MAX_CONTENT (length body - (ASK_HEAD + count))) (Err fault.Content) (Ok read) in
    let p = passes (nat_lt (length body) (ASK_HEAD + count)) fault.Label inner a e in
    let q = passes (nat_lt MAX_CONTENT (length body - (ASK_HEAD + count))) fault.Content (Ok read) a p.1 in
    let same : ◌≡◌ {A = Result Asked AskFault} (Ok read) (Ok a) = q.1 in
    (ltb-false _ _ p.0, ltb-false _ _ q.0, cc)

spelled : (body : List ℕ) → AreBytes body → slice_index body 0 ≡ 1 → (a : Asked) → ask_of body ≡ Ok a → IsAsk a × (body ≡ ask_body a)
unfolding ask_of
spelled body fits kind a e =
    let count = slice_index body 9 in
    let is = labelled_is body count a e in
    let read : Asked = record { tag = number8 body 1; label = take count (drop ASK_HEAD body); content = drop (ASK_HEAD + count) body } in
    let len : length read.label ≡ count = length-take-le count (drop ASK_HEAD body) (omega (arith, is.0, length-drop ASK_HEAD body)) in
    let rest : drop ASK_HEAD body ≡ read.label ++ read.content = sym (take-append-drop count (drop ASK_HEAD body)) ∙ ap (λ c. read.label ++ c) (drop-drop count ASK_HEAD body) in
    let whole : body ≡ ask_body read =
    one body 0 (omega (arith, is.0)) ∙ ap (λ b. b ∷ drop 1 body) kind
    ∙ ap (λ b. 1 ∷ b) (eight body 1 fits (omega (arith, is.0)))
    ∙ ap (λ b. 1 ∷ (field8 (number8 body 1) ++ b)) (one body 9 (omega (arith, is.0)))
    ∙ ap (λ b. 1 ∷ (field8 (number8 body 1) ++ count ∷ b)) rest
    ∙ ap (λ n. 1 ∷ (field8 (number8 body 1) ++ n ∷ (read.label ++ read.content))) (sym len) in
    let in_range : IsAsk read = (number8-lt body 1 fits, omega (arith, len, fits 9), omega (arith, length-drop (ASK_HEAD + count) body, is.1)) in
    subst (λ (b : Asked). IsAsk b × (body ≡ ask_body b)) (sym is.2) (in_range, whole)

kind_is : (kind : ℕ) → fits_kind Asks kind ≡ true → kind ≡ 1
kind_is kind e = eqb-true _ _ e

low : (n : ℕ) → fits_size Asks n ≡ true → ASK_HEAD ≤ n
low n e = grind (arith, nat_tests)

pub exactly : ReadsSpellings ask_front ask_frame IsAsk
unfolding ask_front
exactly bytes a size fits e =
    let is = front_is fault.Length fault.Kind ask_of bytes (head_of Asks bytes) a size e in
    let n = is.0 in
    let whole = whole_is Asks bytes n is.1 in
    let body = take n (drop 4 bytes) in
    let kind : slice_index body 0 ≡ 1 = first_is bytes n (omega (arith, low n whole.0)) ∙ kind_is _ whole.1 in
    let s = spelled body (bytes_taken bytes 4 n fits) kind a is.2 in
    let begins : bytes ≡ framed body ++ drop (4 + n) bytes =
    subst (λ k. bytes ≡ framed (take k (drop 4 bytes)) ++ drop (4 + k) bytes) whole.4 (begins_framed bytes fits (omega (arith, whole.3, whole.4))) in
    let count : length body ≡ n = length-take-le n (drop 4 bytes) (omega (arith, whole.3, length-drop 4 bytes)) in (
      s.0,
      begins ∙ ap (λ b. framed b ++ drop (4 + n) bytes) s.1 ∙ ap (λ k. ask_frame a ++ drop k bytes) is.3,
      sym is.3 ∙ ap (λ k. 4 + k) (sym count ∙ ap length s.1) ∙ sym (length-framed (ask_body a)),
    )

-- what was read of the frame at the front is spelled there
pub found : (rest : List ℕ) (n k : ℕ) (h : Head) (a : Asked) → AreBytes rest → h ≡ head_of Asks rest → h ≡ head.Whole n → k ≡ n → ask_of (take k (drop 4 rest)) ≡ Ok a → IsAsk a × (rest ≡ ask_frame a ++ drop (4 + n) rest)
unfolding ask_front
found rest n k h a fits is whole same e =
    let x = exactly rest a (4 + n) fits (unfold ask_front in found_front Asks fault.Length fault.Kind ask_of rest n k a (sym whole ∙ is) same e) in
    (x.0, x.1)
