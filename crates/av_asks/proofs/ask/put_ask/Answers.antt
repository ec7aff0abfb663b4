use Rattle.std.proofs.Common.{ℕ, ◌≡◌, ◌+◌, ◌≤◌, List, ◌++◌, length, nat_lt, false, Ok, sym, ap, ◌∙◌, refl, arith, append_assoc}
use Rattle.std.proofs.lemmas.Bool.{le-ltb}
use Rattle.av_asks.specs.declared.sizes.TheConstants.{ASK_HEAD, MAX_CONTENT, MAX_LABEL}
use Rattle.av_asks.specs.Spelling.{Asked, ask_body, ask_frame, field4, written}
use Rattle.av_asks.proofs.AskLemmas.{length-ask_body}
use Rattle.av_asks.proofs.ask.put_ask.Goals as goal

passed : (old new : List ℕ) (a : Asked) → length a.label ≤ MAX_LABEL → length a.content ≤ MAX_CONTENT → new ≡ old ++ ask_frame a → written old a ≡ Ok new
passed old new a label content is =
    let first : nat_lt MAX_LABEL (length a.label) ≡ false = le-ltb _ _ label in
    let second : nat_lt MAX_CONTENT (length a.content) ≡ false = le-ltb _ _ content in
    rw (first, second) (ap Ok (sym is))

framed_of : (old mid new : List ℕ) (size : ℕ) (a : Asked) → size ≡ ASK_HEAD + length a.label + length a.content → mid ≡ old ++ field4 size → new ≡ mid ++ ask_body a → new ≡ old ++ ask_frame a
framed_of old mid new size a is first second =
    second ∙ ap (λ xs. xs ++ ask_body a) (first ∙ ap (λ n. old ++ field4 n) (is ∙ sym (length-ask_body a))) ∙ append_assoc old (field4 (length (ask_body a))) (ask_body a)

pub returns : goal.returns
returns c =
    let a : Asked = record { tag = c.args.tag; label = c.args.label.now; content = c.args.content.now } in
    passed _ _ a (omega (arith, c.if-label-gt-MAX_LABEL.false)) (omega (arith, c.if-content-gt-MAX_CONTENT.false))
    (framed_of _ c.put4.new.out.items _ (ASK_HEAD + length c.args.label.now + length c.args.content.now) a refl (rw (← c.in_ok-reserve.ensures.items) c.put4.ensures.bytes) c.put_body.ensures)
