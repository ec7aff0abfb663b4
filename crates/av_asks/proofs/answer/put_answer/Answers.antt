use Rattle.std.proofs.Common.{ℕ, ◌≡◌, List, ◌++◌, length, sym, ap, ◌∙◌, append_assoc}
use Rattle.av_asks.specs.declared.answer.OpenAnswer.{OpenAnswer}
use Rattle.av_asks.specs.Spelling.{answer_body, answer_frame, field4, size_of}
use Rattle.av_asks.proofs.AnswerLemmas.{length-answer_body}
use Rattle.av_asks.proofs.answer.put_answer.Goals as goal

framed_of : (old mid new : List ℕ) (size : ℕ) (a : OpenAnswer) → size ≡ size_of a → mid ≡ old ++ field4 size → new ≡ mid ++ answer_body a → new ≡ old ++ answer_frame a
framed_of old mid new size a is first second =
    second ∙ ap (λ xs. xs ++ answer_body a) (first ∙ ap (λ n. old ++ field4 n) (is ∙ sym (length-answer_body a))) ∙ append_assoc old (field4 (length (answer_body a))) (answer_body a)

pub returns-clause-ok : goal.returns-clause-ok
returns-clause-ok c =
    framed_of _ c.put4.new.out.items _ c.size-size.result c.args.answer.now c.size-size.ensures.size (rw (← c.in_ok-reserve.ensures.items) c.put4.ensures.bytes) c.put_body.ensures
