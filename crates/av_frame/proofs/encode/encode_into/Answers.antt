use Rattle.std.proofs.Common.{ℕ, ◌≡◌, List, ◌++◌, length, sym, ap, ◌∙◌, append_assoc}
use Rattle.av_frame.specs.Message.{Letter}
use Rattle.av_frame.specs.Spelling.{spelling, size_of, field4, frame}
use Rattle.av_frame.proofs.SizeLemmas.{length-spelling}
use Rattle.av_frame.proofs.encode.encode_into.Goals as goal

framed : (old mid new : List ℕ) (size : ℕ) (m : Letter) → size ≡ size_of m.body → mid ≡ old ++ field4 size → new ≡ mid ++ spelling m → new ≡ old ++ frame m
framed old mid new size m is first second =
    second ∙ ap (λ xs. xs ++ spelling m) (first ∙ ap (λ n. old ++ field4 n) (is ∙ sym (length-spelling m))) ∙ append_assoc old (field4 (length (spelling m))) (spelling m)

pub returns-clause-ok : goal.returns-clause-ok
returns-clause-ok c =
    rw (← c.body-body.ensures.same, ← c.port.ensures) (framed _ c.put4.new.out.items _ c.size-size.result _ c.size-size.ensures.size (rw (← c.in_ok-reserve.ensures.items) c.put4.ensures.bytes) c.put_body.ensures)
