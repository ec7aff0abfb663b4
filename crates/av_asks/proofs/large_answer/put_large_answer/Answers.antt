use Rattle.std.proofs.Common.{sym, ◌∙◌}
use Rattle.av_asks.specs.LargeAnswers.{large_body}
use Rattle.av_asks.proofs.ContentSpelling.{framed_by, length-large_body}
use Rattle.av_asks.proofs.large_answer.put_large_answer.Goals as goal

pub returns-clause-ok : goal.returns-clause-ok
returns-clause-ok c =
    framed_by (large_body c.args.answer.now) _ c.put4.new.out.items _ c.size-size.result (c.size-size.ensures.size ∙ sym (length-large_body c.args.answer.now)) (rw (← c.in_ok-reserve.ensures.items) c.put4.ensures.bytes) c.put_body.ensures
