use Rattle.std.proofs.Common.{sym, ◌∙◌}
use Rattle.av_parts.specs.Spelling.{said_body}
use Rattle.av_parts.proofs.SpellLemmas.{framed_of, length-said_body}
use Rattle.av_parts.proofs.word.put_said.Goals as goal

pub returns-clause-ok : goal.returns-clause-ok
returns-clause-ok c =
    framed_of (said_body c.args.said.now) _ c.put4.new.out.items _ c.size-size.result (c.size-size.ensures.size ∙ sym (length-said_body c.args.said.now)) (rw (← c.in_ok-reserve.ensures.items) c.put4.ensures.bytes) c.put_body.ensures
