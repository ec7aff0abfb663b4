use Rattle.std.proofs.Common.{rules}
use Rattle.av_filter.proofs.OpeningLemmas.{known}
use Rattle.av_filter.proofs.opening.open_known.Goals as goal

pub returns-clause-ok : goal.returns-clause-ok
returns-clause-ok c =
    known c.answers.result c.args.table.now c.set_state.new.self c.look-hit.new.self c.raise.new.self c.args.volume.now c.args.arrival.now c.args.verdict c.requires.arrival c.requires.unjudged c.requires.unasked c.requires.hit
    c.in_ok-set_state.ensures.ok c.look-hit.ensures.order c.raise.ensures (search rules) c.answers.ensures.messages c.answers.ensures.note
