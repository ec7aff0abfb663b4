use Rattle.av_turns.proofs.LineLemmas.{skips_more}
use Rattle.av_turns.proofs.turns.asking.skip_bare.Goals as goal

pub loop-first-preserved : goal.loop-first-preserved
loop-first-preserved c = skips_more c.args.line.now c.loop-first.line c.look.new.self c.loop-first.invariant c.in-Later.ensures.exact
