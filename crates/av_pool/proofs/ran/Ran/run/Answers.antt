use Rattle.std.proofs.Common.{rules}
use Rattle.av_pool.proofs.ran.Ran.run.Goals as goal

pub invariant_of-result : goal.invariant_of-result
invariant_of-result c = (c.args.lent, search rules)
