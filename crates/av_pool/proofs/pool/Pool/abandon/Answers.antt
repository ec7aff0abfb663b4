use Rattle.std.proofs.Common.{rules}
use Rattle.av_pool.proofs.Moves.{forks}
use Rattle.av_pool.proofs.pool.Pool.abandon.Goals as goal

pub another-pass-requires-clause-rule : goal.another-pass-requires-clause-rule
another-pass-requires-clause-rule g c = forks _ _ (search rules)
