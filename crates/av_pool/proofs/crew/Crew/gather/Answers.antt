use Rattle.std.proofs.Common.{rules}
use Rattle.av_pool.proofs.Moves.{forks}
use Rattle.av_pool.proofs.crew.Crew.gather.Goals as goal

pub another-requires-clause-rule : goal.another-requires-clause-rule
another-requires-clause-rule c = forks _ _ (search rules)

pub another-requires-2-clause-rule : goal.another-requires-2-clause-rule
another-requires-2-clause-rule c = forks _ _ (search rules)
