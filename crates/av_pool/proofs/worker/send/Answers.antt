use Rattle.std.proofs.Common.{rules}
use Rattle.av_pool.proofs.Moves.{pushes, learns}
use Rattle.av_pool.proofs.worker.send.Goals as goal

pub send_as-requires-clause-rule : goal.send_as-requires-clause-rule
send_as-requires-clause-rule g c = (pushes _ _ _ _ (search rules), learns _ _)
