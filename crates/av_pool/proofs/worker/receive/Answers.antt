use Rattle.std.proofs.Common.{rules}
use Rattle.av_pool.proofs.Moves.{pops, learns}
use Rattle.av_pool.proofs.worker.receive.Goals as goal

pub recv_as-requires-clause-rule : goal.recv_as-requires-clause-rule
recv_as-requires-clause-rule g c = (pops _ _ (search rules), learns _ _)
