use Rattle.av_log.proofs.EscapeLemmas.{escaped_kept}
use Rattle.av_log.proofs.laws.bytes_forge_nothing.Goals as goal

pub returns : goal.returns
returns c = escaped_kept
