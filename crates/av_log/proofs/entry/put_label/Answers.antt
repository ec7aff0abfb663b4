use Rattle.std.proofs.Common.{◌≡◌}
use Rattle.av_log.proofs.entry.put_label.Goals as goal

pub returns-in-Some : goal.returns-in-Some
returns-in-Some c = rw c.in-Some.is c.put_bytes.ensures
