use Rattle.std.proofs.Common.{sym}
use Rattle.avguard.proofs.told.print_denied.Goals as goal

pub returns : goal.returns
returns g c = rw (sym c.number.ensures) (rw (sym c.from.ensures) c.write_parts.ensures)
