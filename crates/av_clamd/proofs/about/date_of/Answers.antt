use Rattle.std.proofs.Common.{rules}
use Rattle.av_clamd.proofs.about.date_of.Goals as goal

pub returns : goal.returns
returns c = (c.in-Ok.date, search rules, search rules)
