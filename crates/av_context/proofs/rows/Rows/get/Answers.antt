use Rattle.av_context.proofs.RowsLemmas.{at-entries}
use Rattle.av_context.proofs.rows.Rows.get.Goals as goal

pub returns : goal.returns
returns c = rw (← c.self.view_is, at-entries c.self.inside.slab c.args.key, ← c.get.ensures) c.copied.ensures
