use Rattle.std.proofs.Common.{◌∙◌}
use Rattle.av_numbered.proofs.NumberedLemmas.{none-held, all-empty}
use Rattle.av_numbered.proofs.bounded.Bounded.end.Goals as goal

pub release-requires : goal.release-requires
release-requires g c = all-empty c.self.inside.values.items (none-held c.self.inside.index.items c.self.inside.rows.slots c.self.inside.values.items c.self.invariant.0 (c.self.view_is ∙ c.requires))
