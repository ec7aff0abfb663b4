use Rattle.std.proofs.Common.{◌∙◌}
use Rattle.av_world.proofs.HeldLemmas.{held_parts}
use Rattle.av_world.proofs.world.World.held.Goals as goal

pub returns : goal.returns
returns c =
    rw (c.in_ok-extend_from_slice-4.ensures.items, c.in_ok-extend_from_slice-3.ensures.items, c.in_ok-extend_from_slice-2.ensures.items, c.in_ok-extend_from_slice.ensures.items, ← c.self.view_is, ← c.self-inside.view_is)
    (held_parts _ _ _ _ _ _
    (c.in_ok-entries.ensures ∙ rw (c.filter-filter.ensures, c.volume.ensures, ← c.self-inside.view_is))
    (c.as_slice.ensures.value ∙ c.in_ok-cached.ensures ∙ c.cache.ensures ∙ rw (c.filter-filter.ensures, ← c.self-inside.view_is))
    (c.as_slice-2.ensures.value ∙ c.in_ok-cached-2.ensures ∙ c.cache-2.ensures)
    (c.as_slice-3.ensures.value ∙ c.in_ok-cached-3.ensures ∙ c.cache-3.ensures)
    (c.as_slice-4.ensures.value ∙ c.in_ok-replied.ensures ∙ rw (c.down.ensures, c.up.ensures, ← c.self.view_is, ← c.self-inside.view_is)))
