use Rattle.std.proofs.Common.{◌≡◌, sym, ◌∙◌, Some, None, IsSome, ap}
use Rattle.std.specs.Option.{option_copied_mut}
use Rattle.slab.specs.Slab.{get, with_value}
use Rattle.slab.proofs.SlabLemmas.{Updates-with_value}
use Rattle.av_context.proofs.RowsLemmas.{at-entries, puts-updated, none_is_not}
use Rattle.av_context.proofs.rows.Rows.put.Goals as goal

pub returns-in-Some-get_mut : goal.returns-in-Some-get_mut
returns-in-Some-get_mut c =
    let there : IsSome (get c.self.inside.slab c.args.key) = rw (← at-entries c.self.inside.slab c.args.key, c.self.view_is) c.requires in
    rw (← c.self.view_is, c.in-Some.is)
    (puts-updated c.self.inside.slab (with_value c.self.inside.slab c.args.key c.in-Some.context) c.args.key (Some c.in-Some.context)
    (Updates-with_value c.self.inside.slab c.args.key c.in-Some.context there))

pub returns-in_default : goal.returns-in_default
returns-in_default c =
    let there : IsSome (get c.self.inside.slab c.args.key) = rw (← at-entries c.self.inside.slab c.args.key, c.self.view_is) c.requires in
    let none : get c.self.inside.slab c.args.key ≡ None = sym c.get_mut.ensures.value ∙ ap option_copied_mut c.in_default.is in
    absurd (none_is_not _ none there)

pub returns-in-None : goal.returns-in-None
returns-in-None c = rw (← c.self.view_is, c.in-None.is) (puts-updated c.self.inside.slab c.try_remove.new.self c.args.key None c.try_remove.ensures.updates)
