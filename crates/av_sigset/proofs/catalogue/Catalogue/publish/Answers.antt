use Rattle.std.proofs.Common.{◌≡◌, ◌++◌, ◌∷◌, [], rules}
use Rattle.av_sigset.proofs.CatalogueLemmas.{kept_push}
use Rattle.av_sigset.proofs.catalogue.Catalogue.publish.Goals as goal

pub invariant_of-self-2 : goal.invariant_of-self-2
invariant_of-self-2 c =
    let may = rw (c.as_slice.ensures.value, c.version.ensures.version) at c.in_default.ensures in
    let pushed : c.push.new.self.items ≡ c.self.inside.sets.items ++ c.args.set ∷ [] = search rules in
    rw pushed (kept_push c.self.inside.sets.items c.args.set c.self.invariant c.version.ensures.set may)
