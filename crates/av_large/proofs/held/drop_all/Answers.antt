use Rattle.std.proofs.Common.{◌≡◌, ◌∙◌, subst, Some}
use Rattle.av_parts.specs.Judge.{at}
use Rattle.av_large.proofs.MapLemmas.{found_other}
use Rattle.av_large.proofs.held.drop_all.Goals as goal

pub invariant_of-held : goal.invariant_of-held
invariant_of-held c =
    λ n d found.
    let f = found_other c.args.client n d c.held.inside.contents.entries c.len-ordered.ensures.ordered (subst (λ m. at m n ≡ Some d) c.take_out.ensures.contents found) in
    c.take-numbers.ensures.others d.client n f.1 ∙ c.held.invariant n d f.0
