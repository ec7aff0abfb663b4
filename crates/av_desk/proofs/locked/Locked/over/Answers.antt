use Rattle.av_desk.proofs.CatalogueLemmas.{is_catalogue}
use Rattle.av_desk.proofs.KeepLemmas.{kept_first}
use Rattle.av_desk.proofs.locked.Locked.over.Goals as goal

pub invariant_of-result : goal.invariant_of-result
invariant_of-result c =
    let legal = is_catalogue c.args.catalogue.sets c.latest-rises.ensures.falling c.latest-rises.ensures.each in
    (kept_first c.args.volume_number c.args.port c.args.limits c.args.catalogue.sets _ _ _ legal c.len-opening.ensures.len c.new.ensures.items c.in-Ok.ensures, c.requires)
