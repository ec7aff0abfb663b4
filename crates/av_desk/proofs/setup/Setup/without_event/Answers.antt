use Rattle.av_desk.proofs.CatalogueLemmas.{opened_first}
use Rattle.av_desk.proofs.setup.Setup.without_event.Goals as goal

pub returns-clause-catalogue : goal.returns-clause-catalogue
returns-clause-catalogue c =
    opened_first c.args.audit.catalogue.sets _ c.len-opening.ensures.len c.latest-rises.ensures.falling c.latest-rises.ensures.each
