use Rattle.std.proofs.Common.{refl, ◌∙◌}
use Rattle.av_quarantine.proofs.StepLemmas.{leads_nowhere, leads_on}
use Rattle.av_quarantine.proofs.carrying.carried_out.Goals as goal

pub steps-init : goal.steps-init
steps-init g c = record { leads = leads_nowhere _; well = λ was. was; place = refl }

pub steps-preserved : goal.steps-preserved
steps-preserved g c = record { leads = leads_on _ _ _ c.act.result c.steps.invariant.leads c.act.ensures.step; well = λ was. c.act.ensures.well (c.steps.invariant.well was); place = c.act.ensures.place ∙ c.steps.invariant.place }
