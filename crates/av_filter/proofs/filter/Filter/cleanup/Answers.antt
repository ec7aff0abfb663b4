use Rattle.std.proofs.Common.{refl, sym, subst}
use Rattle.av_filter.proofs.FilterLemmas.{always, on_ok}
use Rattle.av_filter.specs.Conduct.{CleansUp, filter_refusal, filter_step}
use Rattle.av_filter.specs.Fit.{Fits}
use Rattle.av_filter.proofs.filter.Filter.cleanup.Goals as goal

pub invariant_of-self : goal.invariant_of-self
unfolding filter_refusal filter_step
invariant_of-self c = let v = c.args.volume.now in (always c.clean_up.result c.self.inside.table v c.clean_up.new.table v (CleansUp c.args.stream) (record { kept = c.self.invariant; fits = subst (λ t. Fits t v) (sym c.self.view_is) c.requires.fits }) refl c.clean_up.ensures).kept

pub returns-clause-fits : goal.returns-clause-fits
unfolding filter_refusal filter_step
returns-clause-fits c = let v = c.args.volume.now in on_ok c.clean_up.result _ (always c.clean_up.result c.self.inside.table v c.clean_up.new.table v (CleansUp c.args.stream) (record { kept = c.self.invariant; fits = subst (λ t. Fits t v) (sym c.self.view_is) c.requires.fits }) refl c.clean_up.ensures).fits
