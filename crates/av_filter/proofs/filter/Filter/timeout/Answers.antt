use Rattle.std.proofs.Common.{refl, sym, subst}
use Rattle.av_filter.proofs.FilterLemmas.{always, on_ok}
use Rattle.av_filter.specs.Conduct.{TimesOut, filter_refusal, filter_step}
use Rattle.av_filter.specs.Fit.{Fits}
use Rattle.av_filter.proofs.filter.Filter.timeout.Goals as goal

pub invariant_of-self : goal.invariant_of-self
unfolding filter_refusal filter_step
invariant_of-self c = let v = c.args.volume.now in (always c.time_out.result c.self.inside.table v c.time_out.new.table v (TimesOut c.args.seq) (record { kept = c.self.invariant; fits = subst (λ t. Fits t v) (sym c.self.view_is) c.requires.fits }) refl c.time_out.ensures).kept

pub returns-clause-fits : goal.returns-clause-fits
unfolding filter_refusal filter_step
returns-clause-fits c = let v = c.args.volume.now in on_ok c.time_out.result _ (always c.time_out.result c.self.inside.table v c.time_out.new.table v (TimesOut c.args.seq) (record { kept = c.self.invariant; fits = subst (λ t. Fits t v) (sym c.self.view_is) c.requires.fits }) refl c.time_out.ensures).fits
