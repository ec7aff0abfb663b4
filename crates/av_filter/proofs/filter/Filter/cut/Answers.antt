use Rattle.std.proofs.Common.{sym, subst}
use Rattle.av_filter.proofs.FilterLemmas.{unless, on_ok}
use Rattle.av_filter.specs.Changing.{changes}
use Rattle.av_filter.specs.Conduct.{Changes, filter_refusal, filter_step}
use Rattle.av_filter.specs.Fit.{Fits}
use Rattle.av_store.specs.Files.{Cut}
use Rattle.av_filter.proofs.filter.Filter.cut.Goals as goal

pub invariant_of-self : goal.invariant_of-self
unfolding filter_refusal filter_step changes
invariant_of-self c = let v = c.args.volume.now in (unless c.rewrite.result c.self.inside.table v c.rewrite.new.table c.rewrite.new.volume (Changes (Cut c.args.stream c.args.length)) (record { kept = c.self.invariant; fits = subst (λ t. Fits t v) (sym c.self.view_is) c.requires.fits }) c.rewrite.ensures).kept

pub returns-clause-fits : goal.returns-clause-fits
unfolding filter_refusal filter_step changes
returns-clause-fits c = let v = c.args.volume.now in on_ok c.rewrite.result _ (unless c.rewrite.result c.self.inside.table v c.rewrite.new.table c.rewrite.new.volume (Changes (Cut c.args.stream c.args.length)) (record { kept = c.self.invariant; fits = subst (λ t. Fits t v) (sym c.self.view_is) c.requires.fits }) c.rewrite.ensures).fits
