use Rattle.av_filter.proofs.FilterLemmas.{on_restart, restarted, restarts_kept}
use Rattle.av_filter.specs.Fit.{Fits}
use Rattle.av_filter.proofs.filter.Filter.remount.Goals as goal

pub invariant_of-self : goal.invariant_of-self
invariant_of-self c =
    restarts_kept c.remount.result c.self.inside.table c.remount.new.table c.args.volume.now c.remount.new.volume c.self.invariant c.remount.ensures.ok c.remount.ensures.err

pub returns-clause-fits : goal.returns-clause-fits
returns-clause-fits c =
    let t = c.self.inside.table in
    let v = c.args.volume.now in
    on_restart (Fits c.remount.new.table c.remount.new.volume) c.remount.result t c.remount.new.table v c.remount.new.volume (λ out is. (restarted out t c.remount.new.table v c.remount.new.volume is).fits) c.remount.ensures.ok
