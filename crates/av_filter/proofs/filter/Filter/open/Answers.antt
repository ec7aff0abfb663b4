use Rattle.std.proofs.Common.{sym, subst}
use Rattle.av_filter.proofs.FilterLemmas.{opens}
use Rattle.av_filter.specs.Fit.{Fits}
use Rattle.av_filter.proofs.filter.Filter.open.Goals as goal

pub invariant_of-self-2 : goal.invariant_of-self-2
invariant_of-self-2 c =
    let v = c.args.volume.now in
    (opens c.in_ok-out.out c.self.inside.table v c.open.new.table c.take_number.new.volume c.args.stream c.args.least (record { kept = c.self.invariant; fits = subst (λ t. Fits t v) (sym c.self.view_is) c.requires.fits }) c.take_number.ensures c.in_ok-out.ensures.ok).kept

pub returns-clause-fits : goal.returns-clause-fits
returns-clause-fits c =
    let v = c.args.volume.now in
    (opens c.in_ok-out.out c.self.inside.table v c.open.new.table c.take_number.new.volume c.args.stream c.args.least (record { kept = c.self.invariant; fits = subst (λ t. Fits t v) (sym c.self.view_is) c.requires.fits }) c.take_number.ensures c.in_ok-out.ensures.ok).fits
