use Rattle.std.proofs.Common.{rules, ◌≡◌, refl, map, ap, ◌∙◌}
use Rattle.av_health.specs.Figures.{names}
use Rattle.av_health.proofs.figure.figures_of.Goals as goal

pub returns-clause-names : goal.returns-clause-names
returns-clause-names c =
    rw c.gauge.ensures (rw c.gauge-2.ensures (rw c.gauge-3.ensures (rw c.gauge-4.ensures (rw c.gauge-5.ensures (rw c.gauge-6.ensures
    (rw c.gauge-7.ensures (rw c.gauge-8.ensures (rw c.counter.ensures (rw c.counter-2.ensures (rw c.counter-3.ensures
    (rw c.counter-4.ensures (rw c.counter-5.ensures (rw c.counter-6.ensures (rw c.gauge-9.ensures (rw c.gauge-10.ensures
    (rw c.gauge-11.ensures (rw c.gauge-12.ensures (rw c.gauge-13.ensures (rw c.gauge-14.ensures (rw c.gauge-15.ensures refl))))))))))))))))))))
