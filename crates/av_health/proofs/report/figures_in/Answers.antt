use Rattle.std.proofs.Common.{refl}
use Rattle.av_health.specs.Report.{figures_in}
use Rattle.av_health.proofs.report.figures_in.Goals as goal

pub returns : goal.returns
unfolding figures_in
returns c =
    rw c.u64_at.ensures (rw c.u64_at-2.ensures (rw c.u64_at-3.ensures (rw c.u64_at-4.ensures (rw c.u64_at-5.ensures (rw c.u64_at-6.ensures (rw c.u64_at-7.ensures (rw c.u64_at-8.ensures (rw c.u64_at-9.ensures (rw c.u64_at-10.ensures (rw c.u64_at-11.ensures (rw c.u64_at-12.ensures (rw c.u64_at-13.ensures (rw c.u64_at-14.ensures (rw c.u64_at-15.ensures (rw c.counts_in.ensures refl)))))))))))))))
