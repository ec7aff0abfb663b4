use Rattle.std.proofs.Common.{◌≡◌}
use Rattle.av_quarantine.proofs.StepLemmas.{Leads, left}
use Rattle.av_quarantine.proofs.carrying.carried_out.Given as goal

-- outcomes led here, and what held at first still holds
abbrev pub invariant-steps : goal.invariant-steps
invariant-steps g l = record {
  leads : Leads (g.D.Disk.step_of l.initial.disk) (g.D.Disk.step_of l.disk);
  well : g.D.Disk.is_well l.initial.disk → g.D.Disk.is_well l.disk;
  place : g.D.Disk.place l.disk ≡ g.D.Disk.place l.initial.disk;
}

abbrev pub decreases-steps : goal.decreases-steps
decreases-steps g l = left (g.D.Disk.step_of l.disk)
