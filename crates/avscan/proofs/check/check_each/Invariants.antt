use Rattle.std.proofs.Common.{◌≡◌, drop, map}
use Rattle.av_status.specs.Status.{IsDoneOrFault}
use Rattle.av_status.specs.declared.status.Status.TheVariants.{Done}
use Rattle.avscan.proofs.CheckLemmas.{AreGoodSoFar}
use Rattle.avscan.proofs.check.check_each.Given as goal

-- where nothing went wrong so far, the files so far are good
abbrev pub invariant-names : goal.invariant-names
invariant-names g l =
    IsDoneOrFault l.worst
    × (l.worst ≡ Done → AreGoodSoFar l.fn.by.trust (map (λ n. n.now) l.fn.names) (map (λ n. n.now) (drop l.name-index l.fn.names)) (g.W.Write.contents l.fn.out) (g.W.Write.contents l.out))
