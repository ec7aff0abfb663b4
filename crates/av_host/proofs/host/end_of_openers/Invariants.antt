use Rattle.std.proofs.Common.{◌≡◌, drop, map}
use Rattle.av_frame.specs.declared.end.End.TheVariants.{Done}
use Rattle.av_status.specs.Status.{gravest_from}
use Rattle.av_host.proofs.host.end_of_openers.Given as goal

-- the gravest so far and of those that are left is the gravest of all
abbrev pub invariant-openers : goal.invariant-openers
invariant-openers l =
    gravest_from l.end (map (λ b. b.end) (drop l.opener-index l.brought)) ≡ gravest_from Done (map (λ b. b.end) l.brought)
