use Rattle.std.proofs.Common.{◌≡◌, take}
use Rattle.std.specs.List.{flat_map}
use Rattle.av_base.specs.Among.{Among}
use Rattle.av_shared.proofs.sent.find.Given as goal
use Rattle.av_shared.specs.declared.sent.TheConstants.{START}

abbrev pub invariant-events : goal.invariant-events
invariant-events g l = l.from ≡ START → ¬ Among l.message (flat_map g.E.Sends.messages (take l.at l.events))
