use Rattle.std.proofs.Common.{◌≡◌, take}
use Rattle.av_base.specs.Among.{Among}
use Rattle.av_shared.proofs.sent.found.Given as goal

abbrev pub invariant-messages : goal.invariant-messages
invariant-messages l = l.from ≡ 0 → ¬ Among l.message (take l.at l.messages)
