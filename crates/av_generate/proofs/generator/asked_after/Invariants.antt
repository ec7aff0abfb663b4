use Rattle.std.proofs.Common.{◌≡◌, ◌-◌, drop, length}
use Rattle.av_generate.specs.Course.{asked_after}
use Rattle.av_generate.proofs.generator.asked_after.Given as goal

-- the messages that are left tell the number of the last question
abbrev pub invariant-messages : goal.invariant-messages
invariant-messages l = asked_after l.asked (drop l.place l.messages) ≡ asked_after l.before (drop l.from l.messages)

abbrev pub decreases-messages : goal.decreases-messages
decreases-messages l = length l.messages - l.place
