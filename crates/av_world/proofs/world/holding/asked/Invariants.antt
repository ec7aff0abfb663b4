use Rattle.std.proofs.Common.{◌≡◌, drop}
use Rattle.av_history.specs.Held.{asked}
use Rattle.av_world.proofs.world.holding.asked.Given as goal

-- no message so far is a scan of the id
abbrev pub invariant-loop-message : goal.invariant-loop-message
invariant-loop-message l = asked (drop l.message-index l.down) l.id ≡ asked l.down l.id
