use Rattle.std.proofs.Common.{reverse, take}
use Rattle.av_history.specs.World.{start}
use Rattle.av_world.proofs.WorldLemmas.{IsGiven}
use Rattle.av_world.proofs.world.World.run.Given as goal

-- the world is where the events so far can lead
abbrev pub invariant-loop-event : goal.invariant-loop-event
invariant-loop-event l = IsGiven (start l.fn.number l.fn.mode l.fn.limits) l.world (reverse (take l.event-index l.events))
