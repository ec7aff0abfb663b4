use Rattle.std.proofs.Common.{◌≡◌, ◌≤◌, ◌+◌, ◌-◌, ◌++◌, map, length, take, vec_len}
use Rattle.std.specs.Vec.{vec_capacity}
use Rattle.av_history.specs.World.{given_at}
use Rattle.av_world.proofs.world.filtering.give.Given as goal

-- those so far are behind, and there is room for the rest
pub record Invariant (l : goal.Live-loop-answer) : Type 0 where
  pub items : l.answers.items ≡ l.initial.answers.items ++ map (given_at l.event) (take l.answer-index l.more)
  pub room : vec_len l.answers + (length l.more - l.answer-index) ≤ vec_capacity l.answers

abbrev pub invariant-loop-answer : goal.invariant-loop-answer
invariant-loop-answer l = Invariant l
