-- What holds of every world at every moment: where it has come from, and so the promise.
use Rattle.std.specs.Prelude.{ℕ, ◌≡◌}
use Rattle.av_base.specs.declared.limits.LimitValues.{LimitValues}
use Rattle.av_base.specs.declared.mode.Mode.{Mode}
use Rattle.av_history.specs.Headline.{AnswersOnce, GrantsOnlyClean, HoldsOneVerdict, NeverDiffers}
use Rattle.av_history.specs.Whole.{IsWhole}
use Rattle.av_history.specs.World.{WorldState, start, world_of}

-- its own history led to it, from some start
pub record IsReached (w : WorldState) : Type 0 where
  pub number : ℕ
  pub mode : Mode
  pub limits : LimitValues
  pub leads : w ≡ world_of (start number mode limits) w.history

-- the headline, of a world in its own mode
pub record KeepsPromise (w : WorldState) : Type 0 where
  pub one_verdict : HoldsOneVerdict w
  pub never_differs : NeverDiffers w
  pub only_clean : GrantsOnlyClean w.table.mode w
  pub answers_once : AnswersOnce w

-- the invariant of a world
pub record IsKept (w : WorldState) : Type 0 where
  pub whole : IsWhole w
  pub reached : IsReached w
