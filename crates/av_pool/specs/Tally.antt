-- What the holders of a channel's passes have put and taken, and the rule that ties it to what the channel holds.
use Rattle.std.specs.Prelude.{◌≡◌, ℕ, ◌+◌, List, []}
use mathlib.Core.Option.{some}
use lib.ListN.{get_elem?}
use Rattle.crossbeam_channel.specs.Claims.{Pass, view}
use Rattle.av_pool.specs.Channel.{IsLike}
use Rattle.av_pool.specs.Weights.{weigh}
use Rattle.av_pool.specs.declared.tally.PassTally.{PassTally}

module _ {T : Type 0} where
  abbrev pub tally : ℕ → List T → List T → PassTally T
  tally parts put taken = record { parts = parts; put = put; taken = taken }

  -- a pass without a part has put and taken nothing
  abbrev pub IdleIsEmpty : List (PassTally T) → Type 0
  IdleIsEmpty views = (pass : ℕ) (v : PassTally T) → get_elem? views pass ≡ some v → v.parts ≡ 0 → (v.put ≡ []) × (v.taken ≡ [])

  -- what was put is what was taken and what the channel holds, however the items are weighed
  abbrev pub IsEven : List T → List T → List T → Type 0
  IsEven items put taken = (h : T → ℕ) → weigh h put ≡ weigh h taken + weigh h items

  -- the rule: all passes have 1024 parts together, and what they put is what they took and what the channel holds
  abbrev pub Balanced : List T → List (PassTally T) → Type 0
  Balanced items views =
      (weigh (λ v. v.parts) views ≡ 1024)
      × ((h : T → ℕ) → weigh (λ v. weigh h v.put) views ≡ weigh (λ v. weigh h v.taken) views + weigh h items)
      × IdleIsEmpty views

  -- a pass after some steps of its own: of its channel, with as many parts
  abbrev pub IsLater : Pass T (PassTally T) → Pass T (PassTally T) → Type 0
  IsLater p q = IsLike p q × ((view q).parts ≡ (view p).parts)

  -- who has every part knows the whole
  abbrev pub Knows : PassTally T → List T → Type 0
  Knows v items = v.parts ≡ 1024 → IsEven items v.put v.taken
