-- Which channel a pass is of.
use Rattle.std.specs.Prelude.{◌≡◌, []}
use Rattle.atomic_table.specs.Seated.{TableId}
use Rattle.atomic_table.specs.declared.badge.Badge.{Badge}
use Rattle.crossbeam_channel.specs.Claims.{Pass, view}
use Rattle.crossbeam_channel.specs.declared.flavors.array.Key.{Key}

-- which channel: its table, and its key there
pub record Channel (X : Type 0) : Type 0 where
  pub table : TableId
  pub key : Badge (Key X)

-- the channel that a pass is of
abbrev pub channel_of : {X V : Type 0} → Pass X V → Channel X
channel_of p = record { table = p.table_id; key = p.me.0.of }

-- what it has put and taken
abbrev pub tally_of : {X V : Type 0} → Pass X V → V
tally_of p = view p

-- a pass of the same channel, which holds no slot
abbrev pub IsLike : {X V : Type 0} → Pass X V → Pass X V → Type 0
IsLike p r = (r.table_id ≡ p.table_id) × (r.me.0.of ≡ p.me.0.of) × (r.me.1 ≡ [])
