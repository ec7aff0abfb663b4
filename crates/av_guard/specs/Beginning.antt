-- A guard as it begins, and clients that come.
use Rattle.std.specs.Prelude.{◌≡◌, ℕ, ◌+◌, Bool, not, ◌&&◌, nat_le, Option, Some, None, if◌then◌else◌}
use Rattle.std.specs.BTreeMap.{is_at}
use Rattle.std.specs.BTreeSet.{insert_key}
use Rattle.std.specs.Ordering.{nat_cmp}
use Rattle.std.specs.Set.{remove_key}
use Rattle.av_base.specs.Limits.{greatest_values}
use Rattle.av_base.specs.declared.limits.LimitValues.{LimitValues}
use Rattle.av_base.specs.declared.refusal.Refusal.{Refusal}
use Rattle.av_base.specs.declared.refusal.Refusal.TheVariants.{Fault, NoMemory}
use Rattle.av_filter_table.specs.Table.{Table, mounted}
use Rattle.av_guard.specs.State.{State, opening}
use Rattle.av_guard.specs.declared.fault.SettingsFault.{SettingsFault}
use Rattle.av_guard.specs.declared.fault.SettingsFault.TheVariants.{Boot, Questions}
use Rattle.av_guard.specs.declared.settings.Settings.{Settings}
use Rattle.av_store.specs.Store.{Store, empty_store}

-- the limits: the greatest, but for the questions
abbrev pub limits_of : ℕ → LimitValues
limits_of questions = record greatest_values { questions = questions }

-- a filter just mounted, in the boot of this number
abbrev pub first_table : Settings → Table
first_table s = mounted s.mode (limits_of s.questions) s.boot

-- volume 1 in that boot, without a stream
abbrev pub first_volume : Settings → Store
first_volume s = record (empty_store 1 (limits_of s.questions)) { boot = s.boot }

-- a guard as it begins
abbrev pub begun : Settings → State
begun s = opening (first_table s) (first_volume s) s.key s.keep

-- a number is from one to another
abbrev pub is_from : ℕ → ℕ → ℕ → Bool
is_from least greatest n = nat_le least n && nat_le n greatest

-- what is out of range, the first
abbrev pub settings_fault : Settings → Option SettingsFault
settings_fault s =
    if not (is_from 1 1024 s.questions) then Some Questions
    else (if not (is_from 1 16777216 s.boot) then Some Boot else None)

-- it is out of range, or memory was refused
abbrev pub NotBegun : Settings → Refusal SettingsFault → Type 0
NotBegun s (Fault f) = settings_fault s ≡ Some f
NotBegun s NoMemory = settings_fault s ≡ None

-- a client leaves
abbrev pub left : State → ℕ → State
left g client = record g { clients = remove_key (is_at (nat_cmp client)) g.clients }

-- a client comes, by the next number; or memory is refused, or no number is left
abbrev pub Joins : State → State → Option ℕ → Type 0
Joins old new (Some n) = (n ≡ old.last + 1) × (new ≡ record old { clients = insert_key nat_cmp old.clients n; last = n })
Joins old new None = new ≡ old
