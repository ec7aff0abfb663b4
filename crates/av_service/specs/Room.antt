-- Room for a publication, asked for before anything learns of it.
use Rattle.std.specs.Prelude.{◌≡◌, ℕ, suc, ◌≤◌, ◌<◌, length, Result, Ok, Err, if◌then◌else◌}
use Rattle.av_service.specs.Conduct.{Publishes, service_step}
use Rattle.av_service.specs.Desk.{Desk}

-- a service as its calls see it: its desk, and for how many messages there is memory
pub record Roomed : Type 0 where
  pub desk : Desk
  pub room : ℕ

-- how many messages a publication sends: one of its version and one for each job, where the service is connected
abbrev pub publishing : Desk → ℕ
publishing d = if d.connected then suc (length d.jobs) else 0

-- it is as many, whatever the version
abbrev pub RoomFits : Type 0
RoomFits = (d : Desk) (version : ℕ) → length (service_step d (Publishes version)).messages ≡ publishing d

-- asked for room, a service has it then, and its desk stays; memory is refused only where there was less, and changes nothing
abbrev pub Reserves : {A E : Type 0} → Roomed → Roomed → Result A E → Type 0
Reserves old new (Ok done) = (new.desk ≡ old.desk) × (publishing old.desk ≤ new.room)
Reserves old new (Err e) = (old.room < publishing old.desk) × (new ≡ old)

-- a publication is refused only where there is less room than that
abbrev pub RefusesForRoom : {A E : Type 0} → Roomed → Result A E → Type 0
RefusesForRoom old (Ok out) = Unit {0}
RefusesForRoom old (Err e) = old.room < publishing old.desk
