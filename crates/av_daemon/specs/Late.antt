-- Who is waited for too long.
use Rattle.std.specs.Prelude.{◌-◌, Bool, false, nat_le, Option, None, Some}
use Rattle.std.specs.Duration.{as_nanos}
use Rattle.std.specs.declared.time.Duration.{Duration}

-- the wait has passed since then
abbrev pub is_late : Option Duration → Duration → Duration → Bool
is_late None now wait = false
is_late (Some since) now wait = nat_le (as_nanos wait) (as_nanos now - as_nanos since)
