-- When a service makes its second connection.
use Rattle.std.specs.Prelude.{ℕ, nat_le, Option, None, Some, if◌then◌else◌}
use Rattle.std.specs.Duration.{as_nanos}
use Rattle.std.specs.declared.time.Duration.{Duration}
use Rattle.av_sockets.specs.declared.tries.First.{First}
use Rattle.av_sockets.specs.declared.tries.First.TheVariants.{Silent, Greeted, Gone}
use Rattle.av_sockets.specs.declared.tries.Next.{Next}
use Rattle.av_sockets.specs.declared.tries.Next.TheVariants.{Tries, Waits, Ends}

-- once the service has greeted, and a second behind each try, as long as the first connection lives
abbrev pub next_of : First → Option Duration → Next
next_of Gone tried = Ends
next_of Silent tried = Waits
next_of Greeted None = Tries
next_of Greeted (Some ago) = if nat_le 1_000_000_000 (as_nanos ago) then Tries else Waits
