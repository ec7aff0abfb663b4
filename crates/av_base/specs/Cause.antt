use Rattle.std.specs.Prelude.{ℕ, ◌≤◌}
use Rattle.av_base.specs.declared.cause.Cause.{Cause}
use Rattle.av_base.specs.declared.cause.Cause.TheVariants.{NoStream, Infected, NotConnected, Busy, TimedOut, PortDisconnected, ScanFailed, Unsettled, StreamRemoved, FilterRestart}

-- the number of a cause
abbrev pub number_of : Cause → ℕ
number_of NoStream = 1
number_of Infected = 2
number_of NotConnected = 3
number_of Busy = 4
number_of TimedOut = 5
number_of PortDisconnected = 6
number_of ScanFailed = 7
number_of Unsettled = 8
number_of StreamRemoved = 9
number_of FilterRestart = 10

-- some cause has the number
abbrev pub IsCauseNumber : ℕ → Type 0
IsCauseNumber n = (1 ≤ n) × (n ≤ 10)
