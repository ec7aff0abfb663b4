use Rattle.std.specs.Prelude.{ℕ, ◌==◌, Bool, true, false, Option, None, Some, if◌then◌else◌}
use Rattle.av_base.specs.declared.port.Port.{Port}
use Rattle.av_base.specs.declared.port.Port.TheVariants.{One, Two}

-- the number of a port
abbrev pub port_number : Port → ℕ
port_number One = 1
port_number Two = 2

-- the port of a number
abbrev pub port_of : ℕ → Option Port
port_of n = if n == 1 then Some One else (if n == 2 then Some Two else None)

-- the other port
abbrev pub other : Port → Port
other One = Two
other Two = One

-- two ports are one
abbrev pub same_port : Port → Port → Bool
same_port One One = true
same_port One Two = false
same_port Two One = false
same_port Two Two = true
