-- Which of the two ports are connected; One is the least.
use Rattle.std.specs.Prelude.{Bool, true, false, Option, Some, None, if◌then◌else◌}
use Rattle.av_base.specs.declared.port.Port.{Port}
use Rattle.av_base.specs.declared.port.Port.TheVariants.{One, Two}
use Rattle.av_filter_table.specs.declared.ports.Ports.{Ports}

-- neither is
abbrev pub none_open : Ports
none_open = record { one = false; two = false }

-- this port is
abbrev pub is_open : Port → Ports → Bool
is_open One ps = ps.one
is_open Two ps = ps.two

-- with this one
abbrev pub with_port : Port → Ports → Ports
with_port One ps = record ps { one = true }
with_port Two ps = record ps { two = true }

-- without this one
abbrev pub without_port : Port → Ports → Ports
without_port One ps = record ps { one = false }
without_port Two ps = record ps { two = false }

-- the least connected port
abbrev pub least_port : Ports → Option Port
least_port ps = if ps.one then Some One else (if ps.two then Some Two else None)
