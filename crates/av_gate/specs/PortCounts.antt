-- Counts a port, and the messages of a port among others.
use Rattle.std.specs.Prelude.{ℕ, Bool, List}
use Rattle.std.specs.List.{count_by, filter}
use Rattle.av_base.specs.Port.{same_port}
use Rattle.av_base.specs.declared.port.Port.{Port}
use Rattle.av_base.specs.declared.port.Port.TheVariants.{One, Two}
use Rattle.av_frame.specs.Message.{Letter}
use Rattle.av_gate.specs.declared.port_counts.PortCounts.{PortCounts}

-- nothing at either port
abbrev pub no_counts : PortCounts
no_counts = record { one = 0; two = 0 }

-- the count of a port
abbrev pub count_at : Port → PortCounts → ℕ
count_at One c = c.one
count_at Two c = c.two

-- the same with another count of one port
abbrev pub with_count : Port → ℕ → PortCounts → PortCounts
with_count One n c = record c { one = n }
with_count Two n c = record c { two = n }

-- a message is of this port
abbrev pub is_at : Port → Letter → Bool
is_at port m = same_port m.port port

-- the messages of a port
abbrev pub letters_at : Port → List Letter → List Letter
letters_at port ms = filter (is_at port) ms

-- how many there are of each port
abbrev pub counts_of : List Letter → PortCounts
counts_of ms = record { one = count_by (is_at One) ms; two = count_by (is_at Two) ms }
