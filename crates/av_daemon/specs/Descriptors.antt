-- How many clients a guard serves.
use Rattle.std.specs.Prelude.{ℕ, ◌-◌, min, nat_le, Option, None, Some, if◌then◌else◌}

-- eighteen descriptors are for others, and 4,096 clients are the most
abbrev pub clients_of : ℕ → Option ℕ
clients_of descriptors = if nat_le descriptors 18 then None else Some (min (descriptors - 18) 4096)
