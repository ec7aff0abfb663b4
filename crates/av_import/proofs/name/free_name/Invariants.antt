use Rattle.std.proofs.Common.{◌≡◌, ◌-◌}
use Rattle.av_import.specs.Name.{free_from, free_name, sign_name}
use Rattle.av_import.proofs.name.free_name.Given as goal

-- the numbers so far were taken
abbrev pub invariant-numbers : goal.invariant-numbers
invariant-numbers l = free_from (1027 - l.number) l.number (sign_name l.raw) l.before ≡ free_name l.before l.raw
