use Rattle.std.proofs.Common.{◌≡◌, drop, false}
use Rattle.av_import.specs.Offset.{has_plus}
use Rattle.av_import.proofs.offset.has_plus_behind_digits.Given as goal

-- the bytes left decide
abbrev pub invariant-loop-byte : goal.invariant-loop-byte
invariant-loop-byte l = has_plus l.has_digit (drop l.byte-index l.text) ≡ has_plus false l.text
