use Rattle.std.proofs.Common.{◌≡◌, drop}
use Rattle.std.specs.List.{list_all}
use Rattle.hex.specs.Hex.{is_hex_digit}
use Rattle.av_import.proofs.hexadecimal.are_digits.Given as goal

-- the bytes left decide
abbrev pub invariant-loop-byte : goal.invariant-loop-byte
invariant-loop-byte l = list_all is_hex_digit (drop l.byte-index l.text) ≡ list_all is_hex_digit l.text
