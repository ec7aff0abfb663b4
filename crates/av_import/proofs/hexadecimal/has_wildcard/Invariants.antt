use Rattle.std.proofs.Common.{◌≡◌, drop}
use Rattle.std.specs.List.{list_any}
use Rattle.av_import.specs.Bytes.{is_wildcard}
use Rattle.av_import.proofs.hexadecimal.has_wildcard.Given as goal

-- the bytes left decide
abbrev pub invariant-loop-byte : goal.invariant-loop-byte
invariant-loop-byte l = list_any is_wildcard (drop l.byte-index l.text) ≡ list_any is_wildcard l.text
