use Rattle.std.proofs.Common.{◌≡◌, drop}
use Rattle.std.specs.List.{list_all}
use Rattle.av_sigset.specs.Judge.{is_name_byte}
use Rattle.av_sigset.proofs.line.are_name_bytes.Given as goal

-- the bytes left decide
abbrev pub invariant-loop-byte : goal.invariant-loop-byte
invariant-loop-byte l = list_all is_name_byte (drop l.byte-index l.word) ≡ list_all is_name_byte l.word
