use Rattle.std.proofs.Common.{◌≤◌, length}
use Rattle.av_import.proofs.lexer.space_len.Given as goal

-- no more than all was passed
abbrev pub invariant-pieces : goal.invariant-pieces
invariant-pieces l = l.at ≤ length l.bytes
