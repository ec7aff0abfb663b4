use Rattle.std.proofs.Common.{◌≡◌}
use Rattle.std.specs.String.{string_bytes}
use Rattle.av_generate.specs.Words.{behind, bytes_drawn}
use Rattle.av_generate.proofs.words.bytes_drawn.Given as goal

-- the bytes so far, and those that are left, are all
abbrev pub invariant-bytes : goal.invariant-bytes
invariant-bytes l = behind (string_bytes l.text) (bytes_drawn l.left l.draws) ≡ bytes_drawn l.count l.initial.draws

abbrev pub decreases-bytes : goal.decreases-bytes
decreases-bytes l = l.left
