use Rattle.std.proofs.Common.{◌≡◌, take}
use Rattle.av_chart.specs.Escape.{printed}
use Rattle.av_chart.proofs.escape.printed.Given as goal

-- the bytes so far were put
abbrev pub invariant-loop-byte : goal.invariant-loop-byte
invariant-loop-byte l = l.text.items ≡ printed (take l.byte-index l.bytes)
