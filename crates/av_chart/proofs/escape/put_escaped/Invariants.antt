use Rattle.std.proofs.Common.{◌≡◌, ◌++◌, take}
use Rattle.av_chart.specs.Escape.{escaped}
use Rattle.av_chart.proofs.escape.put_escaped.Given as goal

-- the bytes so far were put
abbrev pub invariant-loop-byte : goal.invariant-loop-byte
invariant-loop-byte l = l.page.items ≡ l.initial.page.items ++ escaped (take l.byte-index l.bytes)
