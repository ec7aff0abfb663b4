use Rattle.std.proofs.Common.{◌≤◌, ◌-◌, length, take}
use Rattle.std.specs.Io.KnownBytes.{Appends}
use Rattle.av_base.proofs.recorded.write_text.Given as goal

-- the front of the text was written so far
abbrev pub invariant-writes : goal.invariant-writes
invariant-writes g l =
    Appends (g.W.Write.contents l.initial.writer) (g.W.Write.contents l.writer) (take l.at l.text) × (l.at ≤ length l.text)

abbrev pub decreases-writes : goal.decreases-writes
decreases-writes g l = length l.text - l.at
