use Rattle.std.proofs.Common.{◌≡◌, ◌≤◌, ◌-◌, length, drop, None}
use Rattle.av_parts.specs.WordsHeard.{heard_of}
use Rattle.av_parts.proofs.word_reader.hear_frame.Given as goal

-- no frame has ended so far, so what the rest does is what all does
abbrev pub invariant-bytes : goal.invariant-bytes
invariant-bytes l =
    (l.taken ≤ length l.piece) × (heard_of (drop l.taken l.piece) l.reader ≡ heard_of l.piece l.fn.reader) × (l.reader.fault ≡ None)

abbrev pub decreases-bytes : goal.decreases-bytes
decreases-bytes l = length l.piece - l.taken
