use Rattle.std.proofs.Common.{ℕ, ◌≡◌, ◌+◌, List, length}
use Rattle.std.specs.Io.KnownBytes.{Consumes}
use Rattle.av_files.specs.Findings.{AreScans}
use Rattle.av_files.proofs.scanners.pieces_fed.Given as goal

-- the scans are those of the pieces that came, and so many bytes may come behind them
abbrev pub invariant-pieces : goal.invariant-pieces
invariant-pieces g l =
    (c : List ℕ) × Consumes (g.R.Read.remaining l.initial.reader) (g.R.Read.remaining l.reader) c × AreScans l.scanners l.most c l.scans
    × (length c + l.left ≡ l.most) × (length l.buffer ≡ length l.initial.buffer)
