use Rattle.std.proofs.Common.{◌≡◌, ◌++◌, ℕ, List, length}
use Rattle.std.specs.Io.KnownBytes.{Appends}
use Rattle.av_json.specs.Shown.{shown}
use Rattle.av_json.proofs.shown.write_shown.Given as goal

-- what was written and what is left are the whole text
abbrev pub invariant-hidden : goal.invariant-hidden
invariant-hidden g l =
    (done : List ℕ) × (Appends (g.W.Write.contents l.initial.writer) (g.W.Write.contents l.writer) done) × (shown l.text ≡ done ++ shown l.rest)

abbrev pub decreases-hidden : goal.decreases-hidden
decreases-hidden g l = length l.rest
