use Rattle.std.proofs.Common.{◌∙◌, sym}
use Rattle.av_match.proofs.Verdicts.{hit_stays}
use Rattle.av_sigset.specs.Set.{patterns_of}
use Rattle.av_segments.proofs.across.fed.Goals as goal

pub returns-in-Infected : goal.returns-in-Infected
returns-in-Infected c = λ a free seam is.
    c.in-Infected.is ∙ sym (hit_stays (patterns_of c.args.scanner.now.signatures) a c.args.piece.now c.in-Infected.index c.in-Infected.end_at (sym is ∙ c.in-Infected.is))
