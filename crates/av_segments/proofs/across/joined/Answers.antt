use Rattle.std.proofs.Common.{◌∙◌, sym}
use Rattle.av_match.proofs.Verdicts.{hit_stays}
use Rattle.av_sigset.specs.Set.{patterns_of}
use Rattle.av_segments.proofs.across.joined.Goals as goal

pub returns-in-Infected : goal.returns-in-Infected
returns-in-Infected c = λ a b free seam is after.
    c.in-Infected.is ∙ sym (hit_stays (patterns_of c.args.scanner.now.signatures) a b c.in-Infected.index c.in-Infected.end_at (sym is ∙ c.in-Infected.is))
