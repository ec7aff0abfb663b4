use Rattle.std.proofs.Common.{◌≡◌, ◌++◌, length, map}
use Rattle.av_json.specs.Member.{joined, number_tokens}
use Rattle.av_health.proofs.figure.put_members.Given as goal

-- the members so far and those of the figures that are left are all of them
abbrev pub invariant-figures : goal.invariant-figures
invariant-figures l =
    (l.line.before ≡ l.initial.line.before)
    × (l.line.tokens ++ joined (map (λ f. number_tokens f.name.now f.number) l.rest)
    ≡ l.initial.line.tokens ++ joined (map (λ f. number_tokens f.name.now f.number) l.figures))

abbrev pub decreases-figures : goal.decreases-figures
decreases-figures l = length l.rest
