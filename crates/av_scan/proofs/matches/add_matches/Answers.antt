use Rattle.std.proofs.Common.{rules, ◌≡◌, ◌∙◌, ◌++◌, ◌∷◌, [], ap}
use Rattle.av_base.specs.declared.verdict.Verdict.TheVariants.{Clean}
use Rattle.av_scan.proofs.MatchLemmas.{clean_added}
use Rattle.av_sigset.specs.Set.{patterns_of}
use Rattle.av_scan.proofs.matches.add_matches.Goals as goal

pub returns-then-eq : goal.returns-then-eq
returns-then-eq c =
    let clean : c.args.first.verdict ≡ Clean = search rules in
    let added : c.push.new.self.items ≡ c.args.found.now.items ++ c.args.first ∷ [] = search rules in
    λ s at is. added ∙ ap (λ fs. c.args.found.now.items ++ fs) (clean_added c.args.first (patterns_of s.set.signatures) c.args.content.now clean is)
