use Rattle.std.proofs.Common.{rules, ◌≡◌, ◌++◌, ◌-◌, ap, ◌∙◌}
use Rattle.std.specs.Prelude.{codes}
use Rattle.std.specs.String.{string_bytes}
use Rattle.av_generate.proofs.DrawLemmas.{pattern_passed}
use Rattle.av_generate.specs.Words.{behind, patterns_drawn}
use Rattle.av_generate.proofs.words.patterns_drawn.Goals as goal

pub patterns-preserved : goal.patterns-preserved
patterns-preserved c =
    let front = string_bytes c.patterns.text in
    let text : string_bytes c.push_str-in-patterns.new.self ≡ front ++ codes " " ++ string_bytes c.in_ok-pattern.pattern = search rules in
    ap (λ t. behind t (patterns_drawn (c.patterns.left - 1) c.hex_drawn.new.draws)) text
    ∙ ap (λ d. behind (front ++ codes " " ++ d.0) (patterns_drawn (c.patterns.left - 1) d.1)) c.in_ok-pattern.ensures
    ∙ pattern_passed front c.patterns.left c.patterns.draws c.patterns-test.true
    ∙ c.patterns.invariant
