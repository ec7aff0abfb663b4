use Rattle.std.proofs.Common.{rules, ◌++◌, ◌∷◌, []}
use Rattle.av_import.proofs.ImportLemmas.{no_rule, rule_more}
use Rattle.av_import.specs.Import.{TakesRule}
use Rattle.av_import.proofs.import.take_rules.Goals as goal

pub rules-init : goal.rules-init
rules-init g c = ([], no_rule c.args.import.now)

pub rules-preserved : goal.rules-preserved
rules-preserved g c =
    let before = c.rules.invariant in
    let more : TakesRule c.rules.import c.pass_rule.new.import = search rules in
    (before.0 ++ more.0 ∷ [], rule_more c.args.import.now c.rules.import c.pass_rule.new.import before.0 more.0 before.1 more.1)
