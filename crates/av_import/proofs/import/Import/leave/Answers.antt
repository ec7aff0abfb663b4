use Rattle.std.proofs.Common.{rules, Err, ◌∷◌, []}
use Rattle.av_import.proofs.ImportLemmas.{one_rule}
use Rattle.av_import.proofs.import.Import.leave.Goals as goal

pub returns-clause-rule : goal.returns-clause-rule
returns-clause-rule c = (Err c.args.why, search rules)

pub returns-clause-rules : goal.returns-clause-rules
returns-clause-rules c = (Err c.args.why ∷ [], one_rule c.args.self.now _ (Err c.args.why) (search rules))
