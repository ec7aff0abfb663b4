use Rattle.std.proofs.Common.{rules, ap, ◌∙◌, ◌++◌, [], ◌∷◌, length, length-append}
use Rattle.av_pool.proofs.Moves.{forks}
use Rattle.av_pool.proofs.Workers.{fresh_more}
use Rattle.av_pool.proofs.crew.Crew.add_worker.Goals as goal

pub another-mine-requires-clause-rule : goal.another-mine-requires-clause-rule
another-mine-requires-clause-rule g c = forks _ _ (search rules)

pub another-theirs-requires-clause-rule : goal.another-theirs-requires-clause-rule
another-theirs-requires-clause-rule g c = forks _ _ (search rules)

pub returns-clause-fresh : goal.returns-clause-fresh
returns-clause-fresh g c =
    let h = c.in-Some.worker in
    let grown = c.push_reserved.ensures.items ∙ ap (λ l. l ++ h ∷ []) c.reserve.ensures.items in
    (fresh_more c.args.self.now _ h c.requires.fresh.0 c.requires.fresh.1 grown c.another-mine.ensures.rule.0 c.another-theirs.ensures.rule.0 (search rules) (search rules) (search rules), ap length grown ∙ length-append c.args.self.now.workers.items (h ∷ []))
