use Rattle.std.proofs.Common.{◌≡◌, ◌∙◌, ◌<◌, arith, rules}
use Rattle.std.specs.List.{count_by}
use Rattle.av_gate.specs.PortCounts.{is_at}
use Rattle.av_gate.proofs.PortLemmas.{none_from, some_from}
use Rattle.av_gate.proofs.copying.quiet_ones.Goals as goal

pub returns-then-count_at-gt0-clause-stopped : goal.returns-then-count_at-gt0-clause-stopped
returns-then-count_at-gt0-clause-stopped c = λ within none.
    let some : 0 < count_by (is_at c.args.port) c.entry-item.result.messages = search rules in
    some_from c.args.port c.args.entries.now c.loop-entry.count c.entry-item.result (omega arith) (search rules) some (c.loop-entry.invariant.1 ∙ none)

pub loop-entry-preserved : goal.loop-entry-preserved
loop-entry-preserved c =
    let none : count_by (is_at c.args.port) c.entry-item.result.messages ≡ 0 = search rules in
    (omega (arith, c.loop-entry.invariant.0), none_from c.args.port c.args.entries.now c.loop-entry.count c.entry-item.result (omega arith) (search rules) none ∙ c.loop-entry.invariant.1)
