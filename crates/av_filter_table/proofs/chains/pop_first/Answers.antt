use Rattle.av_pend.specs.Waiting.{Waiting}
use Rattle.av_filter_table.specs.declared.waits.Waits.{Waits}
use Rattle.std.proofs.Common.{ℕ, [], ◌≡◌, ap, subst}
use Rattle.av_filter_table.specs.Chains.{AreChained, plain, plains, of}
use Rattle.av_numbered.specs.Numbered.{IsAscending}
use Rattle.av_filter_table.proofs.MovingLemmas.{head-opens, pops-all, of-tail}
use Rattle.av_filter_table.proofs.chains.pop_first.Goals as goal

pub unlink-requires : goal.unlink-requires
unlink-requires c =
    let d : ℕ × (Waits × Waiting) = (c.in_ok-_number._number, (c.in_ok-_number.waits, c.in_ok-_number.held)) in
    let is = c.in_ok-_number.ensures.some.0 in
    head-opens c.args.questions.now d c.pop_first.new.self (subst IsAscending is c.len-opens_ascend.ensures.ascend) (subst (AreChained c.args.questions.now) is c.requires)

pub returns-clause-some : goal.returns-clause-some
returns-clause-some c = (c.in_ok-_number.waits.question, ap plains c.in_ok-_number.ensures.some.0)

pub returns-clause-fewer : goal.returns-clause-fewer
returns-clause-fewer c = λ n none.
    let d : ℕ × (Waits × Waiting) = (c.in_ok-_number._number, (c.in_ok-_number.waits, c.in_ok-_number.held)) in
    let is = c.in_ok-_number.ensures.some.0 in
    of-tail n (plain d) (plains c.pop_first.new.self) (subst (λ p. of n (plains p) ≡ []) is none)

pub returns-clause-chained : goal.returns-clause-chained
returns-clause-chained c =
    let d : ℕ × (Waits × Waiting) = (c.in_ok-_number._number, (c.in_ok-_number.waits, c.in_ok-_number.held)) in
    let is = c.in_ok-_number.ensures.some.0 in
    (pops-all c.args.questions.now c.unlink.new.questions d c.pop_first.new.self c.len-ascend.ensures.ascend (subst IsAscending is c.len-opens_ascend.ensures.ascend) (subst (AreChained c.args.questions.now) is c.requires) c.unlink.ensures.none c.unlink.ensures.some).chained

pub returns-clause-same : goal.returns-clause-same
returns-clause-same c =
    let d : ℕ × (Waits × Waiting) = (c.in_ok-_number._number, (c.in_ok-_number.waits, c.in_ok-_number.held)) in
    let is = c.in_ok-_number.ensures.some.0 in
    (pops-all c.args.questions.now c.unlink.new.questions d c.pop_first.new.self c.len-ascend.ensures.ascend (subst IsAscending is c.len-opens_ascend.ensures.ascend) (subst (AreChained c.args.questions.now) is c.requires) c.unlink.ensures.none c.unlink.ensures.some).same
