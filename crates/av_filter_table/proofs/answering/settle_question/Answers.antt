use Rattle.std.proofs.Common.{◌≡◌, [], Some, IfSome, sym, ap, subst, ◌∙◌}
use Rattle.av_context.specs.declared.context_state.ContextState.TheVariants.{Judged}
use Rattle.av_filter_table.specs.Answering.{MayJudge}
use Rattle.av_filter_table.specs.Asking.{ended, settled}
use Rattle.av_filter_table.specs.FilterTable.{id_of}
use Rattle.av_filter_table.specs.Table.{question_at, opens_of, other_opens}
use Rattle.av_filter_table.proofs.SettlingLemmas.{judge-some, settles}
use Rattle.av_filter_table.proofs.TableLemmas.{none-of_others}
use Rattle.av_filter_table.proofs.answering.settle_question.Goals as goal

pub judge_opens-requires-clause-leasts : goal.judge_opens-requires-clause-leasts
judge_opens-requires-clause-leasts c =
    subst (λ t. MayJudge c.args.version (opens_of (id_of t.boot c.args.question) t.pended)) (sym c.in_ok-put.ensures.ok) (judge-some c.args.version (id_of c.args.table.now.boot c.args.question) c.args.table.now.pended c.requires.leasts)

pub end_question-requires-clause-none : goal.end_question-requires-clause-none
end_question-requires-clause-none c =
    subst (λ t. opens_of (id_of t.boot c.args.question) t.pended ≡ []) (sym c.judge_opens.ensures.table) (none-of_others (id_of c.put.new.self.boot c.args.question) c.put.new.self.pended)

pub returns-clause-table : goal.returns-clause-table
returns-clause-table c =
    let t = c.args.table.now in
    let n = c.args.question in
    let boot = ap (λ u. u.boot) c.in_ok-put.ensures.ok in
    let boot_2 = ap (λ u. u.boot) c.judge_opens.ensures.table ∙ boot in
    let found : question_at (id_of t.boot n) t.questions ≡ Some c.in-Some.asked = sym (c.in-Some.ensures ∙ ap (λ b. question_at (id_of b n) t.questions) c.boot.ensures.value) in
    subst (λ o. IfSome o (λ q. c.raise.new.self ≡ settled t q c.args.version c.args.verdict)) (sym found)
    (settles t c.put.new.self c.judge_opens.new.table c.end_question.new.self c.raise.new.self (id_of t.boot n) c.in-Some.asked c.args.version c.args.verdict found c.requires.floor c.in_ok-put.ensures.ok
    (subst (λ b. c.judge_opens.new.table ≡ record c.put.new.self { pended = other_opens (id_of b n) c.put.new.self.pended }) boot c.judge_opens.ensures.table)
    (subst (λ b. IfSome (question_at (id_of b n) c.judge_opens.new.table.questions) (λ q. c.end_question.new.self ≡ ended c.judge_opens.new.table q (Some (Judged c.args.version c.args.verdict)))) boot_2 c.end_question.ensures)
    c.raise.ensures)
