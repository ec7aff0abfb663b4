use Rattle.std.proofs.Common.{arith, ◌≡◌, None}
use Rattle.std.proofs.lemmas.Grind.{common_steps}
use Rattle.av_turns.specs.Questions.{question_at}
use Rattle.av_turns.proofs.QuestionsLemmas.{asked, undone}
use Rattle.av_turns.proofs.questions.Questions.asked.Goals as goal

pub invariant_of-self-2 : goal.invariant_of-self-2
invariant_of-self-2 c =
    let none : question_at c.self.inside.running.entries c.args.seq ≡ None = grind (arith, common_steps) in
    rw c.in-Ok.ensures.entries (asked c.self.inside.running.entries c.self.inside.due c.change.new.self c.args.seq (record { due = c.args.due; bytes = c.args.bytes }) c.self.invariant none c.in_ok-change.ensures.ok)

pub invariant_of-self-in-Err : goal.invariant_of-self-in-Err
invariant_of-self-in-Err c =
    let none : question_at c.self.inside.running.entries c.args.seq ≡ None = grind (arith, common_steps) in
    rw c.in-Err.ensures.err (undone c.self.inside.running.entries c.self.inside.due c.change.new.self c.forget.new.self c.args.seq c.args.due c.self.invariant none c.in_ok-change.ensures.ok c.forget.ensures)
