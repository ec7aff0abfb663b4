use Rattle.std.proofs.Common.{arith, ◌≡◌, ℕ, ◌∙◌, ap, cond, nat_eq, None, Some}
use Rattle.std.proofs.lemmas.Grind.{common_steps}
use Rattle.av_turns.specs.Questions.{question_at}
use Rattle.av_turns.proofs.ClientsLemmas.{same_test}
use Rattle.av_turns.proofs.QuestionsLemmas.{ended}
use Rattle.av_turns.proofs.questions.Questions.over.Goals as goal

pub invariant_of-self : goal.invariant_of-self
invariant_of-self c =
    let some : question_at c.self.inside.running.entries c.args.seq ≡ Some c.in-Some.question = grind (arith, common_steps) in
    let removed : (q : ℕ) → question_at c.remove.new.self.entries q ≡ cond (nat_eq q c.args.seq) None (question_at c.self.inside.running.entries q) =
    λ q. c.remove.ensures.updates.0 q ∙ ap (λ b. cond b None (question_at c.self.inside.running.entries q)) (same_test c.args.seq q) in
    ended c.self.inside.running.entries c.remove.new.self.entries c.self.inside.due c.forget.new.self c.args.seq c.in-Some.question c.self.invariant some removed c.forget.ensures
