use Rattle.std.proofs.Common.{◌≡◌, ◌+◌, [], ◌∷◌, length, length-append, arith, refl, ap, ◌∙◌}
use Rattle.av_filter_table.proofs.EndingLemmas.{lose-last, lost-none}
use Rattle.av_filter_table.proofs.answering.lose_questions.Goals as goal

pub questions-init : goal.questions-init
questions-init c = record { none = c.requires; same = refl }

pub pop_question-requires : goal.pop_question-requires
pop_question-requires c = c.questions.invariant.none

pub questions-preserved : goal.questions-preserved
questions-preserved c = record {
  none = ap (λ t. t.pended) c.in-Some.ensures.some.1 ∙ c.questions.invariant.none;
  same = lose-last c.questions.table c.pop_question.new.self c.in-Some._ended c.in-Some.ensures.some.0 c.in-Some.ensures.some.1 ∙ c.questions.invariant.same;
}

pub questions-smaller : goal.questions-smaller
questions-smaller c =
    let fewer : length c.questions.table.questions ≡ length c.pop_question.new.self.questions + 1 = ap length c.in-Some.ensures.some.0 ∙ length-append c.pop_question.new.self.questions (c.in-Some._ended ∷ []) in
    omega arith

pub returns : goal.returns
returns c = c.in_default.ensures.none.1 ∙ (lost-none c.questions.table c.in_default.ensures.none.0 ∙ c.questions.invariant.same)
