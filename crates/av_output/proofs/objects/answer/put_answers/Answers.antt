use Rattle.std.proofs.Common.{rules, ◌≡◌, ◌++◌, add-one, ap, sym, ◌∙◌, append_assoc, map, take, get_or}
use Rattle.av_json.proofs.MemberLemmas.{joined_next}
use Rattle.av_json.specs.Member.{joined}
use Rattle.av_output.specs.Objects.Answers.{given_tokens}
use Rattle.av_output.proofs.objects.answer.put_answers.Goals as goal

pub loop-given-preserved : goal.loop-given-preserved
loop-given-preserved c =
    let at = c.loop-given.given-index in
    let given = c.given-item.result in
    let answers = c.args.answers.now in
    let before : c.put_answer.new.line.before ≡ c.loop-given.line.before = search rules in
    let put : c.put_answer.new.line.tokens ≡ c.loop-given.line.tokens ++ given_tokens given = search rules in (
      before ∙ c.loop-given.invariant.0,
      rw add-one
          (put ∙ ap (λ t. c.loop-given.line.tokens ++ given_tokens t) c.given-item.is
          ∙ ap (λ t. t ++ given_tokens (get_or answers at given)) c.loop-given.invariant.1
          ∙ append_assoc c.args.line.now.tokens (joined (map given_tokens (take at answers))) (given_tokens (get_or answers at given))
          ∙ ap (λ t. c.args.line.now.tokens ++ t) (sym (joined_next given_tokens answers at given c.loop-given-test.true))),
    )
