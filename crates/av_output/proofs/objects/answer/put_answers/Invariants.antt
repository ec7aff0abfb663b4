use Rattle.std.proofs.Common.{◌≡◌, ◌++◌, map, take}
use Rattle.av_json.specs.Member.{joined}
use Rattle.av_output.specs.Objects.Answers.{given_tokens}
use Rattle.av_output.proofs.objects.answer.put_answers.Given as goal

-- the objects of the answers so far were put
abbrev pub invariant-loop-given : goal.invariant-loop-given
invariant-loop-given l =
    (l.line.before ≡ l.initial.line.before)
    × (l.line.tokens ≡ l.initial.line.tokens ++ joined (map given_tokens (take l.given-index l.answers)))
