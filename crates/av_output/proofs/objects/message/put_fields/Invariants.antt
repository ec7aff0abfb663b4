use Rattle.std.proofs.Common.{◌≡◌, ◌++◌, map, take}
use Rattle.av_json.specs.Member.{joined}
use Rattle.av_output.specs.Objects.Messages.{field_tokens}
use Rattle.av_output.proofs.objects.message.put_fields.Given as goal

-- the fields so far were put
abbrev pub invariant-loop-field : goal.invariant-loop-field
invariant-loop-field l =
    (l.line.before ≡ l.initial.line.before)
    × (l.line.tokens ≡ l.initial.line.tokens ++ joined (map field_tokens (take l.field-index l.fields)))
