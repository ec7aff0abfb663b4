use Rattle.std.proofs.Common.{rules, ◌≡◌, ◌++◌, add-one, ap, sym, ◌∙◌, append_assoc, map, take, get_or}
use Rattle.av_json.proofs.MemberLemmas.{joined_next}
use Rattle.av_json.specs.Member.{joined}
use Rattle.av_output.specs.declared.told.Field.TheVariants.{Id}
use Rattle.av_output.specs.declared.told.Field.{Field}
use Rattle.av_output.specs.Objects.Messages.{field_tokens}
use Rattle.av_output.proofs.objects.message.put_fields.Goals as goal

-- what a list of fields has past its end
abbrev nothing : Field
nothing = Id (record { boot = 0; seq = 0 })

pub loop-field-preserved : goal.loop-field-preserved
loop-field-preserved c =
    let at = c.loop-field.field-index in
    let fields = c.args.fields.now in
    let own = field_tokens (get_or fields at nothing) in
    let before : c.put_field.new.line.before ≡ c.loop-field.line.before = search rules in
    let put : c.put_field.new.line.tokens ≡ c.loop-field.line.tokens ++ own = search rules in (
      before ∙ c.loop-field.invariant.0,
      rw add-one
          (put ∙ ap (λ t. t ++ own) c.loop-field.invariant.1
          ∙ append_assoc c.args.line.now.tokens (joined (map field_tokens (take at fields))) own
          ∙ ap (λ t. c.args.line.now.tokens ++ t) (sym (joined_next field_tokens fields at nothing c.loop-field-test.true))),
    )
