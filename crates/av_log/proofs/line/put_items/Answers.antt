use Rattle.std.proofs.Common.{rules, ◌≡◌, ◌++◌, [], add-one, ap, sym, ◌∙◌, append_assoc, map, take, get_or}
use Rattle.av_log.specs.Line.{item_tokens, items_tokens}
use Rattle.av_log.specs.Words.{item_of}
use Rattle.av_log.specs.declared.field.Field.TheVariants.{Word}
use Rattle.av_log.specs.declared.field.Field.{Field}
use Rattle.av_log.proofs.LineLemmas.{tokens_next}
use Rattle.av_log.proofs.line.put_items.Goals as goal

-- what a list of fields has past its end
abbrev nothing : Field
nothing = Word (record { ref_ptr = (0, 0); now = [] }) (record { ref_ptr = (0, 0); now = [] })

pub loop-field-preserved : goal.loop-field-preserved
loop-field-preserved c =
    let at = c.loop-field.field-index in
    let fs = c.args.fields.now in
    let own = item_tokens (item_of (get_or fs at nothing)) in
    let before : c.put_item.new.line.before ≡ c.loop-field.line.before = search rules in
    let put : c.put_item.new.line.tokens ≡ c.loop-field.line.tokens ++ own = search rules in (
      before ∙ c.loop-field.invariant.0,
      rw add-one
          (put ∙ ap (λ t. t ++ own) c.loop-field.invariant.1
          ∙ append_assoc c.args.line.now.tokens (items_tokens (map item_of (take at fs))) own
          ∙ ap (λ t. c.args.line.now.tokens ++ t) (sym (tokens_next item_of fs at nothing c.loop-field-test.true))),
    )
