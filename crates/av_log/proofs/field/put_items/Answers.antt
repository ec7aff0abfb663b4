use Rattle.std.proofs.Common.{rules, ◌≡◌, ◌++◌, [], ◌∷◌, add-one, ap, sym, ◌∙◌, append_assoc, map, take, get_or}
use Rattle.av_log.specs.Words.{item_of, item_text, items_text}
use Rattle.av_log.specs.declared.field.Field.TheVariants.{Word}
use Rattle.av_log.specs.declared.field.Field.{Field}
use Rattle.av_log.proofs.WordsLemmas.{items_next}
use Rattle.av_log.proofs.field.put_items.Goals as goal

-- what a list of fields has past its end
abbrev nothing : Field
nothing = Word (record { ref_ptr = (0, 0); now = [] }) (record { ref_ptr = (0, 0); now = [] })

pub loop-field-preserved : goal.loop-field-preserved
loop-field-preserved c =
    let at = c.loop-field.field-index in
    let fs = c.args.fields.now in
    let own = 32 ∷ item_text (item_of (get_or fs at nothing)) in
    let put : c.put_spaced.new.out.items ≡ c.loop-field.out.items ++ own = search rules in
    rw add-one
    (put ∙ ap (λ t. t ++ own) c.loop-field.invariant
    ∙ append_assoc c.args.out.now.items (items_text (map item_of (take at fs))) own
    ∙ ap (λ t. c.args.out.now.items ++ t) (sym (items_next item_of fs at nothing c.loop-field-test.true)))
