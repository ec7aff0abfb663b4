use Rattle.std.proofs.Common.{rules, [], ◌≡◌, ◌++◌, add-one, ap, sym, ◌∙◌, append_assoc, take, get_or}
use Rattle.av_base.proofs.PartLemmas.{spelt_next}
use Rattle.av_chart.specs.Mark.{mark_text, marks_text}
use Rattle.av_chart.specs.declared.mark.Mark.{Mark}
use Rattle.av_chart.specs.declared.mark.Mark.TheVariants.{Words}
use Rattle.av_chart.proofs.mark.put_marks.Goals as goal

-- what a list of marks has past its end
abbrev nothing : Mark
nothing = Words (record { x = 0; y = 0 }) (record { ref_ptr = (0, 0); now = [] }) (record { ref_ptr = (0, 0); now = [] })

pub loop-mark-preserved : goal.loop-mark-preserved
loop-mark-preserved c =
    let at = c.loop-mark.mark-index in
    let ms = c.args.marks.now in
    let own = mark_text (get_or ms at nothing) in
    let put : c.put_mark.new.page.items ≡ c.loop-mark.page.items ++ own = search rules in
    rw add-one
    (put ∙ ap (λ t. t ++ own) c.loop-mark.invariant ∙ append_assoc c.args.page.now.items (marks_text (take at ms)) own
    ∙ ap (λ t. c.args.page.now.items ++ t) (sym (spelt_next mark_text ms at nothing c.loop-mark-test.true)))
