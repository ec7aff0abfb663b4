use Rattle.std.proofs.Common.{◌≡◌, ◌<◌, ◌∙◌, length, slice_get, slice_set, Some, sym, ap, arith}
use Rattle.std.proofs.lemmas.Option.{slice_get-get_or}
use Rattle.av_chart.proofs.SlotLemmas.{slots_kept}
use Rattle.av_chart.specs.Slot.{first_free, hold, place_or_shared, until}
use Rattle.av_chart.specs.declared.life.Bar.{Bar}
use Rattle.av_chart.proofs.life.give_slots.Goals as goal

pub loop-index-preserved : goal.loop-index-preserved
loop-index-preserved c =
    let bars = c.loop-index.bars.items in
    let i = c.loop-index.index in
    let b : Bar = c.index.result.now in
    let slot = c.take_slot-slot.result in
    let inside : i < length bars = omega arith in
    let there : slice_get bars i ≡ Some b = slice_get-get_or bars i b inside ∙ ap (λ x. Some x) (sym c.index.ensures) in
    let again : slice_get bars i ≡ Some c.index-in-loop-index.result.now =
    slice_get-get_or bars i c.index-in-loop-index.result.now inside ∙ ap (λ x. Some x) (sym c.index-in-loop-index.ensures)
    in
    let some : Some c.index-in-loop-index.result.now ≡ Some b = sym again ∙ there in
    let one : c.index-in-loop-index.result.now ≡ b = cc in
    let own : slot ≡ place_or_shared (first_free c.loop-index.held b.begin) =
    c.take_slot-slot.ensures.slot ∙ ap (λ (x : Bar). place_or_shared (first_free c.loop-index.held x.begin)) one
    in
    let holds : c.take_slot-slot.new.held ≡ hold c.loop-index.held (first_free c.loop-index.held b.begin) (until c.args.last b.end) =
    c.take_slot-slot.ensures.held ∙ ap (λ (x : Bar). hold c.loop-index.held (first_free c.loop-index.held x.begin) c.until-until.result) one
    ∙ ap (λ m. hold c.loop-index.held (first_free c.loop-index.held b.begin) m) c.until-until.ensures
    in
    let set : c.set_slot.new.bars.items ≡ slice_set bars i (record b { slot = slot }) = rw there at c.set_slot.ensures in
    slots_kept c.args.last bars c.set_slot.new.bars.items i c.loop-index.held c.take_slot-slot.new.held b slot _ _ _ there own holds set c.loop-index.invariant
