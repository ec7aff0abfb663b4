use Rattle.std.proofs.Common.{rules, ◌≡◌, ◌<◌, length, slice_index, sym, ◌∙◌}
use Rattle.std.proofs.lemmas.List.{get_or_read}
use Rattle.av_match.specs.States.{IsState}
use Rattle.av_match.specs.Words.{word_at}
use Rattle.av_match.proofs.OutputLemmas.{end_state, own_left, own_written}
use Rattle.av_match.proofs.outputs.own_outputs.Goals.{then-index-eq0, else-index-eq0}
use Rattle.av_match.proofs.outputs.own_outputs.Goals as goal

pub loop-index-preserved : goal.loop-index-preserved
loop-index-preserved c =
    let ps = c.args.patterns.now in
    let words = c.args.words.now in
    let old = c.loop-index.own.items in
    let i = c.loop-index.index in
    let li = c.loop-index-test.true in
    let state = slice_index c.args.ends.now i in
    let there : IsState words (word_at ps i) state = end_state 64 i ps words c.args.ends.now c.requires.ends li (c.requires.patterns.1 i li).1 in
    let inside : state < length old = search (rules, c.loop-index.invariant.size, there) in
    let read : c.index.result.now ≡ slice_index old state = get_or_read old state c.index.result.now inside c.index.ensures 0 in
    elim c.if-index-eq0.branch [
      | then-index-eq0 w ↦ let more = own_written ps words old i state c.requires.distinct li there c.loop-index.invariant (sym read ∙ w.if-index-eq0.true) in search (rules, more)
      | else-index-eq0 w ↦ let more = own_left ps words old i state c.requires.distinct li there c.loop-index.invariant (λ z. w.if-index-eq0.false (read ∙ z)) in search (rules, more)
    ]
