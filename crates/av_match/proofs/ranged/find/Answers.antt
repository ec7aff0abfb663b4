use Rattle.std.proofs.Common.{sym, arith, ◌<◌, ◌-◌, [], length, slice_index, ◌∙◌}
use Rattle.std.proofs.lemmas.List.{get_or_default}
use Rattle.av_match.specs.Ranged.{IsStop}
use Rattle.av_match.specs.Scanning.{state_words}
use Rattle.av_match.specs.Words.{word_at}
use Rattle.av_match.proofs.EndingLemmas.{asked}
use Rattle.av_match.proofs.FindLemmas.{stop_none}
use Rattle.av_match.proofs.ranged.find.Goals as goal

pub returns-then-stop-eq0 : goal.returns-then-stop-eq0
returns-then-stop-eq0 c =
    let w = c.args.walk.now in
    let inside : c.args.state < length (state_words w.patterns.now) = omega (arith, c.requires, w.ranged.ends.size) in
    sym (stop_none w.patterns.now (word_at (state_words w.patterns.now) c.args.state) _ c.args.end_at (w.ranged.ends.each c.args.state inside) c.if-stop-eq0.true)

pub returns : goal.returns
returns c =
    let w = c.args.walk.now in
    let ps = w.patterns.now in
    let s = c.args.state in
    let n = slice_index w.stops.now s in
    let stop : IsStop ps (word_at (state_words ps) s) n = w.ranged.ends.each s (omega (arith, c.requires, w.ranged.ends.size)) in
    let some : 0 < n = omega (arith, c.if-stop-eq0.false) in
    let within : n - 1 < length ps = stop.inside some in
    let list = w.ranged.endings.each (n - 1) within s c.requires (omega (arith, some)) in
    c.first.ensures ∙ asked ps (word_at (state_words ps) s) _ n c.args.end_at stop some (get_or_default w.endings.now (n - 1) c.index-walk-stop.result [] (omega (arith, within, w.ranged.endings.size)) ∙ list)
