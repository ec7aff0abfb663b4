use Rattle.std.proofs.Common.{◌<◌, length, arith}
use Rattle.av_match.specs.Scanning.{state_words}
use Rattle.av_match.specs.Search.{bytes_of}
use Rattle.av_match.proofs.FindLemmas.{finds_through}
use Rattle.av_match.proofs.LaneLemmas.{after_through}
use Rattle.av_match.proofs.ReachLemmas.{outputs_length}
use Rattle.av_match.proofs.ranged.passed_state.Goals as goal

pub returns-in-Some-clause-passed : goal.returns-in-Some-clause-passed
returns-in-Some-clause-passed c =
    let w = c.args.walk.now in
    let ps = w.patterns.now in
    let inside : c.args.from.state < length (state_words ps) = omega (arith, c.requires.inside, w.ranged.ends.size) in
    finds_through ps w.cells.now w.ranged.part c.args.tables.now.cells.now c.args.tables.now.outputs.now c.requires.set.automaton c.args.piece.now c.args.fed c.args.from.state 0 c.args.from.place c.in-Some.next
    (λ k l. (c.type_inv.piece k).fits) inside c.in-Some.ensures.0 c.in-Some.ensures.1

pub returns-in-Some-clause-inside : goal.returns-in-Some-clause-inside
returns-in-Some-clause-inside c =
    let w = c.args.walk.now in
    let ps = w.patterns.now in
    let auto = c.requires.set.automaton in
    let inside : c.args.from.state < length (state_words ps) = omega (arith, c.requires.inside, w.ranged.ends.size) in
    let after = after_through (bytes_of ps) c.args.tables.now.cells.now c.args.tables.now.outputs.now auto c.args.piece.now (λ k l. (c.type_inv.piece k).fits) c.args.from.state inside c.in-Some.ensures.0 c.in-Some.next c.in-Some.ensures.1 in
    omega (arith, after.0, outputs_length (bytes_of ps) c.args.tables.now.cells.now c.args.tables.now.outputs.now auto, w.ranged.ends.size)
