use Rattle.std.proofs.Common.{◌+◌, ◌*◌, ◌<◌, length, ap, sym, arith, ◌∙◌}
use Rattle.av_match.specs.Ranged.{reach_find}
use Rattle.av_match.specs.Scanning.{state_words}
use Rattle.av_match.proofs.QuietLemmas.{six_quiet}
use Rattle.av_match.proofs.quiet.quiet_parts.Goals as goal

pub returns-clause-quiet : goal.returns-clause-quiet
returns-clause-quiet c =
    let w = c.args.walk.now in
    let ps = w.patterns.now in
    let cells = w.cells.now in
    let fed = c.args.fed in
    let from = c.args.from in
    let step = c.args.step in
    let states = c.in_ok-states.states in
    let quiet = c.in_ok-states.ensures.quiet in
    let inside : from.state < length (state_words ps) = omega (arith, c.requires.inside, w.ranged.ends.size) in
    six_quiet ps cells w.ranged.part fed c.args.piece.now (λ k l. (c.type_inv.piece k).fits) from.state from.place inside step states.a states.b states.c states.d states.e states.f c.requires.long
    (ap (reach_find ps cells fed from.state from.place) (sym c.six_parts-parts.ensures.a) ∙ quiet.a) (ap (reach_find ps cells fed 0 (from.place + step)) (sym c.six_parts-parts.ensures.b) ∙ quiet.b)
    (ap (reach_find ps cells fed 0 (from.place + 2 * step)) (sym c.six_parts-parts.ensures.c) ∙ quiet.c) (ap (reach_find ps cells fed 0 (from.place + 3 * step)) (sym c.six_parts-parts.ensures.d) ∙ quiet.d)
    (ap (reach_find ps cells fed 0 (from.place + 4 * step)) (sym c.six_parts-parts.ensures.e) ∙ quiet.e) (ap (reach_find ps cells fed 0 (from.place + 5 * step)) (sym c.six_parts-parts.ensures.f) ∙ quiet.f)
