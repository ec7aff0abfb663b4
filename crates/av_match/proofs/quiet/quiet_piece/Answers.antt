use Rattle.std.proofs.Common.{◌+◌, ◌*◌, ◌-◌, ◌/◌, length, arith, sym, ap, ◌∙◌}
use Rattle.std.proofs.lemmas.List.{take_rest}
use Rattle.av_match.specs.Ranged.{reach_find}
use Rattle.av_match.proofs.QuietLemmas.{quiet_ends}
use Rattle.av_match.proofs.quiet.quiet_piece.Goals as goal

pub returns-in-Through-clause-quiet : goal.returns-in-Through-clause-quiet
returns-in-Through-clause-quiet c =
    let n = 6 * ((length c.args.piece.now - 64) / 6) + 64 in
    let ps = c.args.walk.now.patterns.now in
    let cells = c.args.walk.now.cells.now in
    quiet_ends ps cells c.args.fed c.args.piece.now c.args.from.state c.args.from.place n c.in_ok-state.state c.in-Through.state (omega arith) c.in_ok-state.ensures.quiet
    (ap (reach_find ps cells c.args.fed c.in_ok-state.state (c.args.from.place + n)) (sym (take_rest c.args.piece.now n)) ∙ sym c.in-Through.ensures.reach)
