use Rattle.std.proofs.Common.{◌≡◌, ◌-◌, length, arith, ap, ◌∙◌, length-drop}
use Rattle.av_match.proofs.PassedLemmas.{free_more}
use Rattle.av_match.proofs.leaps.leap.Goals as goal

pub leaps-preserved : goal.leaps-preserved
leaps-preserved c =
    let size : length c.after-pairs.result.now ≡ length c.args.piece.now - (c.args.tables.now.window - 2) = ap length c.after-pairs.ensures ∙ length-drop (c.args.tables.now.window - 2) c.args.piece.now in
    record {
      over = free_more c.args.tables.now c.args.piece.now c.after-pairs.result.now c.args.from c.leaps.place c.requires.wide c.after-pairs.ensures c.leaps.invariant.over (omega (arith, size, c.leaps-test.true, c.requires.wide)) c.if-are_free.ensures;
      within = omega (arith, size, c.leaps-test.true, c.requires.wide);
      on = omega (arith, c.leaps.invariant.on);
    }
