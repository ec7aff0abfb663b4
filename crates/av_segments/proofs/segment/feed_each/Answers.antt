use Rattle.std.proofs.Common.{◌∙◌, ◌++◌, ap, arith, length, rules, sym}
use Rattle.std.proofs.lemmas.List.{length-map}
use Rattle.av_match.specs.Match.{verdict}
use Rattle.av_segments.proofs.SegmentLemmas.{cut_at, halves_all, halves_none, one_more, past, step_under}
use Rattle.av_segments.specs.Segments.{patterns_in}
use Rattle.av_segments.proofs.segment.feed_each.Goals.{in-Some, in_default}
use Rattle.av_segments.proofs.segment.feed_each.Goals as goal

pub sets-init : goal.sets-init
sets-init c = λ a may seam is. is ∙ sym (halves_none _ _ _)

pub sets-preserved : goal.sets-preserved
sets-preserved c = λ a may seam is.
    let many = length-map c.args.scanners.now (λ s. verdict (patterns_in s) a) in
    elim c.match-get.branch [
      | in-Some w ↦
          let named = w.in-Some.named.now in
          let at = sym w.in-Some.ensures in
          one_more (λ s. verdict (patterns_in s) a) (λ s. verdict (patterns_in s) (a ++ c.args.piece.now)) c.sets.place c.args.scanners.now named c.sets.verdicts
          c.match-get.verdicts _ w.fed.result (c.sets.invariant a may seam is) at w.verdicts-is
          (step_under named.set w.scanner.result.now a (a ++ c.args.piece.now) _ w.fed.result w.scanner.ensures (cut_at c.sets.place c.args.scanners.now named may at)
          (λ free was. w.fed.ensures a free seam was))
          (search rules)
      | in_default w ↦
          let none = past c.args.scanners.now c.sets.place w.in_default.ensures in
          absurd (omega (arith, none, c.sets-test.true, c.sets.auto.place-end, c.sets.auto.verdicts, ap length is, many))
    ]

pub returns : goal.returns
returns c = λ a may seam is.
    let many = length-map c.args.scanners.now (λ s. verdict (patterns_in s) a) in
    c.sets.invariant a may seam is
    ∙ halves_all _ _ c.sets.place c.args.scanners.now (omega (arith, c.sets-test.false, c.sets.auto.place-end, c.sets.auto.verdicts, ap length is, many))
