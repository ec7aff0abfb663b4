use Rattle.std.proofs.Common.{◌∙◌, ◌++◌, ap, arith, length, rules, sym}
use Rattle.std.proofs.lemmas.List.{length-map}
use Rattle.av_match.specs.Match.{verdict}
use Rattle.av_sigset.specs.Set.{patterns_of}
use Rattle.av_segments.proofs.SegmentLemmas.{cut_at, halves_all, halves_none, image_at, one_more, past, step_under}
use Rattle.av_segments.specs.Segments.{patterns_in}
use Rattle.av_segments.proofs.segment.join_each.Goals.{in-Some+in-Some-get, in-Some+in_default-get, in_default}
use Rattle.av_segments.proofs.segment.join_each.Goals as goal

pub sets-init : goal.sets-init
sets-init c = λ a b may seam is next. is ∙ sym (halves_none _ _ _)

pub sets-preserved : goal.sets-preserved
sets-preserved c = λ a b may seam is next.
    let many = length-map c.args.scanners.now (λ s. verdict (patterns_in s) a) in
    let there = length-map c.args.scanners.now (λ s. verdict (patterns_in s) b) in
    elim c.match-get.branch [
      | in-Some+in-Some-get w ↦
          let named = w.in-Some.named.now in
          let at = sym w.in-Some.ensures in
          let after = image_at (λ s. verdict (patterns_in s) b) c.args.scanners.now c.args.next.now c.sets.place named w.in-Some-get.after.now next at w.in-Some-get.ensures.lookup.1 in
          one_more (λ s. verdict (patterns_in s) a) (λ s. verdict (patterns_in s) (a ++ b)) c.sets.place c.args.scanners.now named c.sets.verdicts
          c.match-get.verdicts _ w.joined.result (c.sets.invariant a b may seam is next) at w.verdicts-is
          (step_under named.set w.scanner.result.now a (a ++ b) _ w.joined.result w.scanner.ensures (cut_at c.sets.place c.args.scanners.now named may at)
          (λ free was. w.joined.ensures a b free seam was (after ∙ ap (λ set. verdict (patterns_of set.signatures) b) (sym w.scanner.ensures))))
          (search rules)
      | in-Some+in_default-get w ↦
          let none = w.in_default-get.ensures.lookup.0 in
          absurd (grind (arith, none, c.sets-test.true, c.sets.auto.place-end, c.sets.auto.verdicts, ap length is, ap length next, many, there))
      | in_default w ↦
          let none = past c.args.scanners.now c.sets.place w.in_default.ensures in
          absurd (omega (arith, none, c.sets-test.true, c.sets.auto.place-end, c.sets.auto.verdicts, ap length is, many))
    ]

pub returns : goal.returns
returns c = λ a b may seam is next.
    let many = length-map c.args.scanners.now (λ s. verdict (patterns_in s) a) in
    c.sets.invariant a b may seam is next
    ∙ halves_all _ _ c.sets.place c.args.scanners.now (omega (arith, c.sets-test.false, c.sets.auto.place-end, c.sets.auto.verdicts, ap length is, many))
