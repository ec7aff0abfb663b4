use Rattle.std.proofs.Common.{◌≡◌, ◌∙◌, ap, sym, true, false}
use Rattle.av_match.specs.Scanning.{are_bound}
use Rattle.av_sigset.specs.Set.{patterns_of}
use Rattle.av_segments.proofs.SegmentLemmas.{bound_here, free_next, none_next}
use Rattle.av_segments.specs.Segments.{patterns_in}
use Rattle.av_segments.proofs.cut.may_be_cut.Goals.{in-Some+else-are_bound, in_default}
use Rattle.av_segments.proofs.cut.may_be_cut.Goals as goal

pub returns-then-are_bound : goal.returns-then-are_bound
returns-then-are_bound c =
    let set_is = c.signatures.ensures.signatures ∙ ap (λ s. s.signatures) (c.set.ensures ∙ c.scanner.ensures) in
    let bound : are_bound (patterns_in c.in-Some.named.now) ≡ true = ap (λ l. are_bound (patterns_of l)) (sym set_is) ∙ sym c.are_bound.ensures ∙ c.if-are_bound.true in
    sym (bound_here c.sets.place c.args.scanners.now c.in-Some.named.now (sym c.in-Some.ensures) bound) ∙ c.sets.invariant

pub sets-preserved : goal.sets-preserved
sets-preserved c =
    elim c.match-get.branch [
      | in-Some+else-are_bound w ↦
          let set_is = w.signatures.ensures.signatures ∙ ap (λ s. s.signatures) (w.set.ensures ∙ w.scanner.ensures) in
          let free : are_bound (patterns_in w.in-Some.named.now) ≡ false = ap (λ l. are_bound (patterns_of l)) (sym set_is) ∙ sym w.are_bound.ensures ∙ w.if-are_bound.false in
          free_next c.sets.place c.args.scanners.now w.in-Some.named.now (sym w.in-Some.ensures) free ∙ c.sets.invariant
      | in_default w ↦ none_next c.sets.place c.args.scanners.now w.in_default.ensures ∙ c.sets.invariant
    ]
