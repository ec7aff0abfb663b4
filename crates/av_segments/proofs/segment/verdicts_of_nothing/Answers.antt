use Rattle.std.proofs.Common.{◌≡◌, ◌∙◌, [], ap, length, rules, slice_get, None, Some, subst, sym, take}
use Rattle.av_match.specs.Match.{verdict}
use Rattle.av_sigset.specs.Set.{patterns_of}
use Rattle.av_segments.proofs.SegmentLemmas.{all_images, next_image}
use Rattle.av_segments.specs.Segments.{patterns_in, verdicts_of}
use Rattle.av_segments.proofs.segment.verdicts_of_nothing.Goals as goal

pub sets-preserved : goal.sets-preserved
sets-preserved c =
    let all = c.sets.verdicts.items in
    let count : c.len-in-sets.result ≡ length all = search rules in
    let at = subst (λ n. slice_get c.args.scanners.now n ≡ Some c.in-Some.named.now) count (sym c.in-Some.ensures) in
    let found = c.judge.ensures ∙ ap (λ set. verdict (patterns_of set.signatures) []) c.scanner.ensures in
    subst (λ l. l ≡ verdicts_of (take (length l) c.args.scanners.now) []) (sym c.in_ok-push.ensures.items)
    (next_image (λ s. verdict (patterns_in s) []) c.args.scanners.now all c.in-Some.named.now c.judge.result c.sets.invariant at found)

pub returns : goal.returns
returns c =
    let count : c.len-in-sets.result ≡ length c.sets.verdicts.items = search rules in
    all_images (λ s. verdict (patterns_in s) []) c.args.scanners.now c.sets.verdicts.items c.sets.invariant (subst (λ n. None ≡ slice_get c.args.scanners.now n) count c.in_default.ensures)
