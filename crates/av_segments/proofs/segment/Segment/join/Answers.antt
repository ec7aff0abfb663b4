use Rattle.std.proofs.Common.{◌≡◌, ◌∙◌, ◌+◌, ◌<◌, ◌^◌, [], ap, arith, length, rules, subst, take}
use Rattle.std.proofs.lemmas.List.{take-take}
use Rattle.av_segments.proofs.SegmentLemmas.{grown, last_then_last, refilled, seam_is}
use Rattle.av_segments.specs.Joining.{edge, last}
use Rattle.av_segments.specs.Segments.{Stretch}
use Rattle.av_segments.proofs.segment.Segment.join.Goals as goal

pub returns-clause-segment : goal.returns-clause-segment
returns-clause-segment c = λ a b may is next _.
    let sets = c.args.scanners.now in
    let all = c.self.inside.verdicts.items in
    let s : Stretch = record { length = c.self.inside.bytes; head = c.self.inside.head; tail = c.self.inside.tail; verdicts = all } in
    let was = c.self.view_is ∙ is in
    let follows = c.next.view_is ∙ next in
    let long : c.next.inside.bytes ≡ length b = ap (λ u. u.length) follows in
    let added : (c.in-Some.bytes ≡ c.self.inside.bytes + c.next.inside.bytes) × (c.self.inside.bytes + c.next.inside.bytes < 2 ^ 64) = search rules in
    let sum : (c.in-Some.bytes ≡ c.self.inside.bytes + length b) × (c.self.inside.bytes + length b < 2 ^ 64) =
    subst (λ n. (c.in-Some.bytes ≡ c.self.inside.bytes + n) × (c.self.inside.bytes + n < 2 ^ 64)) long added in
    let front = ap (take edge) (c.as_slice.ensures.bytes ∙ ap (λ u. u.head) follows) ∙ take-take edge edge b (omega arith) in
    let front-3 = ap (take edge) (c.as_slice-3.ensures.bytes ∙ ap (λ u. u.head) follows) ∙ take-take edge edge b (omega arith) in
    let back = ap (last edge) (c.as_slice-4.ensures.bytes ∙ ap (λ u. u.tail) follows) ∙ last_then_last edge [] b in
    let seam = seam_is sets a b c.as_slice.result.now s c.seam_at-seam.result was front sum.1 c.seam_at-seam.ensures.bytes c.seam_at-seam.ensures.start c.seam_at-seam.ensures.cut in
    let value = c.deref_mut.ensures.value in
    let found = c.join_each.ensures a b may seam (value ∙ ap (λ u. u.verdicts) was) (c.as_slice-2.ensures.value ∙ ap (λ u. u.verdicts) follows) in
    let new : Stretch = record { length = c.in-Some.bytes; head = c.keep_first.new.self; tail = c.keep_last.new.self; verdicts = c.join_each.new.verdicts } in
    let whole = refilled c.self.inside.verdicts.len all c.join_each.new.verdicts (c.join_each.auto.verdicts ∙ c.deref_mut.ensures.len) in
    ap (λ l. record new { verdicts = l }) whole
    ∙ grown sets a b c.as_slice-3.result.now c.as_slice-4.result.now s new was front-3 back sum.0 c.keep_first.ensures c.keep_last.ensures found
