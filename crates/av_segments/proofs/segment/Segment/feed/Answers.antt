use Rattle.std.proofs.Common.{◌≡◌, ◌∙◌, ◌+◌, ◌<◌, ◌^◌, ap, length, refl, rules}
use Rattle.av_segments.proofs.SegmentLemmas.{grown, refilled, seam_is}
use Rattle.av_segments.specs.Segments.{Stretch}
use Rattle.av_segments.proofs.segment.Segment.feed.Goals as goal

pub returns-clause-segment : goal.returns-clause-segment
returns-clause-segment c = λ a may is _.
    let sets = c.args.scanners.now in
    let b = c.args.piece.now in
    let all = c.self.inside.verdicts.items in
    let s : Stretch = record { length = c.self.inside.bytes; head = c.self.inside.head; tail = c.self.inside.tail; verdicts = all } in
    let was = c.self.view_is ∙ is in
    let sum : (c.in-Some.bytes ≡ c.self.inside.bytes + length b) × (c.self.inside.bytes + length b < 2 ^ 64) = search rules in
    let seam = seam_is sets a b b s c.seam_at-seam.result was refl sum.1 c.seam_at-seam.ensures.bytes c.seam_at-seam.ensures.start c.seam_at-seam.ensures.cut in
    let value = c.deref_mut.ensures.value in
    let found = c.feed_each.ensures a may seam (value ∙ ap (λ u. u.verdicts) was) in
    let new : Stretch = record { length = c.in-Some.bytes; head = c.keep_first.new.self; tail = c.keep_last.new.self; verdicts = c.feed_each.new.verdicts } in
    let whole = refilled c.self.inside.verdicts.len all c.feed_each.new.verdicts (c.feed_each.auto.verdicts ∙ c.deref_mut.ensures.len) in
    ap (λ l. record new { verdicts = l }) whole ∙ grown sets a b b b s new was refl refl sum.0 c.keep_first.ensures c.keep_last.ensures found
