use Rattle.std.proofs.Common.{◌-◌, ◌∙◌, ◌++◌, ap, length, sym}
use Rattle.av_segments.proofs.SegmentLemmas.{last_behind}
use Rattle.av_segments.specs.Joining.{edge, last}
use Rattle.av_segments.proofs.edge.Edge.keep_last.Goals as goal

pub returns : goal.returns
returns c =
    let next = c.args.next.now in
    let all = c.self.inside.bytes.items in
    let fresh = c.last-fresh.ensures.bytes in
    let kept = c.last.ensures.bytes ∙ ap (λ l. last (edge - length l) c.as_slice.result.now) fresh ∙ ap (last (edge - length (last edge next))) c.as_slice.ensures.value in
    let both = c.put.ensures.items ∙ ap (λ l. l ++ c.last.result.now) c.new-bytes.ensures ∙ kept in
    c.put-2.ensures.items ∙ ap (λ l. l ++ c.last-fresh.result.now) both ∙ ap (λ l. last (edge - length (last edge next)) all ++ l) fresh
    ∙ sym (last_behind edge all next) ∙ ap (λ l. last edge (l ++ next)) c.self.view_is
