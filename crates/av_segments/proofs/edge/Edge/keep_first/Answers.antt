use Rattle.std.proofs.Common.{◌-◌, ◌∙◌, ◌++◌, ap, arith, length, sym, take}
use Rattle.av_segments.proofs.SegmentLemmas.{first_behind}
use Rattle.av_segments.specs.Joining.{edge}
use Rattle.av_segments.proofs.edge.Edge.keep_first.Goals as goal

pub returns : goal.returns
returns c =
    let next = c.args.next.now in
    let is = c.as_slice.ensures.value in
    let fits = c.as_slice.ensures.fits in
    let same = c.self.view_is in
    c.put.ensures.items
    ∙ ap (λ t. c.self.inside.bytes.items ++ t) (c.first.ensures.bytes ∙ ap (λ l. take (edge - length l) next) is)
    ∙ sym (first_behind edge c.self.inside.bytes.items next (omega (arith, fits, ap length is)))
    ∙ ap (λ t. take edge (t ++ next)) same
