use Rattle.std.proofs.Common.{◌∙◌, ap}
use Rattle.std.proofs.lemmas.Result.{IfOk-weaker}
use Rattle.av_segments.proofs.SegmentLemmas.{placed_found}
use Rattle.av_segments.specs.Segments.{placed_from}
use Rattle.av_segments.proofs.segment.Segment.findings.Goals as goal

pub returns : goal.returns
returns c =
    IfOk-weaker c.placed.result _ _
    (λ found is sets content of.
    is ∙ ap (placed_from 0) (c.as_slice.ensures.value ∙ ap (λ s. s.verdicts) (c.self.view_is ∙ of)) ∙ placed_found 0 sets content)
    c.placed.ensures
