use Rattle.std.proofs.Common.{◌+◌, ◌++◌, ◌∷◌, [], length-append, refl, ◌∙◌, ap, arith}
use Rattle.av_parts.proofs.RunLemmas.{goes_nowhere, goes_then, stops_then}
use Rattle.av_parts.proofs.serve.hear_all.Goals as goal

pub reads-init : goal.reads-init
reads-init g c = (c.requires, [], refl, goes_nowhere _ _ _ _ _ _)

pub returns-in-Err : goal.returns-in-Err
returns-in-Err g c =
    stops_then _ c.reads.invariant.3 (omega (arith, c.reads.invariant.2, c.reads-test.true)) c.in-Err.ensures.unspent c.in-Err.ensures.err

pub reads-preserved : goal.reads-preserved
reads-preserved g c =
    let r = c.in-Ok.ensures.ok.0 in (
      c.turn.ensures.room,
      c.reads.invariant.1 ++ r ∷ [],
      length-append c.reads.invariant.1 (r ∷ []) ∙ ap (λ n. n + 1) c.reads.invariant.2,
      goes_then c.reads.invariant.3 c.in-Ok.ensures.ok.1,
    )
