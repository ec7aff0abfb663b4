use Rattle.std.proofs.Common.{◌≡◌, rules, sym, ◌∙◌}
use Rattle.av_frame.specs.declared.end.End.TheVariants.{Done}
use Rattle.av_sockets.proofs.RunLemmas.{kept_then, not_memory, sure_items}
use Rattle.av_sockets.proofs.line.open_streams.Goals as goal

pub returns-then-ne-clause-led : goal.returns-then-ne-clause-led
returns-then-ne-clause-led g c there =
    kept_then _ _ _ _ _ _ _ c.parts.invariant.led (c.serve-watched.ensures.led there) (c.serve-watched.ensures.still there)
    (sure_items c.append.result _ _ _ (sym c.is_err.ensures.value ∙ c.if-is_err.false) c.append.ensures.items)

pub parts-preserved : goal.parts-preserved
parts-preserved g c =
    let done : c.serve-watched.result.end ≡ Done = search rules in
    record {
      led =
          kept_then _ _ _ _ _ _ _ c.parts.invariant.led (c.serve-watched.ensures.led (not_memory _ done)) (c.serve-watched.ensures.still (not_memory _ done))
          (sure_items c.append.result _ _ _ (sym c.is_err.ensures.value ∙ c.if-is_err.false) c.append.ensures.items);
      idle = c.serve-watched.ensures.idle done;
    }
