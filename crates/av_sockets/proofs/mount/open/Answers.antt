use Rattle.std.proofs.Common.{◌++◌, ap, ◌∙◌}
use Rattle.av_engines.proofs.WatchingLemmas.{ok_then}
use Rattle.av_sockets.proofs.RunLemmas.{ok_items, open_kept}
use Rattle.av_sockets.proofs.mount.open.Goals as goal

pub returns : goal.returns
returns c =
    ok_then c.extend_from_slice.result
    (λ is. open_kept c.args.mount.now c.open.new.self _ _ _ _ _ c.in-Ok.ensures.event.0 c.in-Ok.ensures.event.1 (is ∙ ap (λ l. c.args.answers.now.items ++ l) c.as_slice.ensures.value))
    (ok_items c.extend_from_slice.result _ _ _ c.extend_from_slice.ensures.items)
