use Rattle.std.proofs.Common.{◌+◌, ◌≤◌, ap, arith, length}
use Rattle.av_store.specs.Store.{Store, greatest}
use Rattle.av_sockets.proofs.RunLemmas.{watched_leads}
use Rattle.av_sockets.proofs.mount.serve.Goals as goal

pub returns-clause-led : goal.returns-clause-led
returns-clause-led g c there =
    let left : c.args.mount.now.volume.opens + length c.args.streams.now ≤ greatest =
    omega (arith, c.if-is_spent.false, c.opens_left.ensures.left, c.opens_left.ensures.within, ap (λ (v : Store). v.opens) c.volume.ensures) in
    (watched_leads _ c.args.mount.now c.serve_further.new.mounted _ _ _ _ _ _ _ _ left there c.serve_further.ensures.watches).leads

pub returns-clause-still : goal.returns-clause-still
returns-clause-still g c there =
    let left : c.args.mount.now.volume.opens + length c.args.streams.now ≤ greatest =
    omega (arith, c.if-is_spent.false, c.opens_left.ensures.left, c.opens_left.ensures.within, ap (λ (v : Store). v.opens) c.volume.ensures) in
    (watched_leads _ c.args.mount.now c.serve_further.new.mounted _ _ _ _ _ _ _ _ left there c.serve_further.ensures.watches).still
