use Rattle.std.proofs.Common.{rules}
use Rattle.std.proofs.lemmas.Iterator.{YieldsList-from_slice, items_from_collect}
use Rattle.std.proofs.lemmas.Iterator.Consumers.{YieldsList-from_filter_map}
use Rattle.av_world.proofs.HeldLemmas.{listed_first, reply_entry, replies_hold}
use Rattle.av_world.proofs.world.holding.in_replies.Goals as goal

pub returns : goal.returns
returns c =
    rw (← replies_hold c.args.down.now c.args.up.now)
    (items_from_collect _ c.collect.ensures.ran
    (YieldsList-from_filter_map _ (reply_entry c.args.down.now)
    (YieldsList-from_slice c.args.up.now (cc)) c.filter_map.ensures.closure (λ x r q k. search (rules, listed_first))))
