use Rattle.std.proofs.Common.{arith}
use Rattle.av_frame.proofs.FrontLemmas.{cut_framed, cut_begins}
use Rattle.av_frame.proofs.feed.front.Goals as goal

pub returns-in-Ok-clause-message : goal.returns-in-Ok-clause-message
returns-in-Ok-clause-message c =
    cut_framed c.args.rest.now _ _ c.u32_at-size.result c.in-Ok.message (λ i. omega (arith, c.type_inv.rest i)) c.u32_at-size.ensures c.if-rest-size.false c.split_at.ensures.back c.split_at-2.ensures.front c.in-Ok.ensures.exact

pub returns-in-Err-clause-memory : goal.returns-in-Err-clause-memory
returns-in-Err-clause-memory c = λ e.
    cut_begins c.args.rest.now _ _ c.u32_at-size.result c.in-Err.refusal (λ i. omega (arith, c.type_inv.rest i)) c.u32_at-size.ensures c.if-rest-size.false c.split_at.ensures.back c.split_at-2.ensures.front c.in-Err.ensures.exact cc
