use Rattle.std.proofs.Common.{Ok, sym, ◌∙◌, ap}
use Rattle.av_parts.specs.Orders.{order_of}
use Rattle.av_parts.specs.Spelling.{order_body}
use Rattle.av_parts.proofs.SpellLemmas.{framed_of, length-order_body, written_ok}
use Rattle.av_parts.proofs.order.put_frame.Goals as goal

pub returns : goal.returns
returns c =
    let o = order_of c.args.order in
    written_ok c.args.out.now.items o c.requires
    ∙ ap Ok (sym (framed_of (order_body o) _ c.put4.new.out.items _ c.size-size.result (c.size-size.ensures.size ∙ sym (length-order_body o)) (rw (← c.in_ok-reserve.ensures.items) c.put4.ensures.bytes) c.put_body.ensures))
