use Rattle.std.proofs.Common.{Ok, sym, ◌∙◌, ap, arith}
use Rattle.av_asks.specs.Spelling.{field8}
use Rattle.av_asks.proofs.ContentSpelling.{headed_by, length-part_body, part_ok}
use Rattle.av_asks.proofs.contents.put_part.Goals as goal

pub returns : goal.returns
returns c =
    let some = c.args.some.now in
    let put = rw c.unwrap.ensures at c.extend_from_slice.ensures.items in
    part_ok c.args.out.now.items c.args.tag some (grind (arith, c.if-is_empty.false)) c.if-some-gt-MAX_PART.false
    ∙ ap Ok (sym (headed_by 6 _ (field8 c.args.tag) some c.args.out.now.items c.put_head.new.out.items _ (sym (length-part_body c.args.tag some)) (rw (← c.in_ok-reserve.ensures.items) c.put_head.ensures.bytes) put))
