use Rattle.std.proofs.Common.{Ok, [], ◌∷◌, ◌++◌, length, sym, ◌∙◌, ap, append_assoc}
use Rattle.av_asks.specs.Spelling.{field8}
use Rattle.av_asks.proofs.ContentSpelling.{begin_ok, headed_by, length-begin_body}
use Rattle.av_asks.proofs.contents.put_begin.Goals as goal

pub returns : goal.returns
returns c =
    let label = c.args.label.now in
    let mid = c.put_head.new.out.items in
    let put = rw c.unwrap.ensures at c.extend_from_slice.ensures.items in
    let written = put ∙ ap (λ xs. xs ++ label) c.put1.ensures.bytes ∙ append_assoc mid (length label ∷ []) label in
    begin_ok c.args.out.now.items c.args.tag label c.if-label-gt-MAX_LABEL.false
    ∙ ap Ok (sym (headed_by 5 _ (field8 c.args.tag) (length label ∷ label) c.args.out.now.items mid _ (sym (length-begin_body c.args.tag label)) (rw (← c.in_ok-reserve.ensures.items) c.put_head.ensures.bytes) written))
