use Rattle.std.proofs.Common.{[], ◌∷◌, ◌++◌, sym, ◌∙◌, ap, append_assoc}
use Rattle.av_asks.specs.Contents.{how_number}
use Rattle.av_asks.specs.Spelling.{field8}
use Rattle.av_asks.proofs.ContentSpelling.{headed_by, length-end_body}
use Rattle.av_asks.proofs.contents.put_end.Goals as goal

pub returns-clause-ok : goal.returns-clause-ok
returns-clause-ok c =
    let mid = c.put_head.new.out.items in
    let rest = how_number c.args.how ∷ field8 c.args.count in
    let written = c.put8.ensures.bytes ∙ ap (λ xs. xs ++ field8 c.args.count) (c.put1.ensures.bytes ∙ ap (λ n. mid ++ n ∷ []) c.number.ensures) ∙ append_assoc mid (how_number c.args.how ∷ []) (field8 c.args.count) in
    headed_by 7 18 (field8 c.args.tag) rest c.args.out.now.items mid _ (sym (length-end_body c.args.tag c.args.how c.args.count)) (rw (← c.in_ok-reserve.ensures.items) c.put_head.ensures.bytes) written
