use Rattle.std.proofs.Common.{rules, arith, ◌≡◌, ◌∷◌, ◌==◌, ◌∙◌, ap, false, length}
use Rattle.av_log.proofs.NotesLemmas.{drop_next, one_more}
use Rattle.av_log.proofs.notes.place_of.Goals as goal

pub notes-preserved : goal.notes-preserved
notes-preserved c =
    let n = c.in-Some.note.now in
    let below = c.in-Some.below.now in
    let split : c.notes.rest.now ≡ n ∷ below = search rules in
    let other : (n.tag == c.args.tag) ≡ false = search rules in
    let long : length c.notes.rest.now ≡ length (n ∷ below) = ap length split in
    let both = one_more c.args.tag c.notes.place c.args.notes.now c.notes.rest.now n below other split c.notes.invariant.left c.notes.invariant.note c.notes.invariant.others in
    record {
      count = omega (arith, long, c.notes.invariant.count);
      left = drop_next c.notes.place c.args.notes.now n below (c.notes.invariant.left ∙ split);
      note = both.0;
      others = both.1;
    }
