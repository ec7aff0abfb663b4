use Rattle.std.specs.Option.{option_copied}
use Rattle.av_sigset.specs.Publication.{publication_of}
use Rattle.av_shared.proofs.StillLemmas.{desk_opened_with, one_sets, spare_opened_with, tells}
use Rattle.av_shared.proofs.telling.tells_true.Goals as goal

pub is_certified-requires : goal.is_certified-requires
is_certified-requires c = record {
  gate = c.requires.gate;
  desk = c.requires.desk;
  spare = c.requires.spare;
  one_sets = one_sets c.args.desk.now (option_copied c.args.spare) (publication_of c.args.set.now) c.requires.desk c.requires.spare (c.is_still_under.ensures.only c.if-not-is_still_under.false);
}

pub returns : goal.returns
returns c =
    let only = c.is_still_under.ensures.only c.if-not-is_still_under.false in
    let still = c.is_still_under.ensures.still c.if-not-is_still_under.false in
    let closed = c.is_still_under.ensures.closed c.if-not-is_still_under.false in
    record {
      certified = λ yes works. c.is_certified.ensures.sound yes works;
      tells = λ yes works. tells c.args.gate.now c.args.desk.now (option_copied c.args.spare) c.args.set.now closed c.requires.desk c.requires.spare only still (c.is_certified.ensures.sound yes works);
      opened = λ yes. desk_opened_with c.args.desk.now (publication_of c.args.set.now) c.requires.desk only.of_desk still.of_desk;
      complete = λ fail_closed still only history. c.is_certified.ensures.complete history;
      beside = λ yes. spare_opened_with (option_copied c.args.spare) (publication_of c.args.set.now) c.requires.spare only.of_spare still.of_spare;
    }
