use Rattle.std.specs.Option.{option_copied}
use Rattle.std.proofs.lemmas.Result.{IfOk-weaker}
use Rattle.av_sigset.specs.Publication.{publication_of}
use Rattle.av_shared.proofs.StillLemmas.{desk_opened_with, one_sets, spare_opened_with, tells}
use Rattle.av_shared.proofs.telling.shows_true.Goals as goal

pub has_certified_works-requires-clause-one_sets : goal.has_certified_works-requires-clause-one_sets
has_certified_works-requires-clause-one_sets g c κs within =
    one_sets c.args.desk.now (option_copied c.args.spare) (publication_of c.args.set.now) c.requires.desk c.requires.spare (c.is_still_under.ensures.only c.if-not-is_still_under.false)

pub has_certified_works-requires-clause-opened : goal.has_certified_works-requires-clause-opened
has_certified_works-requires-clause-opened g c κs within =
    let only = c.is_still_under.ensures.only c.if-not-is_still_under.false in
    let still = c.is_still_under.ensures.still c.if-not-is_still_under.false in
    desk_opened_with c.args.desk.now (publication_of c.args.set.now) c.requires.desk only.of_desk still.of_desk

pub has_certified_works-requires-clause-beside : goal.has_certified_works-requires-clause-beside
has_certified_works-requires-clause-beside g c κs within =
    let only = c.is_still_under.ensures.only c.if-not-is_still_under.false in
    let still = c.is_still_under.ensures.still c.if-not-is_still_under.false in
    spare_opened_with (option_copied c.args.spare) (publication_of c.args.set.now) c.requires.spare only.of_spare still.of_spare

pub returns : goal.returns
returns g c =
    let only = c.is_still_under.ensures.only c.if-not-is_still_under.false in
    let still = c.is_still_under.ensures.still c.if-not-is_still_under.false in
    let closed = c.is_still_under.ensures.closed c.if-not-is_still_under.false in
    record {
      certified = c.has_certified_works.ensures;
      tells = IfOk-weaker c.has_certified_works.result _ _ (λ v certified yes. tells c.args.gate.now c.args.desk.now (option_copied c.args.spare) c.args.set.now closed c.requires.desk c.requires.spare only still (certified yes)) c.has_certified_works.ensures;
    }
