use Rattle.std.proofs.Common.{refl, sym, subst}
use Rattle.std.specs.Prelude.{IsOk}
use Rattle.av_store.specs.Store.{remove_of}
use Rattle.av_filter.proofs.StoringLemmas.{creation_refused, not_created, removable, stored_by, unkept, unkept_fits, write_refused}
use Rattle.av_filter.specs.Storing.{Same}
use Rattle.av_filter.proofs.storing.store.Goals as goal

pub returns-in-Err-clause-err : goal.returns-in-Err-clause-err
returns-in-Err-clause-err c = Same refl (not_created _ _ c.args.name.now _ c.in-Err.ensures.created)

pub returns-in-Err-clause-why : goal.returns-in-Err-clause-why
returns-in-Err-clause-why c = creation_refused _ _ c.args.name.now c.args.content.now _ c.in-Err.ensures.created

pub take_away-requires : goal.take_away-requires
take_away-requires c = record {
  there = subst (λ v. IsOk (remove_of v c.in-Ok.stream)) (sym c.in-Err-write_once.ensures.err.1)
      (removable c.args.volume.now c.create.new.volume c.args.name.now c.in-Ok.stream c.create.ensures.away c.in-Ok.ensures.created);
}

pub returns-in-Ok-write_once-clause-stored : goal.returns-in-Ok-write_once-clause-stored
returns-in-Ok-write_once-clause-stored c =
    stored_by c.args.filter.now c.write_once.new.filter c.args.volume.now c.create.new.volume c.write_once.new.volume c.args.name.now c.args.content.now c.in-Ok.stream
    c.requires.fits c.create.ensures.away c.in-Ok.ensures.created c.in-Ok-write_once.ensures.taken c.in-Ok-write_once.ensures.table c.in-Ok-write_once.ensures.volume

pub returns-in-Err-write_once-clause-err : goal.returns-in-Err-write_once-clause-err
returns-in-Err-write_once-clause-err c =
    unkept c.args.filter.now c.write_once.new.filter c.args.volume.now c.create.new.volume c.write_once.new.volume c.take_away.new.volume c.args.name.now c.in-Ok.stream
    c.create.ensures.away c.in-Ok.ensures.created c.in-Err-write_once.ensures.err.0 c.in-Err-write_once.ensures.err.1 c.take_away.ensures.gone

pub returns-in-Err-write_once-clause-why : goal.returns-in-Err-write_once-clause-why
returns-in-Err-write_once-clause-why c = write_refused c.args.volume.now c.create.new.volume c.args.name.now c.args.content.now c.in-Ok.stream c.in-Err-write_once.why c.in-Ok.ensures.created c.in-Err-write_once.ensures.why

pub returns-in-Err-write_once-clause-fits : goal.returns-in-Err-write_once-clause-fits
returns-in-Err-write_once-clause-fits c = unkept_fits c.args.filter.now c.write_once.new.filter c.args.volume.now c.take_away.new.volume c.requires.fits (returns-in-Err-write_once-clause-err c)
