use Rattle.std.proofs.Common.{rules}
use Rattle.av_desk.specs.Book.{Book, book}
use Rattle.av_desk.proofs.KeepLemmas.{kept_by}
use Rattle.av_desk.proofs.locked.Locked.finish.Goals as goal
use Rattle.av_match.specs.Scanning.{if_found}
use Rattle.av_service.specs.Audit.{By}
use Rattle.av_service.specs.Conduct.{Finishes}

pub invariant_of-self-in-Ok : goal.invariant_of-self-in-Ok
invariant_of-self-in-Ok c =
    let s = c.self.inside in
    let b : Book = book s.volume_number s.port s.limits s.catalogue.sets s.opening s.events.items s.sent in (
      kept_by b s.service.desk _ (By (Finishes c.args.done.lease c.args.done.scan (if_found c.args.done.scan))) c.in-Ok.out _ c.self.invariant.0 (search rules) tt c.in-Ok.ensures.ok (search rules),
      c.self.invariant.1,
    )
