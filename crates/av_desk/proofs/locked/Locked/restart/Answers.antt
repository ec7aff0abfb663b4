use Rattle.std.proofs.Common.{rules, sym, ◌∙◌}
use Rattle.av_desk.specs.Book.{Book, book}
use Rattle.av_desk.proofs.CatalogueLemmas.{latest_of}
use Rattle.av_desk.proofs.KeepLemmas.{kept_by}
use Rattle.av_desk.proofs.locked.Locked.restart.Goals as goal
use Rattle.av_service.specs.Audit.{By}
use Rattle.av_service.specs.Conduct.{Restarts}

pub invariant_of-self-2 : goal.invariant_of-self-2
invariant_of-self-2 c =
    let s = c.self.inside in
    let b : Book = book s.volume_number s.port s.limits s.catalogue.sets s.opening s.events.items s.sent in
    let latest = c.latest_of-latest.ensures in (
      kept_by b s.service.desk _ (By (Restarts c.latest_of-latest.result)) c.restart-out.result _ c.self.invariant.0 (search rules) (latest ∙ sym (latest_of s.catalogue.sets)) (rw latest c.restart-out.ensures.event) (search rules),
      c.self.invariant.1,
    )
