use Rattle.std.proofs.Common.{rules}
use Rattle.av_desk.specs.Book.{Book, book}
use Rattle.av_desk.proofs.KeepLemmas.{kept_by}
use Rattle.av_desk.proofs.locked.Locked.disconnect.Goals as goal
use Rattle.av_service.specs.Audit.{By}
use Rattle.av_service.specs.Conduct.{Disconnects}

pub invariant_of-self-2 : goal.invariant_of-self-2
invariant_of-self-2 c =
    let s = c.self.inside in
    let b : Book = book s.volume_number s.port s.limits s.catalogue.sets s.opening s.events.items s.sent in
    (kept_by b s.service.desk _ (By Disconnects) c.disconnect-out.result _ c.self.invariant.0 (search rules) tt c.disconnect-out.ensures.event (search rules), c.self.invariant.1)
