use Rattle.std.proofs.Common.{rules}
use Rattle.av_desk.specs.Book.{Book, book}
use Rattle.av_desk.proofs.KeepLemmas.{kept_by}
use Rattle.av_desk.proofs.locked.Locked.connect.Goals as goal
use Rattle.av_service.specs.Audit.{By}
use Rattle.av_service.specs.Conduct.{Connects}

pub invariant_of-self-2 : goal.invariant_of-self-2
invariant_of-self-2 c =
    let s = c.self.inside in
    let b : Book = book s.volume_number s.port s.limits s.catalogue.sets s.opening s.events.items s.sent in
    (kept_by b s.service.desk _ (By Connects) c.in-Ok.out _ c.self.invariant.0 (search rules) (search rules) c.in-Ok.ensures.event.1 (search rules), c.self.invariant.1)
