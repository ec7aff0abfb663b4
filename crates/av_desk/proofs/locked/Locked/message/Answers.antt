use Rattle.std.proofs.Common.{rules, map}
use Rattle.av_desk.specs.Book.{Book, book}
use Rattle.av_desk.proofs.KeepLemmas.{kept_by}
use Rattle.av_desk.proofs.LentLemmas.{IsReady, lent_are, met}
use Rattle.av_desk.proofs.locked.Locked.message.Goals as goal
use Rattle.av_service.specs.Audit.{By}
use Rattle.av_service.specs.Conduct.{Receives}
use Rattle.av_sigset.specs.Publication.{publication_of}

pub lent_of-lent-requires : goal.lent_of-lent-requires
lent_of-lent-requires c =
    let s = c.self.inside in
    let kept = c.self.invariant.0 in
    let ready : IsReady (map publication_of s.catalogue.sets) s.automaton s.service.desk = record { built = c.self.invariant.1; version = kept.version; versioned = kept.versioned } in
    rw (c.keep-work.ensures.work, c.in-Ok.ensures) (met _ _ s.service.desk _ (Receives c.args.message) c.in-Ok-message.out ready c.in-Ok-message.ensures)

pub invariant_of-self-2 : goal.invariant_of-self-2
invariant_of-self-2 c =
    let s = c.self.inside in
    let b : Book = book s.volume_number s.port s.limits s.catalogue.sets s.opening s.events.items s.sent in
    (kept_by b s.service.desk _ (By (Receives c.args.message)) c.in-Ok-message.out _ c.self.invariant.0 (search rules) tt c.in-Ok-message.ensures (search rules), c.self.invariant.1)

pub returns-clause-lent : goal.returns-clause-lent
returns-clause-lent c =
    let s = c.self.inside in
    let kept = c.self.invariant.0 in
    let ready : IsReady (map publication_of s.catalogue.sets) s.automaton s.service.desk = record { built = c.self.invariant.1; version = kept.version; versioned = kept.versioned } in
    rw (← c.self.view_is, c.lent_of-lent.ensures, c.keep-work.ensures.work, c.in-Ok.ensures, ← kept.leads) (lent_are _ _ s.service.desk _ (Receives c.args.message) c.in-Ok-message.out ready c.in-Ok-message.ensures)
