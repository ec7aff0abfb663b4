use Rattle.std.proofs.Common.{◌≡◌, ◌∷◌, ◌<◌, Some, ap, map, rules}
use Rattle.av_desk.specs.Book.{Book, book, compiled}
use Rattle.av_desk.proofs.KeepLemmas.{kept_by}
use Rattle.av_desk.proofs.locked.Locked.publish.Goals as goal
use Rattle.av_service.specs.Audit.{IsNew, Publishes}
use Rattle.av_sigset.specs.Publication.{latest_as, publication_of}
use Rattle.av_sigset.specs.Set.{patterns_of}

pub invariant_of-self-2 : goal.invariant_of-self-2
invariant_of-self-2 c =
    let s = c.self.inside in
    let set = c.args.set in
    let b : Book = book s.volume_number s.port s.limits s.catalogue.sets s.opening s.events.items s.sent in
    let sets : c.publish.new.self.sets ≡ set ∷ s.catalogue.sets = search rules in
    let later : latest_as (map publication_of s.catalogue.sets) < set.version = search rules in
    let fresh : IsNew (map publication_of s.catalogue.sets) set.version (patterns_of set.signatures) = record { later = later; solid = c.version.ensures.set.ranges.lengths } in
    let same : c.room-else-is_err-2.new.self.desk ≡ s.service.desk = search rules in
    let built : c.in-Some-built.automaton ≡ compiled (publication_of set) = rw c.in-Some-built.is at c.requires in
    rw sets (
      kept_by b s.service.desk _ (Publishes set.version (patterns_of set.signatures)) c.publish-out.result _ c.self.invariant.0 (search rules) fresh (rw (c.version-version.ensures.version, same) at c.publish-out.ensures.event) (search rules),
      ap Some built,
    )
