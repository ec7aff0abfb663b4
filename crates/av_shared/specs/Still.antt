-- A run in which no stream changes and nothing is published, and what its answers say of the contents at its opening.
use Rattle.std.specs.Prelude.{◌≡◌, ℕ, Bool, true, false, List, [], ◌∷◌, map, Option, None, Some}
use Rattle.std.specs.List.{AllByRecursion as Each, list_all}
use Rattle.av_base.specs.Among.{Among}
use Rattle.av_base.specs.declared.port.Port.{Port}
use Rattle.av_base.specs.declared.verdict.Verdict.TheVariants.{Clean}
use Rattle.av_desk.specs.declared.audit.Audit.{Audit as DeskAudit}
use Rattle.av_filter.specs.Audit.{answers_given}
use Rattle.av_filter.specs.Conduct.{Changes, FilterEvent}
use Rattle.av_gate.specs.declared.audit.Audit.{Audit as GateAudit}
use Rattle.av_match.specs.Match.{verdict}
use Rattle.av_pend.specs.declared.answer.Answer.{Answer}
use Rattle.av_pend.specs.declared.answer.Answer.TheVariants.{Denied, Granted, Unscanned}
use Rattle.av_service.specs.Audit.{By, Call, Publishes}
use Rattle.av_sigset.specs.Publication.{Publication, publication_of, published_as}
use Rattle.av_shared.specs.History.{events_of}
use Rattle.av_sigset.specs.Set.{NumberedSet, patterns_of}
use Rattle.av_sigset.specs.declared.signature.Pattern.{Pattern}
use Rattle.av_store.specs.Rows.{stream_at}
use Rattle.av_store.specs.Store.{Store}
use Rattle.av_store.specs.declared.stream.Stream.{Stream}
use Rattle.av_history.specs.Audits.{OfFilter, OfService, SideEntry}

-- an event that changes no stream
abbrev pub ChangesNothing : FilterEvent → Type 0
ChangesNothing (Changes c) = ⊥
ChangesNothing _ = Unit {0}

-- a call that publishes nothing
abbrev pub PublishesNothing : Call → Type 0
PublishesNothing (Publishes v ps) = ⊥
PublishesNothing (By e) = Unit {0}

-- an entry of either
abbrev pub StaysStill : SideEntry → Type 0
StaysStill (OfFilter x) = ChangesNothing x.event
StaysStill (OfService port x) = PublishesNothing x.call

-- no stream changes, and nothing is published
abbrev pub IsStill : List SideEntry → Type 0
IsStill es = Each StaysStill es

-- The same as tests.
abbrev pub changes_nothing : FilterEvent → Bool
changes_nothing (Changes c) = false
changes_nothing _ = true

abbrev pub publishes_nothing : Call → Bool
publishes_nothing (Publishes v ps) = false
publishes_nothing (By e) = true

-- so it is on all sides
pub record AreStill (gate : GateAudit) (desk : DeskAudit) (spare : Option DeskAudit) : Type 0 where
  pub of_gate : list_all (λ x. changes_nothing x.event) gate.events.items ≡ true
  pub of_desk : list_all (λ x. publishes_nothing x.call) desk.events.items ≡ true
  pub of_spare : list_all (λ x. publishes_nothing x.call) (events_of spare) ≡ true

-- a desk's catalogue had this publication and no other at its end
abbrev pub HasOnly : DeskAudit → Publication → Type 0
HasOnly a p = map publication_of a.catalogue.sets ≡ p ∷ []

abbrev pub SpareHasOnly : Option DeskAudit → Publication → Type 0
SpareHasOnly None p = Unit {0}
SpareHasOnly (Some a) p = HasOnly a p

-- so it is of both
pub record HaveOnly (desk : DeskAudit) (spare : Option DeskAudit) (p : Publication) : Type 0 where
  pub of_desk : HasOnly desk p
  pub of_spare : SpareHasOnly spare p

-- no pattern that one of the catalogues has under this version occurs in these bytes
pub record IsCleanUnder (sets : Port → List Publication) (version : ℕ) (bytes : List ℕ) : Type 0 where
  pub port : Port
  pub patterns : List Pattern
  pub published : published_as (sets port) version ≡ Some patterns
  pub clean : Clean ≡ verdict patterns bytes

-- a grant names the generation that its stream has in this volume, and is of that content; nothing else lets an open through
abbrev pub IsTrueOf : Store → (Port → List Publication) → Answer → Type 0
IsTrueOf v sets (Granted n least s g version) =
    (x : Stream) → stream_at s v.streams ≡ Some x → (g ≡ x.generation) × IsCleanUnder sets version x.bytes
IsTrueOf v sets (Unscanned n s g cause) = ⊥
IsTrueOf v sets (Denied n cause) = Unit {0}

-- the same of one set: a grant is of the whole content that its stream has in this volume, in which no pattern of the set occurs
abbrev pub IsTrueUnder : Store → NumberedSet → Answer → Type 0
IsTrueUnder v set (Granted n least s g version) =
    (x : Stream) → stream_at s v.streams ≡ Some x
    → (g ≡ x.generation) × (version ≡ set.version) × (Clean ≡ verdict (patterns_of set.signatures) x.bytes)
IsTrueUnder v set (Unscanned n s g cause) = ⊥
IsTrueUnder v set (Denied n cause) = Unit {0}

-- each answer that a gate gave
abbrev pub TellsTrue : GateAudit → NumberedSet → Type 0
TellsTrue gate set = (a : Answer) → Among a (answers_given gate.events.items) → IsTrueUnder gate.volume set a
