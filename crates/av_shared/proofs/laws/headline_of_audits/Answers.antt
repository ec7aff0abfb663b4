use Rattle.std.proofs.Common.{◌≡◌, Bool, true, false, List, [], Option, None, Some, ap, refl, sym, subst, ◌∙◌, if◌then◌else◌}
use Rattle.std.proofs.lemmas.Option.{none-some}
use Rattle.std.specs.Option.{option_copied}
use Rattle.av_base.specs.Port.{other, same_port}
use Rattle.av_base.specs.declared.port.Port.{Port}
use Rattle.av_base.specs.declared.port.Port.TheVariants.{One, Two}
use Rattle.av_desk.specs.Audit.{opened_by}
use Rattle.av_desk.specs.declared.audit.Audit.{Audit as DeskAudit}
use Rattle.av_filter.specs.Audit.{IsFilterAudit}
use Rattle.av_gate.specs.Claims.{IsLegal, table_of}
use Rattle.av_gate.specs.declared.audit.Audit.{Audit as GateAudit}
use Rattle.av_service.specs.Audit.{IsCatalogue, IsServiceAudit}
use Rattle.av_service.specs.Desk.{just_started}
use Rattle.av_shared.specs.History.{AreOneHistory, HaveOneSets, IsDeskAudit, IsSpare, entries_at, events_of, opened_as, sets_at, told_as, told_at, told_by}
use Rattle.av_shared.proofs.RunLemmas.{runs_are_works}
use Rattle.av_shared.proofs.laws.headline_of_audits.Goals as goal
use Rattle.av_sigset.specs.Publication.{Publication, latest_as, published_as}
use Rattle.av_store.specs.Files.{File}
use Rattle.av_store.specs.Seen.{Keeps}
use Rattle.av_history.specs.Audits.{AreLegal, AreOneSets, FinishesItsWorks, SideEntry, sets_end}
use Rattle.av_history.specs.Scene.{desk_at_first}

-- the audit of a desk begins at its port
from_first : (port : Port) (a : DeskAudit) → a.port ≡ port → IsDeskAudit a → IsServiceAudit (opened_by a) (desk_at_first port (told_by a) (opened_by a)) a.events.items
from_first port a there of = subst (λ at. IsServiceAudit (opened_by a) (just_started a.volume_number at a.limits (latest_as (opened_by a))) a.events.items) there of.legal

spare_from_first : (port : Port) (d : DeskAudit) (o : Option DeskAudit) → other d.port ≡ port → IsSpare d o → IsServiceAudit (opened_as o) (desk_at_first port (told_as d o) (opened_as o)) (events_of o)
spare_from_first port d None there of = tt
spare_from_first port d (Some a) there of = from_first port a (of.port ∙ there) of.audit

spare_catalogue : (d : DeskAudit) (o : Option DeskAudit) → IsSpare d o → IsCatalogue (opened_as o)
spare_catalogue d None of = tt
spare_catalogue d (Some a) of = of.audit.catalogue

-- the service of each port, where the desk's is this one
abbrev LegalAt : Bool → Port → DeskAudit → Option DeskAudit → Type 0
LegalAt here port d o =
    let sets : List Publication = if here then opened_by d else opened_as o in
    IsServiceAudit sets (desk_at_first port (if here then told_by d else told_as d o) sets) (if here then d.events.items else events_of o)

service_at : (d : DeskAudit) (o : Option DeskAudit) → IsDeskAudit d → IsSpare d o → (at port : Port) → d.port ≡ at → LegalAt (same_port at port) port d o
service_at d o desk spare One One there = from_first One d there desk
service_at d o desk spare One Two there = spare_from_first Two d o (ap other there) spare
service_at d o desk spare Two One there = spare_from_first One d o (ap other there) spare
service_at d o desk spare Two Two there = from_first Two d there desk

catalogue_at : (d : DeskAudit) (o : Option DeskAudit) → IsDeskAudit d → IsSpare d o → (here : Bool) → IsCatalogue (if here then opened_by d else opened_as o)
catalogue_at d o desk spare true = desk.catalogue
catalogue_at d o desk spare false = spare_catalogue d o spare

one_sets_of : (d : DeskAudit) (o : Option DeskAudit) → HaveOneSets d o → AreOneSets (sets_end (opened_by d) d.events.items) (sets_end (opened_as o) (events_of o))
unfolding published_as
one_sets_of d None sets = λ version p q one two. absurd (none-some q two)
one_sets_of d (Some a) sets = sets

turned : (ones twos : List Publication) → AreOneSets ones twos → AreOneSets twos ones
turned ones twos sets = λ version p q one two. sym (sets version q p two one)

sets_of_both : (d : DeskAudit) (o : Option DeskAudit) → HaveOneSets d o → (at : Port)
    → AreOneSets (sets_end (if same_port at One then opened_by d else opened_as o) (if same_port at One then d.events.items else events_of o))
    (sets_end (if same_port at Two then opened_by d else opened_as o) (if same_port at Two then d.events.items else events_of o))
sets_of_both d o sets One = one_sets_of d o sets
sets_of_both d o sets Two = turned _ _ (one_sets_of d o sets)

legal : (g : GateAudit) (d : DeskAudit) (o : Option DeskAudit) (files : List File) (es : List SideEntry) → Keeps g.volume files → IsLegal g → IsDeskAudit d → IsSpare d o → HaveOneSets d o
    → AreOneHistory g d o es → AreLegal g.mode g.limits (told_at d o) files g.volume (sets_at d o) es
legal g d o files es keeps gate desk spare sets one = record {
  volume = keeps;
  catalogues = λ port. catalogue_at d o desk spare (same_port d.port port);
  filter = subst (IsFilterAudit (table_of g) g.volume) (sym one.merge.filter) gate;
  services = λ port. subst (IsServiceAudit (sets_at d o port) (desk_at_first port (told_at d o port) (sets_at d o port))) (sym (one.merge.services port)) (service_at d o desk spare d.port port refl);
  works = λ port. subst (FinishesItsWorks (sets_at d o port) []) (sym (one.merge.services port)) (one.works port);
  one_sets = rw (one.merge.services One, one.merge.services Two) (sets_of_both d o sets d.port);
  delivered = one.merge.delivered;
}

pub returns-clause-one_verdict : goal.returns-clause-one_verdict
returns-clause-one_verdict c = λ files es keeps one. c.audits.ensures.one_verdict _ _ _ files _ _ es (legal _ _ _ files es keeps c.requires.gate c.requires.desk c.requires.spare c.requires.one_sets one)

pub returns-clause-only_clean : goal.returns-clause-only_clean
returns-clause-only_clean c = λ files es keeps one. c.audits.ensures.only_clean _ _ _ files _ _ es (legal _ _ _ files es keeps c.requires.gate c.requires.desk c.requires.spare c.requires.one_sets one)

pub returns-clause-answers_once : goal.returns-clause-answers_once
returns-clause-answers_once c = c.audits.ensures.answers_once _ _ _ _ c.requires.gate

pub returns-clause-of_runs : goal.returns-clause-of_runs
returns-clause-of_runs c = λ es one.
    let d = c.args.desk.now in
    let o = option_copied c.args.spare in
    record {
      merge = one.merge;
      works = λ port. runs_are_works (entries_at d o port) (sets_at d o port) (desk_at_first port (told_at d o port) (sets_at d o port)) [] []
          (catalogue_at d o c.requires.desk c.requires.spare (same_port d.port port)) (service_at d o c.requires.desk c.requires.spare d.port port refl) tt (one.runs port);
    }
