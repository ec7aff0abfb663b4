-- A desk that gets back what the runs of the works that it lent gave, whoever ran them.
use Rattle.std.specs.Prelude.{◌≡◌, ℕ, ◌+◌, ◌≤◌, List, [], ◌∷◌, ◌++◌, length, Option, Some}
use Rattle.std.specs.Option.{option_to_list}
use Rattle.av_base.specs.declared.port.Port.{Port}
use Rattle.av_desk.specs.Lent.{AreLent, LentState}
use Rattle.av_desk.specs.declared.audit.Audit.{Audit as DeskAudit}
use Rattle.av_gate.specs.declared.audit.Audit.{Audit as GateAudit}
use Rattle.av_match.specs.Match.{if_hit, verdict}
use Rattle.av_match.specs.Scanning.{IsScan, if_found}
use Rattle.av_pool.specs.Run.{IsRunOf, IsRunOfOne}
use Rattle.av_service.specs.Audit.{By, Call, ServiceEntry, sets_after}
use Rattle.av_service.specs.Conduct.{Finishes}
use Rattle.av_service.specs.Work.{DoneState, WorkState}
use Rattle.av_sigset.specs.Publication.{Publication, published_as}
use Rattle.av_sigset.specs.declared.signature.Pattern.{Pattern}
use Rattle.av_shared.specs.History.{IsMerge, entries_at, sets_at}
use Rattle.av_history.specs.Audits.{SideEntry}

-- what comes back is what the run of one of these works gave, by the automaton that was lent with it
abbrev pub IsOfRuns : List LentState → Call → Type 0
IsOfRuns lents (By (Finishes lease scan hit)) =
    (d : DoneState) × IsRunOfOne lents d × (lease ≡ d.lease) × (scan ≡ d.scan) × (hit ≡ if_found d.scan)
IsOfRuns lents _ = Unit {0}

-- Each work is lent with the automaton of the patterns that were published as its version. Each that comes back is what the run
-- of one that was lent before gave, by the automaton that was lent with it.
abbrev pub FinishesItsRuns : List Publication → List LentState → List ServiceEntry → Type 0
FinishesItsRuns sets lents [] = Unit {0}
FinishesItsRuns sets lents (x ∷ xs) =
    IsOfRuns lents x.call
    × ((o : Option LentState) × AreLent sets x.works o
    × FinishesItsRuns (sets_after sets x.call) (lents ++ option_to_list o) xs)

-- so it is of both desks
abbrev pub AreRunWorks : DeskAudit → Option DeskAudit → Type 0
AreRunWorks desk spare = (port : Port) → FinishesItsRuns (sets_at desk spare port) [] (entries_at desk spare port)

-- one history of all: the merge of their events, and to each desk come back the runs of its works
pub record AreOneRunHistory (gate : GateAudit) (desk : DeskAudit) (spare : Option DeskAudit) (history : List SideEntry) : Type 0 where
  pub merge : IsMerge gate desk spare history
  pub runs : AreRunWorks desk spare

-- A work that was run has the verdict of its bytes, whoever ran it. The work was lent with the patterns that were published as its
-- version, and came back as its run gave it. Its scan had been that of the bytes c under those patterns, and the content has room
-- for its own. Then its hit is that of the verdict of both under those patterns.
abbrev pub RunWorksHaveVerdicts : Type 0
RunWorksHaveVerdicts =
    (sets : List Publication) (works : List WorkState) (l : LentState) (d : DoneState) (ps : List Pattern) (bytes : ℕ) (c : List ℕ)
    → AreLent sets works (Some l) → IsRunOf l d → published_as sets d.work.version ≡ Some ps
    → IsScan (record { version = d.work.version; patterns = ps }) bytes c d.work.scan → length c + length d.work.chunk ≤ bytes
    → if_found d.scan ≡ if_hit (verdict ps (c ++ d.work.chunk))
