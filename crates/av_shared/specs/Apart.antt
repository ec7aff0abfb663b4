-- A gate, a desk and a spare, if there is one, between which nothing came over.
use Rattle.std.specs.Prelude.{Bool, true, false, ◌&&◌, List, map, ◌++◌, Option}
use Rattle.std.specs.List.{list_all}
use Rattle.av_base.specs.Port.{other}
use Rattle.av_desk.specs.declared.audit.Audit.{Audit as DeskAudit}
use Rattle.av_filter.specs.Conduct.{FilterEvent}
use Rattle.av_filter.specs.Conduct as filter
use Rattle.av_gate.specs.declared.audit.Audit.{Audit as GateAudit}
use Rattle.av_service.specs.Audit.{By, Call}
use Rattle.av_service.specs.Conduct.{Finishes, Receives}
use Rattle.av_shared.specs.History.{events_of}
use Rattle.av_history.specs.Audits.{OfFilter, OfService, SideEntry}

-- the event brings the filter no message
abbrev pub hears_nothing : FilterEvent → Bool
hears_nothing (filter.Receives m) = false
hears_nothing _ = true

-- the call brings the service no message and no work
abbrev pub takes_nothing : Call → Bool
takes_nothing (By (Receives m)) = false
takes_nothing (By (Finishes lease scan hit)) = false
takes_nothing _ = true

-- no event of any brings anything from another
abbrev pub are_apart : GateAudit → DeskAudit → Option DeskAudit → Bool
are_apart gate desk spare =
    list_all (λ x. hears_nothing x.event) gate.events.items
    && (list_all (λ x. takes_nothing x.call) desk.events.items && list_all (λ x. takes_nothing x.call) (events_of spare))

-- all events of the gate, behind them all of the desk, and behind them all of the spare
abbrev pub one_by_one : GateAudit → DeskAudit → Option DeskAudit → List SideEntry
one_by_one gate desk spare =
    map OfFilter gate.events.items
    ++ (map (OfService desk.port) desk.events.items ++ map (OfService (other desk.port)) (events_of spare))
