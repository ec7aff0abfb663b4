-- A service stays on its port, and each of its messages goes there.
use Rattle.std.proofs.Common.{◌≡◌, List, [], ◌∷◌, map, refl}
use Rattle.std.specs.List.{AllByRecursion as Each}
use Rattle.av_base.specs.declared.port.Port.{Port}
use Rattle.av_frame.specs.Message.{Letter, via}
use Rattle.av_frame.specs.declared.message.Body.{Body}
use Rattle.av_frame.specs.declared.message.Body.TheVariants.{Updated}
use Rattle.av_service.proofs.RowLemmas.{row_of}
use Rattle.av_service.specs.Conduct.{ServiceEvent}
use Rattle.av_service.specs.Desk.{Desk, afresh}
use Rattle.av_service.specs.Response.{Response, read_message}
use Rattle.av_service.specs.Rows
use Rattle.av_service.specs.Rows.{Row, ScanRow}
use Rattle.av_service.specs.Sound.{StaysOnItsPort}
use Rattle.av_service.specs.declared.job.Job.{Job}

-- the port stays, and what is sent goes there
record Stays (d : Desk) (r : Response) : Type 0 where
  port : r.desk.port ≡ d.port
  sent : Each (λ (m : Letter). m.port ≡ d.port) r.messages

all_there : (port : Port) (ms : List Body) → Each (λ (m : Letter). m.port ≡ port) (map (via port) ms)
all_there port [] = tt
all_there port (m ∷ ms) = (refl, all_there port ms)

scan_stays : {d : Desk} {j : Job} {r : Response} → ScanRow d j r → Stays d r
scan_stays (Rows.cached e at) = record { port = refl; sent = (refl, tt) }
scan_stays _ = record { port = refl; sent = (refl, tt) }

row_stays : {d : Desk} {e : ServiceEvent} {r : Response} → Row d e r → Stays d r
row_stays (Rows.scanned port id s g l r hears none row) = scan_stays row
row_stays (Rows.ignored m) = record { port = refl; sent = tt }
row_stays (Rows.repeated m) = record { port = refl; sent = tt }
row_stays (Rows.lent port id offset bytes j hears at awaits free short) = record { port = refl; sent = tt }
row_stays (Rows.dropped port m id j hears is at) = record { port = refl; sent = tt }
row_stays (Rows.orphaned lease scan hit) = record { port = refl; sent = tt }
row_stays {d} (Rows.updated version on) =
    record { port = refl; sent = all_there d.port (Updated version ∷ map (λ j. read_message d.limits (afresh version j)) d.jobs) }
row_stays (Rows.prepared version off) = record { port = refl; sent = tt }
row_stays Rows.disconnects = record { port = refl; sent = tt }
row_stays (Rows.restarts latest) = record { port = refl; sent = tt }
row_stays _ = record { port = refl; sent = (refl, tt) }

pub stays_on_its_port : StaysOnItsPort
stays_on_its_port = record { stays = λ d e. (row_stays (row_of d e)).port; sends = λ d e. (row_stays (row_of d e)).sent }
