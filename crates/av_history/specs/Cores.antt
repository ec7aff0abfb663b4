-- Which event of the filter, or of the service of a port, an event of the world is.
use Rattle.std.specs.Prelude.{ℕ, ◌≡◌, List, Some, None, unwrap_or}
use Rattle.av_base.specs.declared.port.Port.{Port}
use Rattle.av_filter.specs.Conduct.{FilterEvent, Opens, Changes, CleansUp, TimesOut}
use Rattle.av_filter.specs.Conduct as filter
use Rattle.av_frame.specs.Message.{Letter}
use Rattle.av_service.specs.Conduct.{ServiceEvent, connect_refusal}
use Rattle.av_service.specs.Conduct as service
use Rattle.av_sigset.specs.Catalogue.{latest}
use Rattle.av_store.specs.Files as change
use Rattle.av_store.specs.Rows.{number_named}
use Rattle.av_history.specs.declared.event.Event.{Event}
use Rattle.av_history.specs.declared.event.Event.TheVariants.{Create, Write, Cut, Remove, Open, Cleanup, Down, Up, Timeout, Connect, DisconnectFilter, DisconnectService, RestartFilter, RestartService}
use Rattle.av_history.specs.World.{WorldState, desk_of, member}

-- the stream that a name names now
abbrev pub Names : WorldState → List ℕ → ℕ → Type 0
Names w name s = number_named name w.volume.streams ≡ Some s

-- the event of the filter that an event of the world is
pub data IsFilterEvent (w : WorldState) : Event → FilterEvent → Type 0 where
  creates : (name : List ℕ) → IsFilterEvent w (Create name) (Changes (change.Create name))
  writes : (name : List ℕ) (o : ℕ) (b : List ℕ) (s : ℕ) → Names w name s
      → IsFilterEvent w (Write name o b) (Changes (change.Write s o b))
  cuts : (name : List ℕ) (n s : ℕ) → Names w name s → IsFilterEvent w (Cut name n) (Changes (change.Cut s n))
  removes : (name : List ℕ) (s : ℕ) → Names w name s → IsFilterEvent w (Remove name) (Changes (change.Remove s))
  opens : (name : List ℕ) (least : ℕ)
      → IsFilterEvent w (Open name least) (Opens (unwrap_or (number_named name w.volume.streams) 0) least)
  cleans : (name : List ℕ) (s : ℕ) → Names w name s → IsFilterEvent w (Cleanup name) (CleansUp s)
  comes_up : (k : ℕ) (m : Letter) → member w.up k ≡ Some m → IsFilterEvent w (Up k) (filter.Receives m)
  times_out : (seq : ℕ) → IsFilterEvent w (Timeout seq) (TimesOut seq)
  disconnects : (port : Port) → IsFilterEvent w (DisconnectFilter port) (filter.Disconnects port)
  restarts : IsFilterEvent w RestartFilter filter.Restarts

-- the event of the service of a port that an event of the world is
pub data IsServiceEvent (w : WorldState) : Event → Port → ServiceEvent → Type 0 where
  connects : (port : Port) → connect_refusal (desk_of w port) ≡ None → IsServiceEvent w (Connect port) port service.Connects
  comes_down : (k : ℕ) (m : Letter) → member w.down k ≡ Some m → IsServiceEvent w (Down k) m.port (service.Receives m)
  disconnects : (port : Port) → IsServiceEvent w (DisconnectService port) port service.Disconnects
  restarts : (port : Port) → IsServiceEvent w (RestartService port) port (service.Restarts (latest w.sets))
