-- For whom a guard's messages are.
use Rattle.std.specs.Prelude.{◌≡◌, ◌⊎◌, true, List, [], ◌∷◌}
use Rattle.std.specs.List.{AllByRecursion}
use Rattle.av_base.specs.declared.port.Port.{Port}
use Rattle.av_filter.specs.Audit.{FilterEntry}
use Rattle.av_filter.specs.Conduct.{FilterEvent, Receives, filter_step}
use Rattle.av_filter_table.specs.Ports.{is_open}
use Rattle.av_filter_table.specs.Table.{Table}
use Rattle.av_frame.specs.Message.{Letter}
use Rattle.av_store.specs.Store.{Store}

-- the event is a message that came at this port
abbrev pub CameAt : Port → FilterEvent → Type 0
CameAt port (Receives m) = m.port ≡ port
CameAt port _ = ⊥

-- a message that an event sends is for a service that is connected once it happened, or answers what came at its port
abbrev pub IsForService : Table → FilterEvent → Letter → Type 0
IsForService after e m = (is_open m.port after.connected ≡ true) ⊎ CameAt m.port e

-- so is each message of a history, from this table and volume on
abbrev pub AreForServices : Table → Store → List FilterEntry → Type 0
AreForServices t v [] = Unit {0}
AreForServices t v (x ∷ xs) =
    AllByRecursion (IsForService (filter_step t v x.event).table x.event) x.messages
    × AreForServices (filter_step t v x.event).table (filter_step t v x.event).volume xs
