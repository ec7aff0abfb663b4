-- Which events of its filter a guard is given: a service's message is passed on as it came, and nothing is made up.
use Rattle.std.specs.Prelude.{◌≡◌, ◌⊎◌, List, [], ◌∷◌}
use Rattle.av_base.specs.declared.port.Port.{Port}
use Rattle.av_filter.specs.Conduct.{Disconnects, FilterEvent, Receives}
use Rattle.av_frame.specs.Message.{Letter}
use Rattle.av_guard.specs.State.{State, happens}

-- the filter, its contents and who waits are as they were; clients may have left
abbrev pub KeepsFilter : State → State → Type 0
KeepsFilter g h = (h.table ≡ g.table) × (h.volume ≡ g.volume) × (h.waiting ≡ g.waiting)

-- a guard was given this event, and no other; clients may have left meanwhile
abbrev pub HappensOnce : FilterEvent → State → State → Type 0
HappensOnce e g h = (before : State) × KeepsFilter g before × KeepsFilter ((happens before e).state) h

-- it was told that the service of a port is lost, or nothing
abbrev pub IsLosing : Port → State → State → Type 0
IsLosing port g h = KeepsFilter g h ⊎ HappensOnce (Disconnects port) g h

-- that of one of the ports
abbrev pub IsLosingOne : State → State → Type 0
IsLosingOne g h = (port : Port) × IsLosing port g h

-- it was given this message, or not, and then told that a service is lost, or not
abbrev pub IsGiven : Letter → State → State → Type 0
IsGiven message g h = IsLosingOne g h ⊎ ((after : State) × HappensOnce (Receives message) g after × IsLosingOne after h)

-- these messages were given so in turn
abbrev pub AreGiven : List Letter → State → State → Type 0
AreGiven [] g h = h ≡ g
AreGiven (m ∷ ms) g h = (after : State) × IsGiven m g after × AreGiven ms after h
