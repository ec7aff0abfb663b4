-- The events of a filter and of the services of its ports put together: a message comes behind the event that sent it.
use Rattle.std.specs.Prelude.{◌≡◌, ℕ, ◌+◌, ◌-◌, ◌≤◌, ◌⊎◌, List, [], ◌∷◌, drop, length, take}
use Rattle.std.specs.List.{flat_map}
use Rattle.av_base.specs.Among.{Among}
use Rattle.av_base.specs.declared.port.Port.{Port}
use Rattle.av_base.specs.declared.port.Port.TheVariants.{One, Two}
use Rattle.av_filter.specs.Audit.{FilterEntry}
use Rattle.av_frame.specs.Message.{Letter}
use Rattle.av_filter.specs.Conduct.{FilterEvent}
use Rattle.av_filter.specs.Conduct as filter
use Rattle.av_service.specs.Audit.{By, Call, ServiceEntry}
use Rattle.av_service.specs.Conduct as service
use Rattle.av_history.specs.Audits.{IsDelivered, SideEntry, filter_side, service_side}
use Rattle.av_shared.specs.declared.merge.Taken.{Taken}

-- what these entries of a filter sent
abbrev pub sent_of_filter : List FilterEntry → List Letter
sent_of_filter xs = flat_map (λ x. x.messages) xs

-- what these of a service sent
abbrev pub sent_of_service : List ServiceEntry → List Letter
sent_of_service xs = flat_map (λ x. x.messages) xs

-- the history has the events of all, each side's in its order, and each message that came had been sent by the other side before
pub record IsMergeOf (xs : List FilterEntry) (ones twos : List ServiceEntry) (history : List SideEntry) : Type 0 where
  pub filter : filter_side history ≡ xs
  pub one : service_side One history ≡ ones
  pub two : service_side Two history ≡ twos
  pub delivered : IsDelivered [] [] history

-- there is such a history
pub record AreMerged (xs : List FilterEntry) (ones twos : List ServiceEntry) : Type 0 where
  pub history : List SideEntry
  pub merge : IsMergeOf xs ones twos history

-- the first of the events of each are put together, so many
abbrev pub AreTaken : List FilterEntry → List ServiceEntry → List ServiceEntry → Taken → Type 0
AreTaken xs ones twos n = AreMerged (take n.gate xs) (take n.one ones) (take n.two twos)

-- no event is left
abbrev pub AreAllTaken : List FilterEntry → List ServiceEntry → List ServiceEntry → Taken → Type 0
AreAllTaken xs ones twos n = (length xs ≤ n.gate) × (length ones ≤ n.one) × (length twos ≤ n.two)

-- how many are left
abbrev pub events_left : List FilterEntry → List ServiceEntry → List ServiceEntry → Taken → ℕ
events_left xs ones twos n = (length xs - n.gate) + (length ones - n.one) + (length twos - n.two)

-- where an event brings a message, this holds of it
abbrev pub Brings : (Letter → Type 0) → FilterEvent → Type 0
Brings P (filter.Receives m) = P m
Brings P _ = Unit {0}

-- the same of a call of a service
abbrev pub Takes : (Letter → Type 0) → Call → Type 0
Takes P (By (service.Receives m)) = P m
Takes P _ = Unit {0}

-- a message was sent by the service of this port, among the events that are taken
abbrev pub WasSentAt : List ServiceEntry → List ServiceEntry → Taken → Port → Letter → Type 0
WasSentAt ones twos n One m = Among m (sent_of_service (take n.one ones))
WasSentAt ones twos n Two m = Among m (sent_of_service (take n.two twos))

-- by the service of any port
abbrev pub WasSentUp : List ServiceEntry → List ServiceEntry → Taken → Letter → Type 0
WasSentUp ones twos n m = WasSentAt ones twos n One m ⊎ WasSentAt ones twos n Two m

-- and by the filter, among so many of its events
abbrev pub WasSentDown : List FilterEntry → ℕ → Letter → Type 0
WasSentDown xs count m = Among m (sent_of_filter (take count xs))

-- there is a next event, and where it brings a message, this holds of it
abbrev pub FilterGoesOn : (Letter → Type 0) → List FilterEntry → Type 0
FilterGoesOn P [] = ⊥
FilterGoesOn P (x ∷ xs) = Brings P x.event

-- the same of a service
abbrev pub ServiceGoesOn : (Letter → Type 0) → List ServiceEntry → Type 0
ServiceGoesOn P [] = ⊥
ServiceGoesOn P (x ∷ xs) = Takes P x.call

-- no side has a next event that can come: what each waits for was not sent by those that are taken
pub record AreStuck (xs : List FilterEntry) (ones twos : List ServiceEntry) (n : Taken) : Type 0 where
  pub filter : ¬ FilterGoesOn (WasSentUp ones twos n) (drop n.gate xs)
  pub one : ¬ ServiceGoesOn (WasSentDown xs n.gate) (drop n.one ones)
  pub two : ¬ ServiceGoesOn (WasSentDown xs n.gate) (drop n.two twos)
