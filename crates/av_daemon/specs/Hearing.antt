-- Which messages of a service a guard is given: those whose frames came, in their order, each once.
use Rattle.std.specs.Prelude.{ℕ, ◌≡◌, ◌++◌, List, [], Option, None, Some}
use Rattle.std.specs.BTreeMap.{is_at}
use Rattle.std.specs.Map.{lookup}
use Rattle.std.specs.Ordering.{nat_cmp}
use Rattle.av_base.specs.declared.port.Port.{Port}
use Rattle.av_base.specs.declared.port.Port.TheVariants.{One, Two}
use Rattle.av_daemon.specs.declared.daemon.TheConstants.{GUEST, OTHER_GUEST, SERVING, SPARE}
use Rattle.av_daemon.specs.Passing.{AreGiven, IsLosing, IsLosingOne}
use Rattle.av_frame.specs.Message.{Letter}
use Rattle.av_guard.specs.State.{State}
use Rattle.av_peers.specs.Service.{SaysFirst, unheard}
use Rattle.av_peers.specs.declared.service.ServicePeer.{ServicePeer}
use Rattle.av_turns.specs.declared.places.Nth.{Nth}
use Rattle.av_turns.specs.declared.places.Nth.TheVariants.{First, Second}

-- the number of the connection of the service of a port
abbrev pub number_at : Port → ℕ
number_at One = SERVING
number_at Two = SPARE

-- the number of the connection of one who waits at the services' door
abbrev pub guest_number : Nth → ℕ
guest_number First = GUEST
guest_number Second = OTHER_GUEST

-- what came of a service that is there and was not passed on
abbrev pub unheard_of : Option ServicePeer → List ℕ
unheard_of None = []
unheard_of (Some s) = unheard s

-- what came over a connection and was not passed on
abbrev pub unheard_at : ℕ → List (ℕ × ServicePeer) → List ℕ
unheard_at number services = unheard_of (lookup (is_at (nat_cmp number)) services)

-- more came over a connection, behind what had come, and nothing was passed on
abbrev pub MoreIsHeard : ℕ → List (ℕ × ServicePeer) → List (ℕ × ServicePeer) → Type 0
MoreIsHeard number old new = (bytes : List ℕ) × (unheard_at number new ≡ unheard_at number old ++ bytes)

-- a guard was given messages whose frames these bytes begin with, and then told that a service is lost, or not
pub record TakesOf (bytes : List ℕ) (g h : State) : Type 0 where
  pub messages : List Letter
  pub after : State
  pub first : SaysFirst messages bytes
  pub given : AreGiven messages g after
  pub lost : IsLosingOne after h

-- the same of what had come of the service of a port and of what came meanwhile, and then that service is lost, or not
pub record IsHeard (port : Port) (services : List (ℕ × ServicePeer)) (g h : State) : Type 0 where
  pub bytes : List ℕ
  pub after : State
  pub taken : TakesOf (unheard_at (number_at port) services ++ bytes) g after
  pub lost : IsLosing port after h
