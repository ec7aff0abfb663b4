-- An event as the code keeps it.
use Rattle.std.specs.Prelude.{◌≡◌, ℕ, List, [], ◌∷◌, Option, None, Some}
use Rattle.av_desk.specs.declared.given.GivenWork.{GivenWork}
use Rattle.av_desk.specs.declared.event.Event.{Event}
use Rattle.av_desk.specs.declared.event.Event.TheVariants as event
use Rattle.av_match.specs.Scanning.{ScanState, if_found}
use Rattle.av_service.specs.Audit.{By, Call, Publishes}
use Rattle.av_service.specs.Conduct.{Connects, Disconnects, Finishes, Receives, Restarts}
use Rattle.av_service.specs.Work.{WorkState}
use Rattle.av_sigset.specs.Set.{patterns_of}

-- what happened
abbrev pub call_of : Event → Call
call_of event.Connect = By Connects
call_of (event.Receive m) = By (Receives m)
call_of (event.Finish lease scan) = By (Finishes lease scan (if_found scan))
call_of (event.Publish version set) = Publishes version (patterns_of set.value.signatures)
call_of event.Disconnect = By Disconnects
call_of (event.Restart latest) = By (Restarts latest)

-- the work that was given out, if one was
abbrev pub works_given : Option GivenWork → List WorkState
works_given None = []
works_given (Some g) = g.work.value ∷ []

-- one work was given out, under this lease, under this version and with this scan
pub record IsLentAs (works : List WorkState) (lease version : ℕ) (scan : ScanState) : Type 0 where
  pub work : WorkState
  pub only : works ≡ work ∷ []
  pub lease_is : lease ≡ work.lease
  pub version_is : version ≡ work.version
  pub scan_is : scan ≡ work.scan
