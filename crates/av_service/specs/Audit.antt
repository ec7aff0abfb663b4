-- A service's audit: its events and the publications in order, each with the reply.
use Rattle.std.specs.Prelude.{◌≡◌, ℕ, ◌<◌, List, [], ◌∷◌, ◌++◌, None}
use Rattle.av_frame.specs.Message.{Letter}
use Rattle.av_match.specs.Scanning.{AreSolid}
use Rattle.av_service.specs.Conduct.{ServiceEvent, Connects, Disconnects, Receives, Finishes, Restarts, connect_refusal, service_step}
use Rattle.av_service.specs.Conduct as service
use Rattle.av_service.specs.Desk.{Desk}
use Rattle.av_service.specs.Response.{Response}
use Rattle.av_service.specs.Work.{WorkState}
use Rattle.av_service.specs.declared.note.ServiceNote.{ServiceNote}
use Rattle.av_sigset.specs.Publication.{Publication, latest_as}
use Rattle.av_sigset.specs.declared.signature.Pattern.{Pattern}

-- an event of the service, or a publication, which catalogue and service take together
pub data Call : Type 0 where
  By : (event : ServiceEvent) → Call
  Publishes : (version : ℕ) (patterns : List Pattern) → Call

-- what a call makes of the service
abbrev pub respond : Desk → Call → Response
respond d (By e) = service_step d e
respond d (Publishes v ps) = service_step d (service.Publishes v)

-- the publications after a call
abbrev pub sets_after : List Publication → Call → List Publication
sets_after sets (By e) = sets
sets_after sets (Publishes v ps) = record { version = v; patterns = ps } ∷ sets

-- a version above those before it, with patterns that may stand in a set
pub record IsNew (sets : List Publication) (version : ℕ) (patterns : List Pattern) : Type 0 where
  pub later : latest_as sets < version
  pub solid : AreSolid patterns

-- a catalogue that publications made: versions rise, from 1 on, and each pattern has its length
abbrev pub IsCatalogue : List Publication → Type 0
IsCatalogue [] = Unit {0}
IsCatalogue (q ∷ qs) = (latest_as qs < q.version) × AreSolid q.patterns × IsCatalogue qs

-- a call of the service, with what it gave out
pub record ServiceEntry : Type 0 where
  pub call : Call
  pub messages : List Letter
  pub works : List WorkState
  pub note : ServiceNote

-- an entry has what the response gives out
pub record IsResponse (x : ServiceEntry) (r : Response) : Type 0 where
  pub messages : x.messages ≡ r.messages
  pub works : x.works ≡ r.works
  pub note : x.note ≡ r.note

-- a call that the service does not refuse
abbrev pub IsAccepted : List Publication → Desk → Call → Type 0
IsAccepted sets d (By Connects) = connect_refusal d ≡ None
IsAccepted sets d (By Disconnects) = Unit {0}
IsAccepted sets d (By (Receives m)) = Unit {0}
IsAccepted sets d (By (Finishes lease scan hit)) = Unit {0}
IsAccepted sets d (By (service.Publishes v)) = ⊥
IsAccepted sets d (By (Restarts v)) = v ≡ latest_as sets
IsAccepted sets d (Publishes v ps) = IsNew sets v ps

-- no event is refused, and each reply is the conduct's at that place
abbrev pub IsServiceAudit : List Publication → Desk → List ServiceEntry → Type 0
IsServiceAudit sets d [] = Unit {0}
IsServiceAudit sets d (x ∷ xs) =
    IsAccepted sets d x.call × IsResponse x (respond d x.call)
    × IsServiceAudit (sets_after sets x.call) (respond d x.call).desk xs

-- where it leads
abbrev pub desk_end : Desk → List ServiceEntry → Desk
desk_end d [] = d
desk_end d (x ∷ xs) = desk_end (respond d x.call).desk xs

-- what it sent, and what it lent, after what had been before
abbrev pub sent_up : List Letter → List ServiceEntry → List Letter
sent_up up [] = up
sent_up up (x ∷ xs) = sent_up (up ++ x.messages) xs

-- the works that these entries lent, behind those that were there
abbrev pub lent_by : List WorkState → List ServiceEntry → List WorkState
lent_by works [] = works
lent_by works (x ∷ xs) = lent_by (works ++ x.works) xs
