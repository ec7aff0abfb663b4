-- The scanning service over a stream of frames: what it sends as messages come, each work run and finished right after the
-- message that lent it.
use Rattle.std.specs.Prelude.{ℕ, List, [], ◌∷◌, ◌++◌, Option, Some, None}
use Rattle.std.specs.List.{flat_map}
use Rattle.av_frame.specs.Message.{Letter}
use Rattle.av_frame.specs.Spelling.{frame}
use Rattle.av_match.specs.Scanning.{fitting, if_found, run}
use Rattle.av_service.specs.Conduct.{Connects, Finishes, Receives, service_step}
use Rattle.av_service.specs.Desk.{Desk}
use Rattle.av_service.specs.Response.{Response}
use Rattle.av_service.specs.Work.{WorkState}
use Rattle.av_sigset.specs.Catalogue.{set_at}
use Rattle.av_sigset.specs.Set.{NumberedSet, patterns_of}
use Rattle.av_sigset.specs.declared.signature.Pattern.{Pattern}

-- the patterns of the set of each version
abbrev pub patterns_in : Option NumberedSet → List Pattern
patterns_in None = []
patterns_in (Some s) = patterns_of s.signatures

-- the patterns of a version of these sets
abbrev pub patterns_at : List NumberedSet → ℕ → List Pattern
patterns_at sets version = patterns_in (set_at sets version)

-- where events led a service, and what it sent meanwhile
pub record Served : Type 0 where
  pub desk : Desk
  pub sent : List Letter

-- the service after one more event
abbrev pub gone_on : Served → Response → Served
gone_on s r = record { desk = r.desk; sent = s.sent ++ r.messages }

-- a work comes back, run under the patterns of its version
abbrev pub finish_of : (ℕ → List Pattern) → Desk → WorkState → Response
finish_of patterns d w =
    let scan = run (patterns w.version) w.scan (fitting w.scan w.chunk) in
    service_step d (Finishes w.lease scan (if_found scan))

-- works come back in turn
abbrev pub worked : (ℕ → List Pattern) → Served → List WorkState → Served
worked patterns s [] = s
worked patterns s (w ∷ ws) = worked patterns (gone_on s (finish_of patterns s.desk w)) ws

-- a message comes, and what it lent comes back
abbrev pub heard : (ℕ → List Pattern) → Served → Letter → Served
heard patterns s m = let r = service_step s.desk (Receives m) in worked patterns (gone_on s r) r.works

-- messages come in turn
abbrev pub heard_all : (ℕ → List Pattern) → Served → List Letter → Served
heard_all patterns s [] = s
heard_all patterns s (m ∷ ms) = heard_all patterns (heard patterns s m) ms

-- a service of which nothing was sent yet
abbrev pub unserved : Desk → Served
unserved d = record { desk = d; sent = [] }

-- the service connects, and then these messages come
abbrev pub service_run : (ℕ → List Pattern) → Desk → List Letter → Served
service_run patterns d ms = heard_all patterns (gone_on (unserved d) (service_step d Connects)) ms

-- what is written meanwhile
abbrev pub service_text : (ℕ → List Pattern) → Desk → List Letter → List ℕ
service_text patterns d ms = flat_map frame (service_run patterns d ms).sent
