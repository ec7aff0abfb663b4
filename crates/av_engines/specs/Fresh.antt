-- A scanning service over a stream of frames to which newer sets come while it runs.
use Rattle.std.specs.Prelude.{ℕ, ◌≡◌, List, [], ◌∷◌, ◌++◌, Option, None, Some, Ok, Err}
use Rattle.std.specs.List.{flat_map}
use Rattle.av_base.specs.declared.refusal.Refusal.{Refusal}
use Rattle.av_base.specs.declared.refusal.Refusal.TheVariants.{Fault, NoMemory}
use Rattle.av_frame.specs.Message.{Letter}
use Rattle.av_frame.specs.Spelling.{frame}
use Rattle.av_service.specs.Conduct.{Connects, Publishes, service_step}
use Rattle.av_service.specs.Desk.{Desk}
use Rattle.av_sigset.specs.Catalogue.{may_publish}
use Rattle.av_sigset.specs.Set.{NumberedSet}
use Rattle.av_sigset.specs.declared.fault.CatalogueFault.{CatalogueFault}
use Rattle.av_engines.specs.Serving.{Served, gone_on, heard, patterns_at, unserved}

-- What happens to a service that runs: a message comes; a newer set comes and is published; or a set comes and isn't, for
-- this reason.
pub data Happening : Type 0 where
  Comes : (message : Letter) → Happening
  Renews : (set : NumberedSet) → Happening
  Refuses : (set : NumberedSet) (why : Refusal CatalogueFault) → Happening

-- the sets that are published after it, the newest first
abbrev pub published_by : List NumberedSet → Happening → List NumberedSet
published_by sets (Comes m) = sets
published_by sets (Renews s) = s ∷ sets
published_by sets (Refuses s why) = sets

-- the same of these in turn
abbrev pub all_published : List NumberedSet → List Happening → List NumberedSet
all_published sets [] = sets
all_published sets (h ∷ hs) = all_published (published_by sets h) hs

-- where it leads a service over these sets: a publication is an event of the service, which begins its jobs anew
abbrev pub gone_by : List NumberedSet → Served → Happening → Served
gone_by sets s (Comes m) = heard (patterns_at sets) s m
gone_by sets s (Renews k) = gone_on s (service_step s.desk (Publishes k.version))
gone_by sets s (Refuses k why) = s

-- the same of these in turn
abbrev pub all_gone_by : List NumberedSet → Served → List Happening → Served
all_gone_by sets s [] = s
all_gone_by sets s (h ∷ hs) = all_gone_by (published_by sets h) (gone_by sets s h) hs

-- a set is published only where it may be, and is refused for the catalogue's reason, or for want of memory where it has none
abbrev pub MayHappen : List NumberedSet → Happening → Type 0
MayHappen sets (Comes m) = Unit {0}
MayHappen sets (Renews s) = may_publish sets s.version ≡ Ok tt
MayHappen sets (Refuses s (Fault f)) = may_publish sets s.version ≡ Err f
MayHappen sets (Refuses s NoMemory) = may_publish sets s.version ≡ Ok tt

-- each of these may happen behind the ones before it
abbrev pub AllMayHappen : List NumberedSet → List Happening → Type 0
AllMayHappen sets [] = Unit {0}
AllMayHappen sets (h ∷ hs) = MayHappen sets h × AllMayHappen (published_by sets h) hs

-- the messages among what happened
abbrev pub messages_of : List Happening → List Letter
messages_of [] = []
messages_of (Comes m ∷ hs) = m ∷ messages_of hs
messages_of (Renews s ∷ hs) = messages_of hs
messages_of (Refuses s why ∷ hs) = messages_of hs

-- the sets among what happened
abbrev pub sets_of : List Happening → List NumberedSet
sets_of [] = []
sets_of (Comes m ∷ hs) = sets_of hs
sets_of (Renews s ∷ hs) = s ∷ sets_of hs
sets_of (Refuses s why ∷ hs) = s ∷ sets_of hs

-- the service connects, and then these happen
abbrev pub fresh_run : List NumberedSet → Desk → List Happening → Served
fresh_run sets d hs = all_gone_by sets (gone_on (unserved d) (service_step d Connects)) hs

-- what is written meanwhile
abbrev pub fresh_text : List NumberedSet → Desk → List Happening → List ℕ
fresh_text sets d hs = flat_map frame (fresh_run sets d hs).sent

-- the set that came, if any
abbrev pub come : Option NumberedSet → List NumberedSet
come None = []
come (Some s) = s ∷ []

-- the sets that are still to come, where they are known, begin with these and lose them
abbrev pub Gives : Option (List NumberedSet) → Option (List NumberedSet) → List NumberedSet → Type 0
Gives None has given = Unit {0}
Gives (Some xs) None given = ⊥
Gives (Some xs) (Some ys) given = xs ≡ given ++ ys
