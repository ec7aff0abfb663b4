-- The past that audits tell: at their opening, and after each event of the filter and each call of a service.
use Rattle.std.specs.Prelude.{ℕ, List, [], ◌∷◌, map, is_some, if◌then◌else◌}
use Rattle.av_base.specs.declared.limits.LimitValues.{LimitValues}
use Rattle.av_filter.specs.Conduct.{FilterEvent, Changes}
use Rattle.av_pend.specs.declared.answer.Answer.{Answer}
use Rattle.av_base.specs.declared.port.Port.TheVariants.{One, Two}
use Rattle.av_base.specs.declared.port.Port.{Port}
use Rattle.av_service.specs.Audit.{By, Call, Publishes}
use Rattle.av_service.specs.Desk.{Desk, just_started}
use Rattle.av_sigset.specs.Publication.{Publication, latest_as, published_as}
use Rattle.av_store.specs.Files.{File}
use Rattle.av_store.specs.History.{StreamHistory}
use Rattle.av_history.specs.Past.{Past, changes}

-- an answer, with the past at its event
pub record Answered : Type 0 where
  pub past : Past
  pub answer : Answer

-- the past after an event of the filter
abbrev pub past_filter : Past → FilterEvent → Past
past_filter p (Changes c) = changes p c
past_filter p _ = p

-- an answer with the past that it was given in
abbrev pub told_at : Past → Answer → Answered
told_at p a = record { past = p; answer = a }

-- a publication joins those of both catalogues, unless its version is among them
abbrev pub joined : List Publication → Publication → List Publication
joined sets x = if is_some (published_as sets x.version) then sets else x ∷ sets

-- the publications of two catalogues
abbrev pub union : List Publication → List Publication → List Publication
union sets [] = sets
union sets (x ∷ xs) = joined (union sets xs) x

-- the past after a call of a service
abbrev pub past_call : Past → Call → Past
past_call p (Publishes v ps) = record p { sets = joined p.sets (record { version = v; patterns = ps }) }
past_call p (By e) = p

-- at the opening of each stream the present content is known, and none before it
abbrev pub known_since : File → StreamHistory
known_since f = record { name = f.name; here = f.here; first = f.generation; bytes = f.bytes; earlier = [] }

-- the past at the opening: each file as it is, and the sets
abbrev pub opening_past : List File → (Port → List Publication) → Past
opening_past fs sets = record { streams = map known_since fs; sets = union (sets One) (sets Two) }

-- what a service is told at its start: the number of the volume, and its limits
pub record Started : Type 0 where
  pub number : ℕ
  pub limits : LimitValues

-- the service of a port, just started over a catalogue
abbrev pub desk_at_first : Port → Started → List Publication → Desk
desk_at_first port told sets = just_started told.number port told.limits (latest_as sets)
