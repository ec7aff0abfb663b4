-- What a history says by itself: what each stream has held, and which sets were published.
use Rattle.std.specs.Prelude.{ℕ, ◌≡◌, List, [], ◌∷◌, map, Some}
use Rattle.av_base.specs.declared.verdict.Verdict.{Verdict}
use Rattle.av_cache.specs.declared.entry.Entry.{Entry}
use Rattle.av_match.specs.Match.{verdict}
use Rattle.av_sigset.specs.Publication.{Publication, publication_of, published_as}
use Rattle.av_sigset.specs.declared.signature.Pattern.{Pattern}
use Rattle.av_store.specs.Files.{Change, number_of}
use Rattle.av_store.specs.Files as files
use Rattle.av_store.specs.History.{StreamHistory, content, generation_of, histories_after, now}
use Rattle.av_store.specs.Seen.{Keeps}
use Rattle.av_history.specs.declared.event.Event.{Event}
use Rattle.av_history.specs.declared.event.Event.TheVariants.{Publish, Create, Write, Cut, Remove}
use Rattle.av_history.specs.declared.report.Judged.{Judged}
use Rattle.av_history.specs.World.{WorldState}

-- what a history says
pub record Past : Type 0 where
  pub streams : List StreamHistory  -- in the order of their numbers, counted from 1
  pub sets : List Publication  -- the newest first

-- after a change of a stream
abbrev pub changes : Past → Change → Past
changes p c = record p { streams = histories_after p.streams c }

-- the number that a name had then
abbrev pub number_then : Past → List ℕ → ℕ
number_then p name = number_of name (map now p.streams)

-- after one event more; a change is of the stream that has the name then
abbrev pub past_after : Past → Event → Past
past_after p (Publish version patterns) = record p { sets = record { version = version; patterns = patterns } ∷ p.sets }
past_after p (Create name) = changes p (files.Create name)
past_after p (Write name offset bytes) = changes p (files.Write (number_then p name) offset bytes)
past_after p (Cut name n) = changes p (files.Cut (number_then p name) n)
past_after p (Remove name) = changes p (files.Remove (number_then p name))
past_after p _ = p

-- a history has its newest event first
unfoldable pub past : List Event → Past
past [] = record { streams = []; sets = [] }
past (e ∷ es) = past_after (past es) e

-- the volume and the sets are those that the history tells
pub record IsTold (w : WorldState) : Type 0 where
  pub volume : Keeps w.volume (map now (past w.history).streams)
  pub sets : map publication_of w.sets ≡ (past w.history).sets

-- r is the verdict of what stream s held at generation g, under what was published as version v
pub record IsVerdictOf (p : Past) (s g v : ℕ) (r : Verdict) : Type 0 where
  pub patterns : List Pattern
  pub bytes : List ℕ
  pub published : published_as p.sets v ≡ Some patterns
  pub held : content p.streams s g ≡ Some bytes
  pub right : r ≡ verdict patterns bytes

-- an entry has the verdict of the content that it names, under its version
abbrev pub IsRightEntry : Past → Entry → Type 0
IsRightEntry p e = IsVerdictOf p e.stream e.generation e.version e.verdict

-- a judgement is of the present generation of its stream
pub record IsRight (p : Past) (j : Judged) : Type 0 where
  pub present : j.generation ≡ generation_of p.streams j.stream
  pub right : IsVerdictOf p j.stream j.generation j.version j.verdict
