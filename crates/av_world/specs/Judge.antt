-- The verdict of a stream's present content under the latest set.
use Rattle.std.specs.Prelude.{ℕ, List, Option, option_and_then, None, Some, Result, Ok, Err}
use Rattle.av_sigset.specs.Catalogue.{newest, set_at}
use Rattle.av_sigset.specs.Set.{NumberedSet, patterns_of}
use Rattle.av_store.specs.Rows.{stream_at, number_named}
use Rattle.av_store.specs.declared.stream.Stream.{Stream}
use Rattle.av_history.specs.declared.fault.JudgeFault.{JudgeFault}
use Rattle.av_history.specs.declared.fault.JudgeFault.TheVariants.{NoSuchName, NoSignatures}
use Rattle.av_history.specs.declared.report.Judged.{Judged}
use Rattle.av_match.specs.Match.{verdict}
use Rattle.av_history.specs.World.{WorldState}

-- the set of the newest version
abbrev pub latest_set : List NumberedSet → Option NumberedSet
latest_set sets = option_and_then (set_at sets) (newest sets)

-- the verdict of a stream under the latest set
abbrev pub set_judged : ℕ → Stream → Option NumberedSet → Result Judged JudgeFault
set_judged id s None = Err NoSignatures
set_judged id s (Some set) =
    Ok (record {
      stream = id;
      generation = s.generation;
      version = set.version;
      verdict = verdict (patterns_of set.signatures) s.bytes;
    })

-- the same of a stream that may be absent
abbrev pub stream_judged : List NumberedSet → ℕ → Option Stream → Result Judged JudgeFault
stream_judged sets id None = Err NoSuchName
stream_judged sets id (Some s) = set_judged id s (latest_set sets)

-- the same by the number of a name
abbrev pub name_judged : WorldState → Option ℕ → Result Judged JudgeFault
name_judged w None = Err NoSuchName
name_judged w (Some id) = stream_judged w.sets id (stream_at id w.volume.streams)

-- the verdict of the stream of this name under the latest set
abbrev pub judged_of : WorldState → List ℕ → Result Judged JudgeFault
judged_of w name = name_judged w (number_named name w.volume.streams)
