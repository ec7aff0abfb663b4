-- What the run of a lent work gives.
use Rattle.std.specs.Prelude.{◌≡◌, ◌≤◌, ◌+◌, ◌++◌, ℕ, List, length}
use Rattle.av_base.specs.Among.{Among}
use Rattle.av_desk.specs.Lent.{FitsItsWork, LentState}
use Rattle.av_match.specs.Match.{if_hit, verdict}
use Rattle.av_match.specs.Scanning.{IsScan, fitting, if_found, run}
use Rattle.av_service.specs.Work.{DoneState}

-- the work as it was, under its lease, its scan gone on with its bytes by the automaton that was lent with it
abbrev pub done_of : LentState → DoneState
done_of l =
    record {
      work = l.work;
      lease = l.work.lease;
      scan = run l.automaton.patterns l.work.scan (fitting l.work.scan l.work.chunk);
    }

-- It is what the run of this work gives, by the automaton lent with it, which fits the work. Where the work's scan was that of
-- the bytes c, and the content has room for its chunk, it is now that of both, and its hit is that of their verdict.
pub record IsRunOf (l : LentState) (d : DoneState) : Type 0 where
  pub done : d ≡ done_of l
  pub fits : FitsItsWork l
  pub judged : (bytes : ℕ) (c : List ℕ) → IsScan l.automaton bytes c l.work.scan → length c + length l.work.chunk ≤ bytes
      → IsScan l.automaton bytes (c ++ l.work.chunk) d.scan
  pub hits : (bytes : ℕ) (c : List ℕ) → IsScan l.automaton bytes c l.work.scan → length c + length l.work.chunk ≤ bytes
      → if_found d.scan ≡ if_hit (verdict l.automaton.patterns (c ++ l.work.chunk))

-- it is what the run of a lent work gives
abbrev pub IsRun : DoneState → Type 0
IsRun d = (l : LentState) × IsRunOf l d

-- it is what the run of one of these works gives, by the automaton that was lent with that one
abbrev pub IsRunOfOne : List LentState → DoneState → Type 0
IsRunOfOne given d = (l : LentState) × Among l given × IsRunOf l d
