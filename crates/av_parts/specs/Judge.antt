-- What a service does with contents that come in parts, each judged by a scan of its own.
use Rattle.std.specs.Prelude.{ℕ, ◌+◌, ◌==◌, ◌&&◌, nat_le, nat_lt, List, [], length, map, Option, None, Some, Result, Ok, Err, if◌then◌else◌}
use Rattle.std.specs.Ordering.{nat_cmp}
use Rattle.std.specs.Map.{lookup, remove_entry}
use Rattle.std.specs.BTreeMap.{insert_entry, is_at}
use Rattle.av_base.specs.declared.verdict.Verdict.{Verdict}
use Rattle.av_base.specs.declared.verdict.Verdict.TheVariants.{Clean, Infected}
use Rattle.av_match.specs.Scanning.{Compiled, ScanState, begin, fitting, if_found, run}
use Rattle.av_parts.specs.declared.fault.JudgeFault.{JudgeFault}
use Rattle.av_parts.specs.declared.fault.JudgeFault.TheVariants.{Count, NotAbove, TooLong, Unknown}
use Rattle.av_parts.specs.declared.sizes.TheConstants.{MAX_COUNT, MAX_HELD}
use Rattle.av_parts.specs.declared.word.Unjudged.TheVariants.{Full, Newer}
use Rattle.av_parts.specs.declared.word.Word.{Word}
use Rattle.av_parts.specs.declared.word.Word.TheVariants as word
use Rattle.av_parts.specs.Orders.{Order, Begins, Brings, Ends, Drops}

-- what a map has at a number
abbrev pub at : {X : Type 0} → List (ℕ × X) → ℕ → Option X
at m n = lookup (is_at (nat_cmp n)) m

-- the map with x at a number
abbrev pub with : {X : Type 0} → List (ℕ × X) → ℕ → X → List (ℕ × X)
with m n x = insert_entry nat_cmp m n x

-- the map with nothing at a number
abbrev pub without : {X : Type 0} → List (ℕ × X) → ℕ → List (ℕ × X)
without m n = remove_entry (is_at (nat_cmp n)) m

-- the newest set, the contents that have no verdict, by rising number, each with the scan of what came of it, and the number
-- that was begun last
pub record Judging : Type 0 where
  pub set : Compiled
  pub held : List (ℕ × ScanState)
  pub last : ℕ

-- nothing came
abbrev pub begun : Compiled → Judging
begun set = record { set = set; held = []; last = 0 }

-- what is said, if anything, and the judge after an order; or why no guard sends it
abbrev pub Turn : Type 0
Turn = Result (Option Word × Judging) JudgeFault

-- a content begins by a number above all before; 4,096 are judged at once
abbrev pub begins : Judging → ℕ → Turn
begins j n =
    if nat_le n j.last then Err NotAbove else
    (if nat_lt (length j.held) MAX_HELD
    then Ok (None, record j { held = with j.held n (begin j.set.version MAX_COUNT); last = n })
    else Ok (Some (word.None n Full), record j { last = n }))

-- a scan went on: the hit ends its content
abbrev pub moves : Judging → ℕ → ScanState → Option Verdict → Turn
moves j n s None = Ok (None, record j { held = with j.held n s })
moves j n s (Some Clean) = Ok (None, record j { held = with j.held n s })
moves j n s (Some (Infected index end_at)) = Ok (Some (word.Infected n j.set.version index end_at), record j { held = without j.held n })

-- the scan of a content with more bytes
abbrev pub goes_on : Judging → ScanState → List ℕ → ScanState
goes_on j s some = run j.set.patterns s (fitting s some)

-- some of a content comes; of one that has its verdict it is passed over
abbrev pub brings : Judging → ℕ → List ℕ → Option ScanState → Turn
brings j n some None = Ok (None, j)
brings j n some (Some s) =
    if nat_lt MAX_COUNT (s.fed + length some) then Err TooLong else moves j n (goes_on j s some) (if_found (goes_on j s some))

-- it is whole: as many bytes came as the guard sent
abbrev pub ends : Judging → ℕ → ℕ → Option ScanState → Turn
ends j n count None = Ok (None, j)
ends j n count (Some s) =
    if s.fed == count then Ok (Some (word.Clean n j.set.version count), record j { held = without j.held n }) else Err Count

-- this, if the number was begun
abbrev pub known : Judging → ℕ → Turn → Turn
known j n turn = if nat_le 1 n && nat_le n j.last then turn else Err Unknown

-- what an order does
unfoldable pub obeyed : Judging → Order → Turn
obeyed j (Begins n) = begins j n
obeyed j (Brings n some) = known j n (brings j n some (at j.held n))
obeyed j (Ends n count) = known j n (ends j n count (at j.held n))
obeyed j (Drops n) = known j n (Ok (None, record j { held = without j.held n }))

-- what is said of the contents that a newer set ends: each is to be asked about again
abbrev pub ended_by_newer : List (ℕ × ScanState) → List Word
ended_by_newer held = map (λ e. word.None e.0 Newer) held

-- A newer set comes. A verdict under the one before it would count no more, so each content without one ends.
abbrev pub renewed : Judging → Compiled → Judging
renewed j set = record j { set = set; held = [] }
