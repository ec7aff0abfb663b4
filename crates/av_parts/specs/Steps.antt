-- Steps of a service over a connection.
use Rattle.std.specs.Prelude.{ℕ, ◌≡◌, ◌≢◌, ◌≤◌, List, [], ◌∷◌, ◌++◌, drop, length, map, take, Option, None, Some, Ok, Err}
use Rattle.std.specs.Io.KnownBytes.{Appends, Consumes, IsAtEnd}
use Rattle.std.specs.List.{flat_map}
use Rattle.av_match.specs.Scanning.{Compiled}
use Rattle.av_parts.specs.declared.ended.Ended.{Ended}
use Rattle.av_parts.specs.declared.ended.Ended.TheVariants as ended
use Rattle.av_parts.specs.declared.word.Word.{Word}
use Rattle.av_parts.specs.Course.{Happening, Comes, judged}
use Rattle.av_parts.specs.Heard.{Hearing, fresh, heard_of}
use Rattle.av_parts.specs.Judge.{Judging, obeyed}
use Rattle.av_parts.specs.Listening.{after}
use Rattle.av_parts.specs.Looks.{AreSeen, IsSeen, Looks}
use Rattle.av_parts.specs.Orders.{Order, bytewise}
use Rattle.av_parts.specs.Serving.{AreHeard, EndsAs, IsWithin, Read, StopsAt, bytes_of, frames_of, happened, newer_of, renewal}

-- these happen, and the frames of what is said wait behind those that waited
pub record Leads (happenings : List Happening) (old new : Judging) (waited waits : List ℕ) : Type 0 where
  pub words : List Word
  pub said : judged happenings old [] ≡ Ok (new, words)
  pub waiting : waits ≡ waited ++ frames_of words

-- why an order is not obeyed
abbrev pub RefusesAs : Ended → Judging → Order → Type 0
RefusesAs (ended.Judge f) j order = obeyed j order ≡ Err f
RefusesAs ended.Memory j order = Unit {0}
RefusesAs _ j order = ⊥

-- so many bytes of a piece were heard, and the orders that they told were obeyed
pub record HearsFront (taken : ℕ) (piece : List ℕ) (was now : Hearing) (old new : Judging) (waited waits : List ℕ) : Type 0 where
  pub orders : List Order
  pub heard : after (flat_map bytewise orders) (heard_of (drop taken piece) now) ≡ heard_of piece was
  pub leads : Leads (map Comes orders) old new waited waits

-- orders of a piece were obeyed, and behind them it told these
pub record Obeys (piece : List ℕ) (was : Hearing) (old new : Judging) (waited waits : List ℕ) (more : List Order) : Type 0 where
  pub orders : List Order
  pub told : (heard_of piece was).1 ≡ flat_map bytewise orders ++ more
  pub leads : Leads (map Comes orders) old new waited waits

-- it stopped amid a piece
abbrev pub StopsAmid : Ended → List ℕ → Hearing → Judging → List ℕ → List ℕ → Type 0
StopsAmid end piece was old waited waits =
    (more : List Order) × (j : Judging) × Obeys piece was old j waited waits more × StopsAt end more (heard_of piece was).0 j

-- Reads, and what came of them. The frames that were written and those that are due are the frames of what is said.
pub record Goes (reads : List Read) (more : List Order) (was now : Hearing) (old new : Judging) (waited due : List ℕ) (had has : Looks)
    (input rest held holds : Option (List ℕ)) : Type 0 where
  pub heard : AreHeard was reads now more
  pub came : Consumes input rest (bytes_of reads)
  pub looked : AreSeen had has (newer_of reads)
  pub words : List Word
  pub said : judged (flat_map happened reads) old [] ≡ Ok (new, words)
  pub written : List ℕ
  pub went : Appends held holds written
  pub text : waited ++ frames_of words ≡ written ++ due

-- What waits of the frames that are due: all; none where a write failed; a front where memory was refused.
abbrev pub IsLeft : Ended → List ℕ → List ℕ → Type 0
IsLeft ended.WriteFault due waits = waits ≡ []
IsLeft ended.Memory due waits = (lost : List ℕ) × (due ≡ waits ++ lost)
IsLeft _ due waits = waits ≡ due

-- reads went on, at most so many, and ended so
pub record Stops (end : Ended) (turns : ℕ) (was : Hearing) (old : Judging) (waited waits : List ℕ) (had has : Looks)
    (input rest held holds : Option (List ℕ)) : Type 0 where
  pub reads : List Read
  pub more : List Order
  pub now : Hearing
  pub judge : Judging
  pub due : List ℕ
  pub goes : Goes reads more was now old judge waited due had has input rest held holds
  pub few : IsWithin end (length reads) turns
  pub left : IsLeft end due waits
  pub ends : EndsAs end more now judge rest

-- a look for a newer set, which comes if there is one
pub record LooksUp (had has : Looks) (old new : Judging) (waited waits : List ℕ) : Type 0 where
  pub newer : Option Compiled
  pub seen : IsSeen had has newer
  pub leads : Leads (renewal newer) old new waited waits

-- memory was refused to a newer set that came
pub record FailsToRenew (had has : Looks) (waited waits : List ℕ) : Type 0 where
  pub newer : Option Compiled
  pub seen : IsSeen had has newer
  pub same : waits ≡ waited

-- a read gave no bytes since the guard closed the connection
abbrev pub IsClosed : Option (List ℕ) → Option (List ℕ) → Type 0
IsClosed input rest = Consumes input rest [] × IsAtEnd rest

-- what a read gave: these bytes, none where it is to be made again, or the end
abbrev pub Gives : Option (List ℕ) → Option (List ℕ) → List ℕ → Option ℕ → Type 0
Gives input rest buffer (Some count) = (count ≤ length buffer) × Consumes input rest (take count buffer)
Gives input rest buffer None = IsClosed input rest

-- a read failed
abbrev pub IsUnread : Ended → Type 0
IsUnread ended.ReadFault = Unit {0}
IsUnread ended.Idle = Unit {0}
IsUnread _ = ⊥

-- the end of a connection that the guard closed
abbrev pub ClosesAs : Ended → Hearing → Type 0
ClosesAs ended.Done now = now ≡ fresh
ClosesAs ended.Cut now = now ≢ fresh
ClosesAs _ now = ⊥

-- a read, and what came of it
abbrev pub GoesOn : Hearing → Hearing → Judging → Judging → List ℕ → List ℕ → Looks → Looks → Option (List ℕ) → Option (List ℕ)
    → Option (List ℕ) → Option (List ℕ) → Type 0
GoesOn was now old new waited waits had has input rest held holds =
    (r : Read) × Goes (r ∷ []) [] was now old new waited waits had has input rest held holds
