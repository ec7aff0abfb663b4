-- What keeping a content answers.
use Rattle.std.specs.Prelude.{◌≡◌, ℕ, ◌+◌, List, [], ◌∷◌, ◌++◌, None, Result, Ok, Err, is_some, true}
use Rattle.std.specs.Result.{result_err}
use Rattle.av_base.specs.declared.refusal.Refusal.{Refusal}
use Rattle.av_base.specs.declared.refusal.Refusal.TheVariants.{Fault, NoMemory}
use Rattle.av_filter.specs.Storing.{stream_with}
use Rattle.av_guard.specs.Asking.{IsThere, kept, opens, spent}
use Rattle.av_guard.specs.Place.{Unused}
use Rattle.av_guard.specs.declared.given.GuardOut.{GuardOut}
use Rattle.av_guard.specs.State.{Gives, State}
use Rattle.av_guard.specs.declared.fault.AskFault.{AskFault}
use Rattle.av_guard.specs.declared.fault.AskFault.TheVariants.{Full}
use Rattle.av_store.specs.Store.{create_of}

-- it is kept, in a stream of the next number
pub record IsIn (old new : State) (name c : List ℕ) (s : ℕ) : Type 0 where
  pub number : s ≡ old.volume.last + 1
  pub state : new ≡ kept old name c
  pub streams : new.volume.streams ≡ old.volume.streams ++ (s, stream_with name c) ∷ []
  pub opens : new.volume.opens ≡ old.volume.opens
  pub creates : result_err (create_of old.volume name) ≡ None

-- nothing has changed, or the number of a stream is spent
pub data IsNotIn (old new : State) : Type 0 where
  Same : new ≡ old → IsNotIn old new
  Spent : new ≡ spent old → IsNotIn old new

-- a content is kept, or the volume refuses a stream more, or memory is refused
abbrev pub IsKeptBy : State → State → List ℕ → List ℕ → Result ℕ (Refusal AskFault) → Type 0
IsKeptBy old new name c (Ok s) = IsIn old new name c s
IsKeptBy old new name c (Err (Fault f)) = (f ≡ Full) × (is_some (result_err (create_of old.volume name)) ≡ true) × (new ≡ old)
IsKeptBy old new name c (Err NoMemory) = (result_err (create_of old.volume name) ≡ None) × IsNotIn old new

-- A content was asked about under a free name. Where memory was refused, nothing has changed, or a number is spent, or the
-- content is kept.
pub data IsLeft (old new : State) (name c : List ℕ) : Type 0 where
  Never : result_err (create_of old.volume name) ≡ None → IsNotIn old new → IsLeft old new name c
  Stays : IsThere old c (Unused name) → new ≡ kept old name c → IsLeft old new name c

-- it is kept and opened, or the volume refuses a stream more, or memory is refused
abbrev pub AsksNew : State → State → ℕ → ℕ → List ℕ → List ℕ → Result GuardOut (Refusal AskFault) → Type 0
AsksNew old new client tag name c (Ok given) =
    IsThere old c (Unused name) × Gives given new (opens (kept old name c) (old.volume.last + 1) client tag)
AsksNew old new client tag name c (Err (Fault f)) = (f ≡ Full) × (is_some (result_err (create_of old.volume name)) ≡ true) × (new ≡ old)
AsksNew old new client tag name c (Err NoMemory) = IsLeft old new name c
