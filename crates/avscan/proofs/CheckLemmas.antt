-- Signature files that are good, one after the other.
use Rattle.std.proofs.Common.{ℕ, ◌≡◌, List, [], ◌∷◌, Option, subst}
use Rattle.std.proofs.KnownBytes.{Keeps-trans}
use Rattle.std.specs.Io.KnownBytes.{Keeps}
use Rattle.av_status.specs.Status.{IsFault}
use Rattle.av_status.specs.declared.status.Status.{Status}
use Rattle.av_status.specs.declared.status.Status.TheVariants.{Done}
use Rattle.av_trust.specs.declared.trust.Trust.{Trust}
use Rattle.avscan.specs.Check.{AreGood}

-- a fault is not Done
pub not_done : {A : Type 0} (s : Status) → IsFault s → s ≡ Done → A
not_done s fault done = absurd (subst IsFault done fault)

-- so many files are good, and the others are if those that are left are
abbrev pub AreGoodSoFar : Trust → List (List ℕ) → List (List ℕ) → Option (List ℕ) → Option (List ℕ) → Type 0
AreGoodSoFar trust all left old now = (end : Option (List ℕ)) → AreGood trust left now end → AreGood trust all old end

-- what follows keeps what was written
pub good_kept : (trust : Trust) (names : List (List ℕ)) (old mid new : Option (List ℕ)) → AreGood trust names old mid → Keeps mid new → AreGood trust names old new
good_kept trust [] old mid new good keeps = Keeps-trans old mid new good keeps
good_kept trust (name ∷ names) old mid new good keeps = (good.0, good.1, good_kept trust names good.0 mid new good.2 keeps)
