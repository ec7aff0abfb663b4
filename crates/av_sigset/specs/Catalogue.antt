-- The sets that were published.
use Rattle.std.specs.Prelude.{ℕ, ◌≡◌, ◌<◌, ◌==◌, nat_le, List, [], ◌∷◌, length, reverse, ◌≤◌, Option, None, Some, Result, Ok, Err, IsOk, unwrap_or, slice_index_or, if◌then◌else◌}
use Rattle.std.specs.List.{AllByRecursion}
use Rattle.av_base.specs.declared.refusal.Refusal.{Refusal}
use Rattle.av_base.specs.declared.refusal.Refusal.TheVariants.{Fault, NoMemory}
use Rattle.av_base.specs.declared.refusal.Refused.{Refused}
use Rattle.av_sigset.specs.Set.{IsSet, NumberedSet}
use Rattle.av_sigset.specs.declared.catalogue.TheConstants.{MAX_SETS}
use Rattle.av_sigset.specs.declared.fault.CatalogueFault.{CatalogueFault}
use Rattle.av_sigset.specs.declared.fault.CatalogueFault.TheVariants.{OldVersion, CatalogueFull}

-- the sets that were published, the newest first, and for how many more there is memory
pub record Published : Type 0 where
  pub sets : List NumberedSet
  pub room : ℕ

-- the set of this version
unfoldable pub set_at : List NumberedSet → ℕ → Option NumberedSet
set_at [] version = None
set_at (s ∷ sets) version = if s.version == version then Some s else set_at sets version

-- the version of the newest set
abbrev pub newest : List NumberedSet → Option ℕ
newest [] = None
newest (s ∷ sets) = Some s.version

-- the latest version, or 0
abbrev pub latest : List NumberedSet → ℕ
latest sets = unwrap_or (newest sets) 0

-- each version is above those published before it
abbrev pub IsFalling : List NumberedSet → Type 0
IsFalling [] = Unit {0}
IsFalling (s ∷ sets) = AllByRecursion (λ t. t.version < s.version) sets × IsFalling sets

-- whether a set of this version may be published
abbrev pub may_publish : List NumberedSet → ℕ → Result (Unit {0}) CatalogueFault
may_publish sets version =
    if nat_le version (latest sets) then Err OldVersion else if nat_le MAX_SETS (length sets) then Err CatalogueFull else Ok tt

-- a refused publication changes nothing; memory is refused only where none was reserved
abbrev pub Refuses : Published → Published → Refusal CatalogueFault → Result (Unit {0}) CatalogueFault → Type 0
Refuses old new (Fault f) may = (may ≡ Err f) × (new ≡ old)
Refuses old new NoMemory may = IsOk may × (old.room ≡ 0) × (new ≡ old)

-- a publication puts the set in front, or hands it back
abbrev pub Publishes : Published → Published → NumberedSet → Result (Unit {0}) (Refused NumberedSet CatalogueFault) → Type 0
Publishes old new set (Ok done) = (may_publish old.sets set.version ≡ Ok tt) × (new.sets ≡ set ∷ old.sets)
Publishes old new set (Err refused) = (refused.value ≡ set) × Refuses old new refused.why (may_publish old.sets set.version)

-- no set
abbrev pub no_set : NumberedSet
no_set = record { version = 0; signatures = [] }

-- the version at a place
abbrev pub version_at : List NumberedSet → ℕ → ℕ
version_at sets i = let s = slice_index_or sets i no_set in s.version

-- the versions rise
abbrev pub IsRising : List NumberedSet → Type 0
IsRising sets = (i j : ℕ) → i < j → j < length sets → version_at sets i < version_at sets j

-- the oldest first, the versions rise, each is a set in its ranges, and at most 4,096 are there
pub record IsKept (sets : List NumberedSet) : Type 0 where
  pub rising : IsRising sets
  pub falling : IsFalling (reverse sets)
  pub each : AllByRecursion IsSet (reverse sets)
  pub count : length sets ≤ MAX_SETS

-- a place has this version, or none has
abbrev pub IsPlaceOf : List NumberedSet → ℕ → Option ℕ → Type 0
IsPlaceOf sets version None = (i : ℕ) → i < length sets → version_at sets i ≡ version → ⊥
IsPlaceOf sets version (Some i) = (i < length sets) × (version_at sets i ≡ version)
