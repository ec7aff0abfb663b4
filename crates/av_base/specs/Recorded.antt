-- What is kept of a reader's or writer's calls.
use Rattle.std.specs.Prelude.{ℕ, ◌≡◌, ◌+◌, ◌-◌, ◌^◌, ◌≤◌, ◌⊎◌, min, Bool, true, false, Result, Ok, Err, zero, suc}

-- one more call, as far as calls are counted
abbrev pub counted : ℕ → ℕ
counted calls = min (calls + 1) (2 ^ 64 - 1)

-- so many calls are left of those that were allowed: the others were made between these two counts, as far as calls are counted
abbrev pub AreLeft : ℕ → ℕ → ℕ → ℕ → Type 0
AreLeft allowed before after left = min (before + allowed) (2 ^ 64 - 1) ≤ after + left

-- a reader failed: its last read did, or as many were made as were allowed
abbrev pub IsReadFault : Bool → ℕ → ℕ → ℕ → Type 0
IsReadFault failed allowed before after = (failed ≡ true) ⊎ AreLeft allowed before after 0

-- a write failed, or took no byte
abbrev pub has_taken_none : {E : Type 0} → Result ℕ E → Bool
has_taken_none (Ok zero) = true
has_taken_none (Ok (suc n)) = false
has_taken_none (Err e) = true
