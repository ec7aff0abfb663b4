-- A file as a stream of a volume.
use Rattle.std.specs.Prelude.{ℕ, ◌≡◌, ⊤, List, Option, None, Some, Result, Ok, Err, if◌then◌else◌, nat_lt, not}
use Rattle.std.specs.Borrow.{Bor}
use Rattle.std.specs.BTreeSet.{BTreeSet, contains, insert_key}
use Rattle.std.specs.Cmp.Lexicographic.{slice_cmp}
use Rattle.std.specs.Ordering.{nat_cmp}
use Rattle.std.specs.declared.cmp.Ordering.{Ordering}
use Rattle.av_base.specs.Limits.{greatest_values}
use Rattle.av_status.specs.declared.status.Status.{Status}
use Rattle.av_status.specs.declared.status.Status.TheVariants.{Refused, Memory, Device}
use Rattle.av_store.specs.Store.{Store, create_of, is_name, write_of}
use Rattle.av_store.specs.declared.fault.StoreFault.{StoreFault}
use Rattle.av_store.specs.declared.fault.StoreFault.TheVariants.{BadName, Exists, TooLarge}

-- a stream of this name was created and its content, which was read, written
abbrev pub HasFile : Store → Store → List ℕ → Option (List ℕ) → Type 0
HasFile old new name None = ⊥
HasFile old new name (Some content) =
    (number : ℕ) × (created : Store) × (create_of old name ≡ Ok (number, created)) × (write_of created number 0 content ≡ Ok new)

-- names in the order of their bytes
abbrev pub by_bytes : Bor (List ℕ) → Bor (List ℕ) → Ordering
by_bytes one other = slice_cmp nat_cmp one.now other.now

-- the names that were seen, with that of a file of this length, or the first fault for which it can be no stream beside them
abbrev pub joined_of : BTreeSet (Bor (List ℕ)) → Bor (List ℕ) → ℕ → Result (List (Bor (List ℕ))) StoreFault
joined_of seen name length =
    if not (is_name name.now) then Err BadName else
    (if contains by_bytes seen name then Err Exists else
    (if nat_lt greatest_values.length length then Err TooLarge else
    Ok (insert_key by_bytes seen.keys name)))

-- a fault of the volume is a refusal of the input
abbrev pub or_refused : {A : Type 0} → Result A StoreFault → Result A Status
or_refused (Ok x) = Ok x
or_refused (Err fault) = Err Refused

-- what a look at a file makes of the names that were seen: a file that can't be opened has no length
abbrev pub looked_of : BTreeSet (Bor (List ℕ)) → Bor (List ℕ) → Option ℕ → Result (List (Bor (List ℕ))) Status
looked_of seen name None = Err Device
looked_of seen name (Some length) = or_refused (joined_of seen name length)

-- a call stops with this status: for want of memory, or as is wanted
abbrev pub IsStop : {A : Type 0} → Status → Result A Status → Type 0
IsStop Memory wanted = ⊤
IsStop s wanted = wanted ≡ Err s

-- the input was refused, or there was no memory to tell why
abbrev pub IsRefused : Status → Type 0
IsRefused Refused = ⊤
IsRefused Memory = ⊤
IsRefused s = ⊥
