-- Why an engine ended, by what its reader and its writer keep of their calls.
use Rattle.std.specs.Prelude.{ℕ, ◌≡◌, ◌⊎◌, Bool, true}
use Rattle.av_base.specs.Recorded.{IsReadFault}
use Rattle.av_frame.specs.declared.end.End.{End}
use Rattle.av_frame.specs.declared.end.End.TheVariants.{ReadFault, WriteFault}

-- a fault of reading comes where the last read failed, or where none is left of those that were allowed
abbrev pub IsOfReader : End → Bool → ℕ → Type 0
IsOfReader ReadFault failed left = (failed ≡ true) ⊎ (left ≡ 0)
IsOfReader _ failed left = Unit {0}

-- a fault of writing comes where the last write or flush failed, or took no byte
abbrev pub IsOfWriter : End → Bool → Type 0
IsOfWriter WriteFault failed = failed ≡ true
IsOfWriter _ failed = Unit {0}

-- a fault of reading comes where the last read failed, or where so many were made between these counts
abbrev pub IsOfReads : End → Bool → ℕ → ℕ → ℕ → Type 0
IsOfReads ReadFault failed allowed before after = IsReadFault failed allowed before after
IsOfReads _ failed allowed before after = Unit {0}
