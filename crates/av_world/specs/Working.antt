-- The works of a world.
use Rattle.std.specs.Prelude.{ℕ, ◌≡◌, Option, None, Some}
use Rattle.av_base.specs.declared.port.Port.{Port}
use Rattle.av_service.specs.Work.{WorkState}

-- what is taken from a place: the work that is there, if one is
abbrev pub Lends : Option (Option (Port × WorkState)) → Option (Port × WorkState) → Type 0
Lends None work = work ≡ None
Lends (Some there) work = work ≡ there

-- the port that lent the work at a place, and the version under which it was lent
abbrev pub IsOf : Option (Option (Port × WorkState)) → Port × ℕ → Type 0
IsOf (Some (Some x)) about = about ≡ (x.0, x.1.version)
IsOf (Some None) about = ⊥
IsOf None about = ⊥
