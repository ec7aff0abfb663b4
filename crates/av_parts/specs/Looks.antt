-- Looks for a newer set, one after another.
use Rattle.std.specs.Prelude.{◌≡◌, List, [], ◌∷◌, Option, None, Some}
use Rattle.av_match.specs.Scanning.{Compiled}

-- what each look will give, where it is known; behind the last of them nothing comes
abbrev pub Looks : Type 0
Looks = Option (List (Option Compiled))

-- a look gave this
abbrev pub IsSeen : Looks → Looks → Option Compiled → Type 0
IsSeen None has seen = Unit {0}
IsSeen (Some []) has seen = (has ≡ Some []) × (seen ≡ None)
IsSeen (Some (next ∷ later)) has seen = (has ≡ Some later) × (seen ≡ next)

-- looks gave these in turn
abbrev pub AreSeen : Looks → Looks → List (Option Compiled) → Type 0
AreSeen had has [] = has ≡ had
AreSeen had has (o ∷ os) = (between : Looks) × IsSeen had between o × AreSeen between has os
