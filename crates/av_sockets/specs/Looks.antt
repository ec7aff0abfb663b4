-- When a file that others write is read again.
use Rattle.std.specs.Prelude.{◌≡◌, Option, None, IsSome}
use Rattle.av_sockets.specs.declared.looks.Look.{Look}
use Rattle.av_sockets.specs.declared.looks.Looks.{Looks}

-- no look yet
abbrev pub first : Option Look → Looks
first taken = record { taken = taken; last = None }

-- it is there, as it was at the look before, and not as it was where it was taken last
abbrev pub IsSettled : Looks → Option Look → Type 0
IsSettled looks now = IsSome now × (now ≡ looks.last) × ¬ (now ≡ looks.taken)
