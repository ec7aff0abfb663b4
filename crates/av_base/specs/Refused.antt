-- Refusals: by the fault that a definition names, or for want of memory where it names none.
use Rattle.std.specs.Prelude.{◌≡◌, Option, None, Some, Result, Ok, Err, IsOk}
use Rattle.av_base.specs.declared.refusal.Refusal.{Refusal}
use Rattle.av_base.specs.declared.refusal.Refusal.TheVariants.{Fault, NoMemory}

-- a call stops at the fault that is wanted, or for memory where none is
abbrev pub IsRefusal : {A F : Type 0} → Refusal F → Result A F → Type 0
IsRefusal (Fault f) wanted = wanted ≡ Err f
IsRefusal NoMemory wanted = IsOk wanted

-- a fault is why a call is refused; none is given of one that is accepted
abbrev pub IsFaultOf : {A F : Type 0} → Result A F → Option F → Type 0
IsFaultOf wanted None = IsOk wanted
IsFaultOf wanted (Some f) = wanted ≡ Err f

-- this value, where there is no fault
abbrev pub unless : {A F : Type 0} → Option F → A → Result A F
unless None x = Ok x
unless (Some f) x = Err f

-- what a function makes of an accepted value; a fault stays
abbrev pub map_ok : {A B F : Type 0} → (A → B) → Result A F → Result B F
map_ok h (Ok x) = Ok (h x)
map_ok h (Err f) = Err f
