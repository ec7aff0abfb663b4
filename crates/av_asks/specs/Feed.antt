use Rattle.std.specs.Prelude.{ℕ, ◌≡◌, ◌==◌, ◌&&◌, ◌+◌, nat_lt, Bool, true, false, List, ◌++◌, length, drop, Option, None, Some, Result, Ok, Err, IsOk, not, if◌then◌else◌}
use Rattle.av_base.specs.declared.refusal.Refusal.{Refusal}
use Rattle.av_base.specs.declared.refusal.Refusal.TheVariants.{Fault, NoMemory}
use Rattle.av_asks.specs.declared.head.Side.TheVariants.{Asks}
use Rattle.av_asks.specs.declared.head.Head.{Head}
use Rattle.av_asks.specs.declared.head.Head.TheVariants as head
use Rattle.av_asks.specs.declared.fault.AskFault.{AskFault}
use Rattle.av_asks.specs.declared.ask.Ask.{Ask}
use Rattle.av_asks.specs.Spelling.{Asked, asked, number4}
use Rattle.av_asks.specs.Head.{head_of}

-- a feed: the bytes that came and were not taken off yet, and whether a fault was met
pub record Fed : Type 0 where
  pub rest : List ℕ
  pub broken : Bool

-- what a push wants: the piece behind what is there; of a broken feed the fault `again`
abbrev pub pushed : {F : Type 0} → F → List ℕ → Fed → Result Fed F
pushed again piece fed = if fed.broken then Err again else Ok (record fed { rest = fed.rest ++ piece })

-- what is given and left, by what stands at the front: a frame is taken off, a fault breaks the feed
abbrev pub by_front : {A F : Type 0} → List ℕ → Result (Option (A × ℕ)) F → Result (Option A) F × Fed
by_front rest (Ok None) = (Ok None, record { rest = rest; broken = false })
by_front rest (Ok (Some (x, size))) = (Ok (Some x), record { rest = drop size rest; broken = false })
by_front rest (Err f) = (Err f, record { rest = rest; broken = true })

-- what `next` answers and leaves, where `front` says what stands at the front; of a broken feed the fault `again`
abbrev pub given : {A F : Type 0} → F → (List ℕ → Result (Option (A × ℕ)) F) → Fed → Result (Option A) F × Fed
given again front fed = if fed.broken then (Err again, fed) else by_front fed.rest (front fed.rest)

-- an ask is there to be given
abbrev pub IsGiven : {A F : Type 0} → Result (Option A) F → Type 0
IsGiven (Ok None) = ⊥
IsGiven (Ok (Some x)) = Unit {0}
IsGiven (Err f) = ⊥

-- a feed of asks gave and left this; memory is refused where an ask is there, and then nothing has changed
abbrev pub GivesAsk : Fed → Fed → Result (Option Ask) (Refusal AskFault) → Result (Option Asked) AskFault × Fed → Type 0
GivesAsk old new (Ok None) wanted = wanted ≡ (Ok None, new)
GivesAsk old new (Ok (Some ask)) wanted = wanted ≡ (Ok (Some (asked ask)), new)
GivesAsk old new (Err (Fault f)) wanted = wanted ≡ (Err f, new)
GivesAsk old new (Err NoMemory) wanted = IsGiven wanted.0 × (new ≡ old)

-- a frame has begun and is not whole
abbrev pub waits : Head → Bool
waits head.Waits = true
waits head.Length = false
waits head.Kind = false
waits (head.Whole size) = false

-- a frame of an ask has begun, nothing is wrong with it so far, and it is not whole
abbrev pub within : Fed → Bool
within fed = not fed.broken && not (length fed.rest == 0) && waits (head_of Asks fed.rest)

-- the bytes that came of the frame at the front, and its length, where that has come
abbrev pub begun : Fed → ℕ × ℕ
begun fed = (length fed.rest, (if nat_lt (length fed.rest) 4 then 0 else number4 fed.rest + 4))

-- what a body was read as, where memory was not refused
abbrev pub IsBody : Result Ask (Refusal AskFault) → Result Asked AskFault → Type 0
IsBody (Ok ask) wanted = wanted ≡ Ok (asked ask)
IsBody (Err (Fault f)) wanted = wanted ≡ Err f
IsBody (Err NoMemory) wanted = IsOk wanted

-- what was found at the front, where memory was not refused; it is refused where an ask stands there
abbrev pub IsFront : Result (Option (Ask × ℕ)) (Refusal AskFault) → Result (Option (Asked × ℕ)) AskFault → Type 0
IsFront (Ok None) wanted = wanted ≡ Ok None
IsFront (Ok (Some (ask, size))) wanted = wanted ≡ Ok (Some (asked ask, size))
IsFront (Err (Fault f)) wanted = wanted ≡ Err f
IsFront (Err NoMemory) wanted = IsGiven wanted
