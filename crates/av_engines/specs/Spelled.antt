-- What an engine had of its input and what of its text went out, by its end.
use Rattle.std.specs.Prelude.{ℕ, ◌≡◌, ◌*◌, ◌≤◌, List, ◌++◌, length, Option, None, Some, IfSome}
use Rattle.std.specs.Io.KnownBytes.{Appends}
use Rattle.std.specs.List.{flat_map, AllByRecursion}
use Rattle.av_base.specs.Device.{AppendsPrefix}
use Rattle.av_frame.specs.declared.end.End.{End}
use Rattle.av_frame.specs.declared.end.End.TheVariants.{WriteFault, Frame, Closed, Memory, AuditFull}
use Rattle.av_engines.specs.declared.incoming.TheConstants.{PIECE}
use Rattle.av_frame.specs.declared.fault.FrameFault.{FrameFault}
use Rattle.av_frame.specs.Frames.{AreFrames}
use Rattle.av_frame.specs.Message.{IsLetter, Letter}
use Rattle.av_frame.specs.Spelling.{frame}

-- bytes spell these messages first
pub record SpellsFirst (messages : List Letter) (bytes : List ℕ) : Type 0 where
  pub more : List ℕ
  pub whole : bytes ≡ flat_map frame messages ++ more
  pub in_range : AllByRecursion IsLetter messages

-- bytes spell these messages, and behind them no whole frame
abbrev pub SpellsAll : List Letter → List ℕ → Type 0
SpellsAll messages bytes = (rest : List ℕ) × AreFrames bytes (record { messages = messages; rest = rest; fault = None })

-- bytes spell these messages, and behind them there is a fault
abbrev pub SpellsUpToFault : List Letter → List ℕ → Type 0
SpellsUpToFault messages bytes =
    (rest : List ℕ) × (f : FrameFault) × AreFrames bytes (record { messages = messages; rest = rest; fault = Some f })

-- The messages that were handled are the first that the input spells, where the input is known: all of them where it ended,
-- and all before a fault.
abbrev pub AreSpelled : End → Option (List ℕ) → List Letter → Type 0
AreSpelled Closed input messages = IfSome input (SpellsAll messages)
AreSpelled Frame input messages = IfSome input (SpellsUpToFault messages)
AreSpelled AuditFull input messages = ⊥
AreSpelled _ input messages = IfSome input (SpellsFirst messages)

-- the frames of these messages came in at most so many reads
abbrev pub CameIn : ℕ → List Letter → Type 0
CameIn turns messages = length (flat_map frame messages) ≤ PIECE * turns

-- the text went out; a front of it where a write failed or memory was refused
abbrev pub IsSent : End → Option (List ℕ) → Option (List ℕ) → List ℕ → Type 0
IsSent WriteFault held holds text = AppendsPrefix held holds text
IsSent Memory held holds text = AppendsPrefix held holds text
IsSent _ held holds text = Appends held holds text
