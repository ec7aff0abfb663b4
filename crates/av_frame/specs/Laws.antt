use Rattle.std.specs.Prelude.{ℕ, ◌≡◌, ◌↔◌, ◌<◌, List, [], ◌++◌, Ok, Some, slice_index}
use Rattle.std.specs.List.{flat_map, AllByRecursion}
use Rattle.av_frame.specs.declared.fault.FrameFault.{FrameFault}
use Rattle.av_frame.specs.Message.{IsLetter, Letter}
use Rattle.av_frame.specs.Spelling.{frame, spelling, Spells}
use Rattle.av_frame.specs.Reading.{decoded}
use Rattle.av_frame.specs.Frames.{Frames, AreFrames, Ends, frames_of}

-- the numbers of a list are bytes
abbrev pub AreBytes : List ℕ → Type 0
AreBytes bytes = (i : ℕ) → slice_index bytes i < 256

-- a message that is spelled and read again is the message
abbrev pub IsReadBack : Type 0
IsReadBack = (m : Letter) → IsLetter m → decoded (spelling m) ≡ Ok m

-- reading finds a message exactly for its spelling
abbrev pub ReadsSpellings : Type 0
ReadsSpellings = (body : List ℕ) → AreBytes body → (m : Letter) → (decoded body ≡ Ok m) ↔ Spells body m

-- a message has one spelling, and a spelling one message
abbrev pub HasOneSpelling : Type 0
HasOneSpelling = (m : Letter) (one other : List ℕ) → Spells one m → Spells other m → one ≡ other

-- a body spells one message at most
abbrev pub SpellsOneMessage : Type 0
SpellsOneMessage = (body : List ℕ) (one other : Letter) → Spells body one → Spells body other → one ≡ other

-- no frame is a proper beginning of another
abbrev pub NoFrameBeginsAnother : Type 0
NoFrameBeginsAnother =
    (m n : Letter) (more : List ℕ) → IsLetter m → IsLetter n → frame n ≡ frame m ++ more → (m ≡ n) × (more ≡ [])

-- bytes that begin with a frame begin with no other one
abbrev pub BeginsWithOneFrame : Type 0
BeginsWithOneFrame =
    (m n : Letter) (x y : List ℕ) → IsLetter m → IsLetter n → frame m ++ x ≡ frame n ++ y → (m ≡ n) × (x ≡ y)

-- bytes spell one list of frames, which is the one that is computed
abbrev pub SpellsOneList : Type 0
SpellsOneList = (bytes : List ℕ) → AreBytes bytes → (frames : Frames) → AreFrames bytes frames ↔ (frames_of bytes ≡ frames)

-- a fault stays where it is, whatever comes behind it
abbrev pub FaultStays : Type 0
FaultStays = (rest more : List ℕ) (f : FrameFault) → Ends rest (Some f) → Ends (rest ++ more) (Some f)

-- messages that were taken off the front are the first ones, and what is left gives the others
abbrev pub FramesGoOn : Type 0
FramesGoOn =
    (taken : List Letter) (rest : List ℕ) → AllByRecursion IsLetter taken → AreBytes rest
    → frames_of (flat_map frame taken ++ rest) ≡ record (frames_of rest) { messages = taken ++ (frames_of rest).messages }
