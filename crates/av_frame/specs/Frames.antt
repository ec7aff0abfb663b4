use Rattle.std.specs.Prelude.{ℕ, zero, suc, ◌≡◌, List, [], ◌∷◌, ◌++◌, length, drop, Option, None, Some, Result, Ok, Err}
use Rattle.std.specs.List.{flat_map, AllByRecursion}
use Rattle.av_frame.specs.declared.fault.FrameFault.{FrameFault}
use Rattle.av_frame.specs.Message.{IsLetter, Letter}
use Rattle.av_frame.specs.Spelling.{frame}
use Rattle.av_frame.specs.Feed.{front_of}

-- what a string of bytes spells as frames: messages, then a rest that begins with no whole frame, and the fault that
-- stands there, if one does
pub record Frames : Type 0 where
  pub messages : List Letter
  pub rest : List ℕ
  pub fault : Option FrameFault

-- with this rest no further message comes: it is less than a frame, or this fault
abbrev pub Ends : List ℕ → Option FrameFault → Type 0
Ends rest None = front_of rest ≡ Ok None
Ends rest (Some f) = front_of rest ≡ Err f

-- the bytes are these frames one behind the other, and end so
pub record AreFrames (bytes : List ℕ) (frames : Frames) : Type 0 where
  pub whole : bytes ≡ flat_map frame frames.messages ++ frames.rest
  pub in_range : AllByRecursion IsLetter frames.messages
  pub ends : Ends frames.rest frames.fault

-- a message in front of frames
abbrev pub onto : Letter → Frames → Frames
onto m frames = record frames { messages = m ∷ frames.messages }

-- the frames of bytes by what stands at their front, `others` being those of what follows a message
abbrev pub by_front : (List ℕ → Frames) → List ℕ → Result (Option (Letter × ℕ)) FrameFault → Frames
by_front others bytes (Ok None) = record { messages = []; rest = bytes; fault = None }
by_front others bytes (Ok (Some (m, size))) = onto m (others (drop size bytes))
by_front others bytes (Err f) = record { messages = []; rest = bytes; fault = Some f }

-- the frames of bytes, in at most so many steps
unfoldable pub frames_within : ℕ → List ℕ → Frames
frames_within zero bytes = record { messages = []; rest = bytes; fault = None }
frames_within (suc turns) bytes = by_front (frames_within turns) bytes (front_of bytes)

-- the frames of bytes: no frame is empty, so as many steps as there are bytes are enough
abbrev pub frames_of : List ℕ → Frames
frames_of bytes = frames_within (length bytes) bytes

-- the bytes of pieces one behind the other
abbrev pub joined : List (List ℕ) → List ℕ
joined [] = []
joined (piece ∷ pieces) = piece ++ joined pieces
