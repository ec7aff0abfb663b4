use Rattle.std.specs.Prelude.{ℕ, ◌≡◌, ◌+◌, ◌==◌, ◌||◌, Bool, true, false, List, ◌++◌, length, take, drop, Option, None, Some, Result, Ok, Err, nat_lt, if◌then◌else◌}
use Rattle.av_base.specs.declared.refusal.Refusal.{Refusal}
use Rattle.av_base.specs.declared.refusal.Refusal.TheVariants.{Fault, NoMemory}
use Rattle.av_frame.specs.declared.sizes.TheConstants.{MAX_BODY}
use Rattle.av_frame.specs.declared.fault.FrameFault.{FrameFault}
use Rattle.av_frame.specs.declared.fault.FrameFault.TheVariants.{Length}
use Rattle.av_frame.specs.declared.fault.FeedFault.{FeedFault}
use Rattle.av_frame.specs.declared.fault.FeedFault.TheVariants.{Broken, Frame}
use Rattle.av_frame.specs.Message.{IsLetter, Letter}
use Rattle.av_frame.specs.Reading.{number4, decoded}
use Rattle.av_frame.specs.Spelling.{frame}
use Rattle.av_base.specs.Refused.{map_ok}

-- a feed: the bytes that came and were not taken off yet, and whether a fault was met
pub record Fed : Type 0 where
  pub rest : List ℕ
  pub broken : Bool

-- a message, with how many bytes its frame takes
abbrev pub with_size : ℕ → Result Letter FrameFault → Result (Option (Letter × ℕ)) FrameFault
with_size size message = map_ok (λ m. Some (m, size)) message

-- what stands at the front: a message, nothing as long as its frame isn't whole, or a fault. A length of 0 or of more
-- than a body has at most is a fault as soon as its four bytes are there, every other fault is one once the whole body is.
unfoldable pub front_of : List ℕ → Result (Option (Letter × ℕ)) FrameFault
front_of rest =
    if nat_lt (length rest) 4 then Ok None else
    (if number4 rest 0 == 0 || nat_lt MAX_BODY (number4 rest 0) then Err Length else
    (if nat_lt (length rest) (4 + number4 rest 0) then Ok None else
    with_size (4 + number4 rest 0) (decoded (take (number4 rest 0) (drop 4 rest)))))

-- what a push wants: the piece behind what is there
abbrev pub pushed : List ℕ → Fed → Result Fed FeedFault
pushed piece fed = if fed.broken then Err Broken else Ok (record fed { rest = fed.rest ++ piece })

-- a message's frame stands at the front
abbrev pub BeginsWithFrame : List ℕ → Type 0
BeginsWithFrame bytes = (m : Letter) × (more : List ℕ) × IsLetter m × (bytes ≡ frame m ++ more)

-- what `next` answers and leaves, by what stands at the front
abbrev pub GivesNext : Fed → Fed → Result (Option Letter) (Refusal FeedFault) → Type 0
GivesNext old new (Ok (Some m)) =
    (old.broken ≡ false) × IsLetter m × (old.rest ≡ frame m ++ new.rest) × (new.broken ≡ false)
GivesNext old new (Ok None) = (old.broken ≡ false) × (front_of old.rest ≡ Ok None) × (new ≡ old)
GivesNext old new (Err (Fault Broken)) = (old.broken ≡ true) × (new ≡ old)
GivesNext old new (Err (Fault (Frame f))) =
    (old.broken ≡ false) × (front_of old.rest ≡ Err f) × (new ≡ record old { broken = true })
GivesNext old new (Err NoMemory) =
    (old.broken ≡ false) × BeginsWithFrame old.rest × (new ≡ old)
