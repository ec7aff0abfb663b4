-- The second connection of the scanning service.
use Rattle.std.specs.Prelude.{ℕ, ◌≡◌, ◌≤◌, ◌==◌, Bool, false, not, nat_le, nat_lt, List, length, drop, Option, None, Some}
use Rattle.std.specs.declared.time.Duration.{Duration}
use Rattle.av_large.specs.Calls.{number_of}
use Rattle.av_parts.specs.Listening.{after}
use Rattle.av_parts.specs.WordsHeard.{Attending, fresh, heard_of, said_list}
use Rattle.av_parts.specs.declared.word.Said.{Said}
use Rattle.av_parts.specs.declared.word.Said.TheVariants as said
use Rattle.av_parts.specs.declared.word.Word.{Word}
use Rattle.av_parts.specs.declared.word.Word.TheVariants as word
use Rattle.av_peers.specs.Line.{unsent}
use Rattle.av_peers.specs.Service.{first_since}
use Rattle.av_peers.specs.declared.line.Connection.{Connection}
use Rattle.av_peers.specs.declared.parts.Parts.{Parts}

-- one that came at this moment, and is waited for to greet
abbrev pub came : Connection → Duration → Parts
came line now = record { line = line; reader = fresh; since = Some now; version = None; is_sending = false }

-- 262,144 bytes wait to go out, or more: no client within a content is read
abbrev pub is_full : Parts → Bool
is_full p = nat_le 262_144 (length (unsent p.line))

-- more than 1,048,576 bytes wait: the connection is given up
abbrev pub is_spent : Parts → Bool
is_spent p = nat_lt 1_048_576 (length (unsent p.line))

-- since when it is waited for: to take what it is sent, or to greet
abbrev pub waited_since : Parts → Option Duration
waited_since p = first_since p.line.since p.since

-- another one may take its place where it named a version that is not the floor
abbrev pub yields : Option ℕ → ℕ → Bool
yields None floor = false
yields (Some version) floor = not (version == floor)

-- since when a greeting is waited for, after this was said
abbrev pub greeting_since : Option Duration → Option Said → Option Duration
greeting_since since None = since
greeting_since since (Some (said.Hello version)) = None
greeting_since since (Some (said.Of w)) = since

-- the version that was named last, after this was said: a greeting names one, and each verdict
abbrev pub named_by : Option ℕ → Word → Option ℕ
named_by version (word.Clean n v count) = Some v
named_by version (word.Infected n v index end) = Some v
named_by version (word.None n why) = version

abbrev pub named : Option ℕ → Option Said → Option ℕ
named version None = version
named version (Some (said.Hello v)) = Some v
named version (Some (said.Of w)) = named_by version w

-- the number of the content that a word is of
abbrev pub word_number : Word → ℕ
word_number w = number_of w

-- What it says next, with so many bytes of a piece: that, and then what the rest of the piece says, is what the whole piece says.
abbrev pub HearsWord : Option Said → ℕ → List ℕ → Attending → Attending → Type 0
HearsWord heard taken piece old new =
    (after (said_list heard) (heard_of (drop taken piece) new) ≡ heard_of piece old) × (taken ≤ length piece) × (1 ≤ length piece → 1 ≤ taken)
