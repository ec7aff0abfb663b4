-- What a client asks, and where its answers stand.
use Rattle.std.specs.Io.KnownBytes.{IsAtEnd}
use Rattle.std.specs.Prelude.{ℕ, ◌≡◌, ◌+◌, ◌⊎◌, Bool, false, true, List, [], ◌∷◌, ◌++◌, length, take, Option, None, Some, slice_get, slice_set}
use Rattle.av_asks.specs.Spelling as ask
use Rattle.av_asks.specs.declared.answer.OpenAnswer.{OpenAnswer}
use Rattle.av_asks.specs.declared.answer.OpenAnswer.TheVariants as open_answer
use Rattle.av_asks.specs.declared.content_answer.ContentAnswer.{ContentAnswer}
use Rattle.av_asks.specs.declared.content_answer.ContentAnswer.TheVariants as content_answer
use Rattle.av_asks.specs.declared.large_answer.LargeAnswer.{LargeAnswer}
use Rattle.av_asks.specs.declared.large_answer.LargeAnswer.TheVariants as large_answer
use Rattle.av_client.specs.declared.reply.Reply.{Reply}
use Rattle.av_client.specs.declared.reply.Reply.TheVariants.{Open, Large}
use Rattle.av_pend.specs.Pend.{open_of}
use Rattle.av_pend.specs.declared.answer.Answer.{Answer}
use Rattle.av_pend.specs.declared.answer.Answer.TheVariants.{Granted, Denied, Unscanned}
use Rattle.av_sockets.specs.declared.fault.SocketFault.{SocketFault}
use Rattle.av_sockets.specs.declared.fault.SocketFault.TheVariants.{GuardLost, NoGuard, NotAllowed}

-- no guard listened in time, it may not be reached, or it was lost at once
abbrev pub IsGuardless : SocketFault → Type 0
IsGuardless fault = (fault ≡ NotAllowed) ⊎ ((fault ≡ NoGuard) ⊎ (fault ≡ GuardLost))

-- the ask of a content: its tag is its place among those that were asked before, and its label what fits of its name
abbrev pub ask_of : ℕ → List ℕ → List ℕ → ask.Asked
ask_of place name content = record { tag = place; label = take 255 name; content = content }

-- an answer as an open's, under the tag as the open's number
abbrev pub answer_of : OpenAnswer → Answer
answer_of (open_answer.Granted tag generation version) = Granted tag 0 0 generation version
answer_of (open_answer.Denied tag cause) = Denied tag cause
answer_of (open_answer.Unscanned tag generation cause) = Unscanned tag 0 generation cause

-- the tag under which a content in parts was not judged
abbrev pub large_tag : LargeAnswer → ℕ
large_tag (large_answer.Denied tag cause) = tag
large_tag (large_answer.Unscanned tag generation cause) = tag

-- the tag of a reply
abbrev pub tag_of : Reply → ℕ
tag_of (Open a) = open_of a
tag_of (Large a) = large_tag a

-- an answer with its tag
abbrev pub told_of : ContentAnswer → ℕ × Reply
told_of (content_answer.Open a) = (open_of (answer_of a), Open (answer_of a))
told_of (content_answer.Large a) = (large_tag a, Large a)

-- an answer stands at the place of its tag, where none stood
abbrev pub IsKept : List (Option Reply) → List (Option Reply) → ℕ × Reply → Type 0
IsKept old new (tag, answer) = (slice_get old tag ≡ Some None) × (new ≡ slice_set old tag (Some answer))

-- an answer that stood at a place stands there still
abbrev pub Stays : List (Option Reply) → List (Option Reply) → Type 0
Stays old new = (place : ℕ) (a : Reply) → slice_get old place ≡ Some (Some a) → slice_get new place ≡ Some (Some a)

-- each answer stands at the place of its tag
abbrev pub AreAtTheirTags : List (Option Reply) → Type 0
AreAtTheirTags answers = (place : ℕ) (a : Reply) → slice_get answers place ≡ Some (Some a) → tag_of a ≡ place

-- what is heard adds answers alone, each at the place of its tag
pub record Hears (old new : List (Option Reply)) : Type 0 where
  pub places : length new ≡ length old
  pub stays : Stays old new
  pub tags : AreAtTheirTags old → AreAtTheirTags new

-- how many contents have no answer
abbrev pub unanswered : List (Option Reply) → ℕ
unanswered [] = 0
unanswered (None ∷ answers) = unanswered answers + 1
unanswered (Some answer ∷ answers) = unanswered answers

-- an answer is owed for each content that has none
abbrev pub IsOwedEach : ℕ → List (Option Reply) → Type 0
IsOwedEach owed answers = owed ≡ unanswered answers

-- the answer at a place has come
abbrev pub HasAnswer : List (Option Reply) → ℕ → Type 0
HasAnswer answers place = (a : Reply) × (slice_get answers place ≡ Some (Some a))

-- a reply grants the open
abbrev pub is_grant : Reply → Bool
is_grant (Open (Granted open_id least stream generation version)) = true
is_grant (Open (Denied open_id cause)) = false
is_grant (Open (Unscanned open_id stream generation cause)) = false
is_grant (Large a) = false

-- the answer at a place grants nothing
abbrev pub IsRefused : List (Option Reply) → ℕ → Type 0
IsRefused answers place = (a : Reply) × (slice_get answers place ≡ Some (Some a)) × (is_grant a ≡ false)

-- all of a content was read, or the answer at a place grants nothing
abbrev pub IsReadOrRefused : Option (List ℕ) → List (Option Reply) → ℕ → Type 0
IsReadOrRefused rest answers place = IsAtEnd rest ⊎ IsRefused answers place

-- the last answer was taken back, where it had come
abbrev pub Forgets : List (Option Reply) → List (Option Reply) → Option Reply → Type 0
Forgets old new None = new ≡ old
Forgets old new (Some a) = old ≡ new ++ Some a ∷ []
