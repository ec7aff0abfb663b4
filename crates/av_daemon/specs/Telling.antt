-- What a guard is asked for a client, and which client is told which answer.
use Rattle.std.specs.Prelude.{ℕ, ◌≡◌, ◌⊎◌, ◌+◌, ◌==◌, ◌||◌, ⊤, Bool, min, List, [], ◌∷◌, Option, None, Some}
use Rattle.av_base.specs.declared.cause.Cause.TheVariants.{Busy}
use Rattle.av_base.specs.declared.mode.Mode.{Mode}
use Rattle.av_guard.specs.Asking.{Takes}
use Rattle.av_guard.specs.State.{State}
use Rattle.av_guard.specs.declared.given.GuardOut.{GuardOut}
use Rattle.av_guard.specs.declared.given.Told.{Told}
use Rattle.av_large.specs.declared.answer.Told.{Told as LargeAnswered}
use Rattle.av_peers.specs.Clients.{IsLost, IsSilent, IsTold}
use Rattle.av_peers.specs.Told.{large_told, unjudged}
use Rattle.av_peers.specs.declared.client.Client.{Client}
use Rattle.av_peers.specs.declared.client.Thing.{Thing}
use Rattle.av_peers.specs.declared.client.Thing.TheVariants as thing
use Rattle.av_peers.specs.declared.told.LargeTold.TheVariants.{Answered}
use Rattle.av_turns.specs.declared.line.Standing.{Standing}

-- the number of a client's connection: eleven are for others
abbrev pub connection_for : ℕ → ℕ
connection_for client = min (client + 11) 18_446_744_073_709_551_615

-- a connection is one to a service: at its first port, at its second one, or for contents in parts
abbrev pub is_of_service : ℕ → Bool
is_of_service number = number == 3 || (number == 4 || number == 8)

-- each answer that the guard gave is told to the client that it is for, one after the other, and nobody is told anything else
abbrev pub AreTold : List Told → List (ℕ × Client) → List (ℕ × Client) → Type 0
AreTold [] old new = new ≡ old
AreTold (t ∷ ts) old new = (next : List (ℕ × Client)) × IsTold (connection_for t.client) t.tag (Answered t.answer) old next × AreTold ts next new

-- what becomes of a content in parts is told to its client, if it is answered, and nobody is told anything else
abbrev pub AreTidings : Option LargeAnswered → Mode → List (ℕ × Client) → List (ℕ × Client) → Type 0
AreTidings None mode old new = IsSilent old new
AreTidings (Some t) mode old new =
    (before : List (ℕ × Client)) × IsSilent old before × IsTold (connection_for t.client) t.tag (large_told mode t.answer) before new

-- the guard is asked about a content for a client under its tag, and each answer that it gave is told to the client that it is for
pub record IsAsked (client tag : ℕ) (content : List ℕ) (guard : State) (old new : List (ℕ × Client)) : Type 0 where
  pub given : GuardOut
  pub after : State
  pub takes : Takes guard after given client tag content
  pub before : List (ℕ × Client)
  pub silent : IsSilent old before
  pub told : AreTold given.told.items before new

-- or it is not, and nobody is told anything
abbrev pub IsAskedOrStands : ℕ → ℕ → List ℕ → State → State → List (ℕ × Client) → List (ℕ × Client) → Type 0
IsAskedOrStands client tag content guard after old new = IsAsked client tag content guard old new ⊎ ((after ≡ guard) × IsSilent old new)

-- what a client said was done: its ask, if it was one
abbrev pub IsTaken : ℕ → Thing → State → State → List (ℕ × Client) → List (ℕ × Client) → Type 0
IsTaken client (thing.Asked tag label content) guard after old new = IsAskedOrStands client tag content.items guard after old new
IsTaken client (thing.Said bytes) guard after old new = ⊤
IsTaken client (thing.Begun tag label first) guard after old new = ⊤
IsTaken client (thing.Part some) guard after old new = ⊤
IsTaken client (thing.Ended ending) guard after old new = ⊤
IsTaken client (thing.Watches tag version) guard after old new = ⊤

-- an ask that left the line: the guard is asked, or the client is told that it is busy, or is lost
abbrev pub IsAskedOrDenied : Standing → Mode → State → List (ℕ × Client) → List (ℕ × Client) → Type 0
IsAskedOrDenied s mode guard old new =
    IsAsked s.client s.tag s.content.items guard old new
    ⊎ (IsTold (connection_for s.client) s.tag (Answered (unjudged mode Busy)) old new ⊎ IsLost (connection_for s.client) old new)
