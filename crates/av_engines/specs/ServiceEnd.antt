-- How the engine of a scanning service ends.
use Rattle.std.specs.Prelude.{ℕ, ◌≡◌, List, [], ◌∷◌, ◌++◌, ◌⊎◌, Option, IfSome}
use Rattle.std.specs.List.{flat_map}
use Rattle.av_frame.specs.declared.end.End.{End}
use Rattle.av_frame.specs.declared.end.End.TheVariants.{Done, Memory}
use Rattle.av_engines.specs.Serving.{Served, heard, patterns_at, service_run, service_text, unserved}
use Rattle.av_engines.specs.Spelled.{AreSpelled, CameIn, IsSent, SpellsFirst}
use Rattle.av_frame.specs.Message.{Letter}
use Rattle.av_frame.specs.Spelling.{frame}
use Rattle.av_service.specs.Conduct.{Disconnects, Receives, service_step}
use Rattle.av_service.specs.Desk.{Desk}
use Rattle.av_sigset.specs.Set.{NumberedSet}
use Rattle.av_sigset.specs.declared.signature.Pattern.{Pattern}

-- What a want of memory leaves behind messages of the input: what they led to, or that with the input's next message come. A
-- work that the message lent had come back where the message is one of those that were handled.
pub data IsWithin (input : Option (List ℕ)) (messages : List Letter) (led new : Desk) : Type 0 where
  between : new ≡ led → IsWithin input messages led new
  amid : (next : Letter) → IfSome input (SpellsFirst (messages ++ next ∷ [])) → new ≡ (service_step led (Receives next)).desk
      → IsWithin input messages led new

-- or the service had not connected yet
abbrev pub IsRefused : Option (List ℕ) → List Letter → Desk → Desk → Desk → Type 0
IsRefused input messages old led new = IsWithin input messages led new ⊎ ((messages ≡ []) × (new ≡ old))

-- the service was disconnected where the messages led it; or it is where `within` says, where memory was refused; it never is
-- done
abbrev pub IsLeft : End → Type 0 → Desk → Desk → Type 0
IsLeft Done within led left = ⊥
IsLeft Memory within led left = within
IsLeft _ within led left = left ≡ (service_step led Disconnects).desk

-- some messages of the input, which came in so many reads at most, were handled, and the service sent its text of them
pub record ServesTo (sets : List NumberedSet) (old new : Desk) (input held holds : Option (List ℕ)) (turns : ℕ) (end : End) : Type 0 where
  pub messages : List Letter
  pub spelled : AreSpelled end input messages
  pub few : CameIn turns messages
  pub sent : IsSent end held holds (service_text (patterns_at sets) old messages)
  pub desk : IsLeft end (IsRefused input messages old (service_run (patterns_at sets) old messages).desk new)
      (service_run (patterns_at sets) old messages).desk new

-- where messages led a service
abbrev pub IsLed : End → Type 0 → Desk → Desk → Type 0
IsLed Done within led new = ⊥
IsLed Memory within led new = within
IsLed _ within led new = new ≡ led

-- what a want of memory leaves of a message: nothing happened, it came, or it came and what it lent came back
abbrev pub IsAmid : (ℕ → List Pattern) → Desk → Letter → Desk → Type 0
IsAmid patterns old m new =
    (new ≡ old) ⊎ ((new ≡ (service_step old (Receives m)).desk) ⊎ (new ≡ (heard patterns (unserved old) m).desk))

-- what an event gave out waits to go out behind what waited
pub record Puts (after : Served) (new : Desk) (waited waits : List ℕ) : Type 0 where
  pub desk : new ≡ after.desk
  pub sent : waits ≡ waited ++ flat_map frame after.sent

-- the same patterns, whatever the version
abbrev pub always : List Pattern → ℕ → List Pattern
always patterns version = patterns
