-- How the engine of a scanning service to which newer sets come ends.
use Rattle.std.specs.Prelude.{ℕ, ◌≡◌, List, [], ◌∷◌, ◌++◌, ◌⊎◌, Option, Result, Ok, OnOk}
use Rattle.std.specs.List.{flat_map}
use Rattle.std.specs.declared.alloc.AllocError.{AllocError}
use Rattle.av_frame.specs.declared.end.End.{End}
use Rattle.av_engines.specs.Fresh.{Gives, Happening, AllMayHappen, all_gone_by, all_published, fresh_run, fresh_text, messages_of, sets_of}
use Rattle.av_engines.specs.ServiceEnd.{IsLed, IsLeft, IsWithin}
use Rattle.av_engines.specs.Serving.{unserved}
use Rattle.av_engines.specs.Spelled.{AreSpelled, CameIn, IsSent}
use Rattle.av_frame.specs.Message.{Letter}
use Rattle.av_frame.specs.Spelling.{frame}
use Rattle.av_service.specs.Conduct.{Publishes, service_step}
use Rattle.av_service.specs.Desk.{Desk}
use Rattle.av_sigset.specs.Catalogue.{may_publish}
use Rattle.av_sigset.specs.Set.{NumberedSet, patterns_of}
use Rattle.av_sigset.specs.declared.signature.Pattern.{Pattern}

-- what a want of memory leaves behind what happened, or that the service had not connected yet
abbrev pub IsUnserved : Option (List ℕ) → List Happening → Desk → Desk → Desk → Type 0
IsUnserved input happenings old led new =
    IsWithin input (messages_of happenings) led new ⊎ ((happenings ≡ []) × (new ≡ old))

-- Some messages of the input, which came in so many reads at most, and the sets that came meanwhile were handled, each set
-- published or refused as it had to be, and the service sent its text of them.
pub record ServesFresh (sets sets' : List NumberedSet) (old new : Desk) (had has : Option (List NumberedSet))
    (input held holds : Option (List ℕ)) (turns : ℕ) (end : End) : Type 0 where
  pub happenings : List Happening
  pub spelled : AreSpelled end input (messages_of happenings)
  pub few : CameIn turns (messages_of happenings)
  pub given : Gives had has (sets_of happenings)
  pub may : AllMayHappen sets happenings
  pub sent : IsSent end held holds (fresh_text sets old happenings)
  pub published : sets' ≡ all_published sets happenings
  pub desk : IsLeft end (IsUnserved input happenings old (fresh_run sets old happenings).desk new)
      (fresh_run sets old happenings).desk new

-- the same before the service is disconnected
pub record RunsFresh (sets sets' : List NumberedSet) (old new : Desk) (had has : Option (List NumberedSet))
    (input held holds : Option (List ℕ)) (turns : ℕ) (end : End) : Type 0 where
  pub happenings : List Happening
  pub spelled : AreSpelled end input (messages_of happenings)
  pub few : CameIn turns (messages_of happenings)
  pub given : Gives had has (sets_of happenings)
  pub may : AllMayHappen sets happenings
  pub sent : IsSent end held holds (fresh_text sets old happenings)
  pub published : sets' ≡ all_published sets happenings
  pub desk : IsLed end (IsUnserved input happenings old (fresh_run sets old happenings).desk new)
      (fresh_run sets old happenings).desk new

-- the same of a service that has connected: it was handed on with frames that waited to go out
pub record HearsFresh (sets sets' : List NumberedSet) (old new : Desk) (had has : Option (List NumberedSet))
    (waited : List ℕ) (input held holds : Option (List ℕ)) (turns : ℕ) (end : End) : Type 0 where
  pub happenings : List Happening
  pub spelled : AreSpelled end input (messages_of happenings)
  pub few : CameIn turns (messages_of happenings)
  pub given : Gives had has (sets_of happenings)
  pub may : AllMayHappen sets happenings
  pub sent : IsSent end held holds (waited ++ flat_map frame (all_gone_by sets (unserved old) happenings).sent)
  pub published : sets' ≡ all_published sets happenings
  pub desk : IsLed end (IsWithin input (messages_of happenings) (all_gone_by sets (unserved old) happenings).desk new)
      (all_gone_by sets (unserved old) happenings).desk new

-- What came of sets while no message was handled: those that were published wait to be told, or memory was refused to that.
pub record Freshens (sets sets' : List NumberedSet) (old new : Desk) (had has : Option (List NumberedSet))
    (waited waits : List ℕ) (told : Result (Unit {0}) AllocError) : Type 0 where
  pub happenings : List Happening
  pub silent : messages_of happenings ≡ []
  pub given : Gives had has (sets_of happenings)
  pub may : AllMayHappen sets happenings
  pub published : sets' ≡ all_published sets happenings
  pub desk : new ≡ (all_gone_by sets (unserved old) happenings).desk
  pub sent : OnOk told (waits ≡ waited ++ flat_map frame (all_gone_by sets (unserved old) happenings).sent)

-- a set was published to a service, which sends these messages, and it is judged under the set's patterns from then on
pub record IsPublished (sets sets' : List NumberedSet) (old new : Desk) (set : NumberedSet) (messages : List Letter)
    (patterns : List Pattern) : Type 0 where
  pub may : may_publish sets set.version ≡ Ok tt
  pub published : sets' ≡ set ∷ sets
  pub desk : new ≡ (service_step old (Publishes set.version)).desk
  pub sent : messages ≡ (service_step old (Publishes set.version)).messages
  pub patterns_are : patterns ≡ patterns_of set.signatures
