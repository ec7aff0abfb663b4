-- What holds of every list of events.
use Rattle.std.specs.Prelude.{ℕ, ◌≡◌, ◌+◌, ◌<◌, ◌==◌, ◌&&◌, false, List, [], ◌∷◌, Result, Ok, Err, if◌then◌else◌}
use Rattle.std.specs.List.{AllByRecursion}
use Rattle.av_large.specs.Calls.{begun_by}
use Rattle.av_large.specs.Run.{Event, Greets, Begin, Bring, End, Hears, IsLate, Leaves, Loses, orders_in, state_after, step_of, told_in}
use Rattle.av_large.specs.State.{State, Step, at_first}
use Rattle.av_large.specs.declared.answer.Answer.{Answer}
use Rattle.av_large.specs.declared.answer.Answer.TheVariants.{Granted, Infected, Lacks, Unjudged}
use Rattle.av_large.specs.declared.answer.Told.{Told}
use Rattle.av_large.specs.declared.content.Content.{Content}
use Rattle.av_large.specs.declared.fault.BeginFault.{BeginFault}
use Rattle.av_parts.specs.Orders.{Order, Begins, Brings, Ends, Drops}

-- ---- grants are at the floor

-- a grant names this version
abbrev pub GrantsAt : ℕ → Answer → Type 0
GrantsAt floor (Granted version) = version ≡ floor
GrantsAt floor (Infected version index end_at) = Unit {0}
GrantsAt floor (Unjudged cause) = Unit {0}
GrantsAt floor (Lacks cause) = Unit {0}

-- it is no grant
abbrev pub GrantsNone : Answer → Type 0
GrantsNone (Granted version) = ⊥
GrantsNone (Infected version index end_at) = Unit {0}
GrantsNone (Unjudged cause) = Unit {0}
GrantsNone (Lacks cause) = Unit {0}

-- what an event may tell: a word grants at the guard's floor alone, and nothing else grants
abbrev pub MayTell : Event → Answer → Type 0
MayTell (Hears floor w) answer = GrantsAt floor answer
MayTell (Greets floor version) answer = GrantsNone answer
MayTell (Begin service client tag most) answer = GrantsNone answer
MayTell (Bring client some) answer = GrantsNone answer
MayTell (End client ending) answer = GrantsNone answer
MayTell (IsLate client) answer = GrantsNone answer
MayTell (Leaves client) answer = GrantsNone answer
MayTell Loses answer = GrantsNone answer

-- in every state
abbrev pub WordsGrantAtTheFloor : Type 0
WordsGrantAtTheFloor = (g : State) (e : Event) → AllByRecursion (λ (t : Told). MayTell e t.answer) (step_of g e).told

-- ---- each content is answered once

-- 1 of this client under this tag, else 0
abbrev pub one_if : ℕ → ℕ → ℕ → ℕ → ℕ
one_if client tag c t = if c == client && t == tag then 1 else 0

-- how many contents of a client under a tag are told, and how many have no answer
unfoldable pub told_of : ℕ → ℕ → List Told → ℕ
told_of client tag [] = 0
told_of client tag (t ∷ ts) = one_if client tag t.client t.tag + told_of client tag ts

unfoldable pub held_of : ℕ → ℕ → List (ℕ × Content) → ℕ
held_of client tag [] = 0
held_of client tag (e ∷ es) = one_if client tag e.1.client e.1.tag + held_of client tag es

-- a beginning that was not refused
abbrev pub if_taken : ℕ → Result Step BeginFault → ℕ
if_taken n (Ok step) = n
if_taken n (Err why) = 0

-- whether an event begins such a content
abbrev pub begun_at : ℕ → ℕ → State → Event → ℕ
begun_at client tag g (Begin service c t most) = if_taken (one_if client tag c t) (begun_by g service c t most)
begun_at client tag g (Greets floor version) = 0
begun_at client tag g (Bring c some) = 0
begun_at client tag g (End c ending) = 0
begun_at client tag g (Hears floor w) = 0
begun_at client tag g (IsLate c) = 0
begun_at client tag g (Leaves c) = 0
begun_at client tag g Loses = 0

-- how many it begins
unfoldable pub begun_of : ℕ → ℕ → State → List Event → ℕ
begun_of client tag g [] = 0
begun_of client tag g (e ∷ es) = begun_at client tag g e + begun_of client tag (step_of g e).state es

-- a client does not leave
abbrev pub IsNotLeaving : ℕ → Event → Type 0
IsNotLeaving client (Leaves c) = (c == client) ≡ false
IsNotLeaving client (Greets floor version) = Unit {0}
IsNotLeaving client (Begin service c t most) = Unit {0}
IsNotLeaving client (Bring c some) = Unit {0}
IsNotLeaving client (End c ending) = Unit {0}
IsNotLeaving client (Hears floor w) = Unit {0}
IsNotLeaving client (IsLate c) = Unit {0}
IsNotLeaving client Loses = Unit {0}

-- of a client that stays, each content that it begins is told, or has no answer yet, and only one of these
abbrev pub LargeAsksAreAnsweredOnce : Type 0
LargeAsksAreAnsweredOnce =
    (es : List Event) (client tag : ℕ) → AllByRecursion (IsNotLeaving client) es
    → begun_of client tag at_first es ≡ told_of client tag (told_in at_first es) + held_of client tag (state_after at_first es).held

-- ---- numbers rise, and behind a content's end nothing of it is sent

-- the numbers of contents that begin rise, from above this one
unfoldable pub RisesFrom : ℕ → List Order → Type 0
RisesFrom last [] = Unit {0}
RisesFrom last (Begins n ∷ os) = (last < n) × RisesFrom n os
RisesFrom last (Brings n some ∷ os) = RisesFrom last os
RisesFrom last (Ends n count ∷ os) = RisesFrom last os
RisesFrom last (Drops n ∷ os) = RisesFrom last os

-- an order is of another content
abbrev pub IsOfAnother : ℕ → Order → Type 0
IsOfAnother n (Begins m) = (m == n) ≡ false
IsOfAnother n (Brings m some) = (m == n) ≡ false
IsOfAnother n (Ends m count) = (m == n) ≡ false
IsOfAnother n (Drops m) = (m == n) ≡ false

-- it drops the content, or is of another
abbrev pub IsDropOrAnother : ℕ → Order → Type 0
IsDropOrAnother n (Begins m) = (m == n) ≡ false
IsDropOrAnother n (Brings m some) = (m == n) ≡ false
IsDropOrAnother n (Ends m count) = (m == n) ≡ false
IsDropOrAnother n (Drops m) = Unit {0}

-- what may be sent behind an order: behind an end the content is at most dropped, behind a drop nothing of it comes
abbrev pub MayFollow : Order → Order → Type 0
MayFollow (Begins n) o = Unit {0}
MayFollow (Brings n some) o = Unit {0}
MayFollow (Ends n count) o = IsDropOrAnother n o
MayFollow (Drops n) o = IsOfAnother n o

-- each order may follow each before it
unfoldable pub AreInOrder : List Order → Type 0
AreInOrder [] = Unit {0}
AreInOrder (o ∷ os) = AllByRecursion (MayFollow o) os × AreInOrder os

abbrev pub NumbersRise : Type 0
NumbersRise = (es : List Event) → RisesFrom 0 (orders_in at_first es)

abbrev pub NothingFollowsTheEnd : Type 0
NothingFollowsTheEnd = (es : List Event) → AreInOrder (orders_in at_first es)
