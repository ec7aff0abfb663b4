-- What is written is read as itself, and little is kept of what comes.
use Rattle.std.specs.Prelude.{ℕ, ◌≡◌, ◌<◌, true, List, [], ◌∷◌, length}
use Rattle.av_parts.specs.declared.sizes.TheConstants.{ORDER_FRONT, WORD_FRONT}
use Rattle.av_parts.specs.declared.word.Said.{Said}
use Rattle.av_parts.specs.declared.word.Said.TheVariants.{Hello, Of}
use Rattle.av_parts.specs.Heard
use Rattle.av_parts.specs.Orders.{Order, Begins, Brings, Ends, Drops, bytewise}
use Rattle.av_parts.specs.Spelling.{IsOrder, IsSaid, order_frame, said_frame}
use Rattle.av_parts.specs.WordsHeard

-- how an order is heard: of a part, that it begins, and then its bytes
abbrev pub heard_as : Order → List Order
heard_as (Begins n) = Begins n ∷ []
heard_as (Brings n some) = Brings n [] ∷ bytewise (Brings n some)
heard_as (Ends n count) = Ends n count ∷ []
heard_as (Drops n) = Drops n ∷ []

-- the frame of an order is heard as that order, and the reader is as before
abbrev pub OrdersAreReadBack : Type 0
OrdersAreReadBack = (o : Order) → IsOrder o → Heard.heard_of (order_frame o) Heard.fresh ≡ (Heard.fresh, heard_as o)

-- a reader that heard the greeting
abbrev pub greeted : WordsHeard.Attending
greeted = record WordsHeard.fresh { greeted = true }

-- a reader to which this may be said
abbrev pub ready : Said → WordsHeard.Attending
ready (Hello version) = WordsHeard.fresh
ready (Of w) = greeted

-- the frame of what a service says is heard as that
abbrev pub WordsAreReadBack : Type 0
WordsAreReadBack = (said : Said) → IsSaid said → WordsHeard.heard_of (said_frame said) (ready said) ≡ (greeted, said ∷ [])

-- whatever comes, a reader of orders keeps fewer than 21 bytes, and one of words fewer than 34
abbrev pub KeepsLittle : Type 0
KeepsLittle =
    (bytes : List ℕ) (r : Heard.Hearing) → length r.front < ORDER_FRONT → let after = (Heard.heard_of bytes r).0 in length after.front < ORDER_FRONT

abbrev pub KeepsFewWords : Type 0
KeepsFewWords =
    (bytes : List ℕ) (r : WordsHeard.Attending) → length r.front < WORD_FRONT
    → let after = (WordsHeard.heard_of bytes r).0 in length after.front < WORD_FRONT
