-- What an engine had of its input, and sent, when its exchange stops.
use Rattle.std.proofs.Common.{ℕ, ◌≡◌, List, [], ◌++◌, refl, sym, ap, subst, ◌∙◌, append_assoc, append-nil}
use Rattle.std.specs.Prelude.{Option, Some, None, IfSome}
use Rattle.std.specs.Io.KnownBytes.{Appends}
use Rattle.std.specs.List.{flat_map}
use Rattle.std.proofs.KnownBytes.{Appends-trans}
use Rattle.av_base.proofs.DeviceLemmas.{prefix_after}
use Rattle.av_base.specs.Device.{AppendsPrefix}
use Rattle.av_frame.specs.Laws.{FaultStays}
use Rattle.av_frame.specs.Message.{Letter}
use Rattle.av_frame.specs.Spelling.{frame}
use Rattle.av_frame.specs.declared.end.End.{End}
use Rattle.av_frame.specs.declared.end.End.TheVariants.{Done, ReadFault, WriteFault, Frame, Closed, Memory, AuditFull}
use Rattle.av_engines.specs.declared.exchange.Exchange.{Exchange}
use Rattle.av_engines.specs.Exchange.{Passes, StopsAs}
use Rattle.av_engines.specs.FilterEnd.{input_of}
use Rattle.av_engines.specs.Incoming.{Received, Takes, EndsAs, unread}
use Rattle.av_engines.specs.Spelled.{SpellsFirst, SpellsAll, SpellsUpToFault, AreSpelled, IsSent}
use Rattle.av_engines.proofs.IncomingLemmas.{takes_then}

-- what was unread and what came of a stream, where it is known
came : (r s : Received) (xs ys : List ℕ) (ms : List Letter) → (t : Takes r s (Some xs) (Some ys) ms) → unread r ++ xs ≡ flat_map frame ms ++ (unread s ++ ys)
came r s xs ys ms t =
    ap (λ l. unread r ++ l) t.came
    ∙ sym (append_assoc (unread r) t.bytes ys)
    ∙ ap (λ l. l ++ ys) t.whole
    ∙ append_assoc (flat_map frame ms) (unread s) ys

-- the messages that were taken are the first of the input
pub first_taken : (r s : Received) (a b : Option (List ℕ)) (ms : List Letter) → Takes r s a b ms → IfSome (input_of r a) (SpellsFirst ms)
first_taken r s None b ms t = tt
first_taken r s (Some xs) None ms t = absurd t.came
first_taken r s (Some xs) (Some ys) ms t = record { more = unread s ++ ys; whole = came r s xs ys ms t; in_range = t.in_range }

-- they are all, where the input ended
all_taken : (r s : Received) (a b : Option (List ℕ)) (ms : List Letter) → Takes r s a b ms → EndsAs Closed s b → IfSome (input_of r a) (SpellsAll ms)
all_taken r s None b ms t ends = tt
all_taken r s (Some xs) None ms t ends = absurd t.came
all_taken r s (Some xs) (Some ys) ms t ends =
    let whole = came r s xs ys ms t ∙ ap (λ l. flat_map frame ms ++ (unread s ++ l)) ends.1 ∙ ap (λ l. flat_map frame ms ++ l) (append-nil (unread s)) in
    (unread s, record { whole = whole; in_range = t.in_range; ends = ends.0 })

-- or all before a fault, which stays whatever comes behind it
taken_to_fault : FaultStays → (r s : Received) (a b : Option (List ℕ)) (ms : List Letter) → Takes r s a b ms → EndsAs Frame s b → IfSome (input_of r a) (SpellsUpToFault ms)
taken_to_fault stays r s None b ms t ends = tt
taken_to_fault stays r s (Some xs) None ms t ends = absurd t.came
taken_to_fault stays r s (Some xs) (Some ys) ms t ends =
    (unread s ++ ys, ends.0, record { whole = came r s xs ys ms t; in_range = t.in_range; ends = stays (unread s) ys ends.0 ends.1 })

taken_as : FaultStays → (e : End) (r s : Received) (a b : Option (List ℕ)) (ms : List Letter) → Takes r s a b ms → EndsAs e s b → AreSpelled e (input_of r a) ms
taken_as stays Done r s a b ms t ends = absurd ends
taken_as stays ReadFault r s a b ms t ends = first_taken r s a b ms t
taken_as stays WriteFault r s a b ms t ends = absurd ends
taken_as stays Frame r s a b ms t ends = taken_to_fault stays r s a b ms t ends
taken_as stays Closed r s a b ms t ends = all_taken r s a b ms t ends
taken_as stays Memory r s a b ms t ends = first_taken r s a b ms t
taken_as stays AuditFull r s a b ms t ends = absurd ends

-- a stream from its start on has nothing that is unread
pub from_start : (r : Received) (a : Option (List ℕ)) → unread r ≡ [] → input_of r a ≡ a
from_start r None none = refl
from_start r (Some xs) none = ap (λ l. Some (l ++ xs)) none

pub first_spelled : (r s : Received) (a b : Option (List ℕ)) (ms : List Letter) → unread r ≡ [] → Takes r s a b ms → IfSome a (SpellsFirst ms)
first_spelled r s a b ms none t = subst (λ k. IfSome k (SpellsFirst ms)) (from_start r a none) (first_taken r s a b ms t)

-- a whole text is a front of it
pub prefix_whole : (w v : Option (List ℕ)) (text : List ℕ) → Appends w v text → AppendsPrefix w v text
prefix_whole w v text p = record { front = text; back = []; parts = sym (append-nil text); appended = p }

-- after these messages nothing more was taken
taken_still : (r s t : Received) (a b c : Option (List ℕ)) (ms : List Letter) → Takes r s a b ms → Takes s t b c [] → Takes r t a c ms
taken_still r s t a b c ms first second = subst (Takes r t a c) (append-nil ms) (takes_then r s t a b c ms [] first second)

-- what stopped had sent all before, and a front of the rest where a write failed
pub stopped_sent : (e : End) (x y : Exchange) (b c w v u : Option (List ℕ)) (written : List ℕ) → Appends w v written → StopsAs e x y b c v u → IsSent e w u (written ++ x.outgoing)
stopped_sent Done x y b c w v u written went stops = absurd stops.1
stopped_sent ReadFault x y b c w v u written went stops = Appends-trans w v u written x.outgoing went stops.0.sent
stopped_sent WriteFault x y b c w v u written went stops = prefix_after w v u written x.outgoing went stops.0
stopped_sent Frame x y b c w v u written went stops = Appends-trans w v u written x.outgoing went stops.0.sent
stopped_sent Closed x y b c w v u written went stops = Appends-trans w v u written x.outgoing went stops.0.sent
stopped_sent Memory x y b c w v u written went stops = prefix_whole w u (written ++ x.outgoing) (Appends-trans w v u written x.outgoing went stops.0.sent)
stopped_sent AuditFull x y b c w v u written went stops = absurd stops.1

-- and had taken what the input spells
ends_taken : FaultStays → (e : End) (r : Received) (x y : Exchange) (a b c v u : Option (List ℕ)) (ms : List Letter) → Takes r x.incoming a b ms
    → Passes x y b c v u [] × EndsAs e y.incoming c → AreSpelled e (input_of r a) ms
ends_taken stays e r x y a b c v u ms t stops = taken_as stays e r y.incoming a c ms (taken_still r x.incoming y.incoming a b c ms t stops.0.taken) stops.1

pub stopped_taken : FaultStays → (e : End) (r : Received) (x y : Exchange) (a b c v u : Option (List ℕ)) (ms : List Letter) → Takes r x.incoming a b ms
    → StopsAs e x y b c v u → AreSpelled e (input_of r a) ms
stopped_taken stays Done r x y a b c v u ms t stops = ends_taken stays Done r x y a b c v u ms t stops
stopped_taken stays ReadFault r x y a b c v u ms t stops = ends_taken stays ReadFault r x y a b c v u ms t stops
stopped_taken stays WriteFault r x y a b c v u ms t stops = first_taken r x.incoming a b ms t
stopped_taken stays Frame r x y a b c v u ms t stops = ends_taken stays Frame r x y a b c v u ms t stops
stopped_taken stays Closed r x y a b c v u ms t stops = ends_taken stays Closed r x y a b c v u ms t stops
stopped_taken stays Memory r x y a b c v u ms t stops = ends_taken stays Memory r x y a b c v u ms t stops
stopped_taken stays AuditFull r x y a b c v u ms t stops = ends_taken stays AuditFull r x y a b c v u ms t stops

pub stopped_spelled : FaultStays → (e : End) (r : Received) (x y : Exchange) (a b c v u : Option (List ℕ)) (ms : List Letter) → unread r ≡ [] → Takes r x.incoming a b ms
    → StopsAs e x y b c v u → AreSpelled e a ms
stopped_spelled stays e r x y a b c v u ms none t stops = subst (λ k. AreSpelled e k ms) (from_start r a none) (stopped_taken stays e r x y a b c v u ms t stops)
