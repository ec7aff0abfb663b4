-- What is taken off a stream of frames, step by step.
use Rattle.std.proofs.Common.{ℕ, ◌≡◌, List, [], ◌∷◌, ◌++◌, sym, ap, ◌∙◌, append_assoc, append-nil, arith, length, length-append, ◌<◌, ◌≤◌}
use Rattle.std.specs.Prelude.{Option}
use Rattle.std.specs.List.{flat_map, AllByRecursion}
use Rattle.std.proofs.KnownBytes.{Consumes-nil, Consumes-trans}
use Rattle.std.proofs.lemmas.Grind.{flat_map-append}
use Rattle.av_frame.specs.Message.{IsLetter, Letter}
use Rattle.av_frame.specs.Spelling.{frame, field4}
use Rattle.av_engines.specs.Incoming.{Received, Takes, unread, budget}
use Rattle.av_engines.specs.Spelled.{CameIn}

-- nothing was taken of a stream that stays as it is
pub takes_none : (r : Received) (a : Option (List ℕ)) → Takes r r a a []
takes_none r a = record { bytes = []; came = Consumes-nil a; whole = append-nil (unread r); in_range = tt; few = omega arith }

all_more : (xs ys : List Letter) → AllByRecursion IsLetter xs → AllByRecursion IsLetter ys → AllByRecursion IsLetter (xs ++ ys)
all_more [] ys first second = second
all_more (x ∷ xs) ys first second = (first.0, all_more xs ys first.1 second)

-- messages were taken, and then others
pub takes_then : (r s t : Received) (a b c : Option (List ℕ)) (ms ns : List Letter) → Takes r s a b ms → Takes s t b c ns → Takes r t a c (ms ++ ns)
takes_then r s t a b c ms ns first second = record {
  bytes = first.bytes ++ second.bytes;
  came = Consumes-trans a b c first.bytes second.bytes first.came second.came;
  whole =
      sym (append_assoc (unread r) first.bytes second.bytes)
      ∙ ap (λ l. l ++ second.bytes) first.whole
      ∙ append_assoc (flat_map frame ms) (unread s) second.bytes
      ∙ ap (λ l. flat_map frame ms ++ l) second.whole
      ∙ sym (append_assoc (flat_map frame ms) (flat_map frame ns) (unread t))
      ∙ ap (λ l. l ++ unread t) (sym (flat_map-append frame ms ns));
  in_range = all_more ms ns first.in_range second.in_range;
  few = omega (arith, first.few, second.few, length-append first.bytes second.bytes);
}

-- the frames that were taken off had come, or came in as many reads as are made
pub takes_within : (r s : Received) (a b : Option (List ℕ)) (ms : List Letter) → Takes r s a b ms → length (flat_map frame ms) ≤ budget r
takes_within r s a b ms takes =
    let size = ap length takes.whole in
    let left = length-append (unread r) takes.bytes in
    let right = length-append (flat_map frame ms) (unread s) in
    omega (arith, size, left, right, takes.few)

pub takes_few : (r s : Received) (a b : Option (List ℕ)) (ms : List Letter) → unread r ≡ [] → Takes r s a b ms → CameIn r.turns ms
takes_few r s a b ms none takes = omega (arith, ap length none, takes_within r s a b ms takes)

length-frame : (m : Letter) → 4 ≤ length (frame m)
unfolding field4
length-frame m = omega arith

-- with each message less is left to come
pub takes_less : (r s : Received) (a b : Option (List ℕ)) (m : Letter) → Takes r s a b (m ∷ []) → budget s < budget r
takes_less r s a b m takes =
    let size = ap length takes.whole in
    let left = length-append (unread r) takes.bytes in
    let right = length-append (frame m ++ []) (unread s) in
    let one = ap length (append-nil (frame m)) in
    omega (arith, size, left, right, one, length-frame m, takes.few)
