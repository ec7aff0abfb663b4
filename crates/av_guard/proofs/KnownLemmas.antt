-- The class of a content, and that an ask of a known one is told in its call.
use Rattle.std.proofs.Common.{◌≡◌, ℕ, ◌+◌, ◌==◌, Bool, true, false, not, max, List, [], ◌∷◌, ◌++◌, length, Option, Some, None, is_some, if◌then◌else◌, refl, arith, ap, ◌∙◌, sym, subst, eqb-true}
use Rattle.std.specs.Option.{option_map}
use Rattle.std.specs.Prelude.{nat_lt}
use Rattle.av_base.specs.declared.cause.Cause.TheVariants as cause
use Rattle.av_base.specs.declared.verdict.Verdict.{Verdict}
use Rattle.av_base.specs.declared.verdict.Verdict.TheVariants.{Clean, Infected}
use Rattle.av_context.specs.Contexts.{at, with}
use Rattle.av_context.specs.declared.context_state.ContextState.{ContextState}
use Rattle.av_context.specs.declared.context_state.ContextState.TheVariants.{Judged, Modified, Scanning}
use Rattle.av_filter.proofs.OpeningLemmas.{floor_at, opened_judged}
use Rattle.av_filter.specs.Conduct.{Opens, filter_step}
use Rattle.av_filter.specs.Fit.{Fits}
use Rattle.av_filter.specs.Opening.{answers_with, new_open, taken}
use Rattle.av_filter.specs.Reaction.{Reaction}
use Rattle.av_filter.specs.Verdict.{verdict_of}
use Rattle.av_filter_table.specs.Answering.{judged}
use Rattle.av_filter_table.specs.Table.{Table, context_of, current, raised}
use Rattle.av_guard.proofs.LawLemmas.{opens_its_bytes}
use Rattle.av_guard.proofs.PairLemmas.{at_new}
use Rattle.av_guard.proofs.SoundLemmas.{number_free}
use Rattle.av_guard.specs.Asking.{Takes, ask_fault, asked, class_of, is_busy, opens, place_of, refusal_of}
use Rattle.av_guard.specs.Class.{IsTold, IsVerdictUnder, class_at, class_by, has_verdict, is_awaited}
use Rattle.av_guard.specs.Place.{Held, IsPlace, Missing, Spot, Unused}
use Rattle.av_guard.specs.State.{Gives, State}
use Rattle.av_guard.specs.Telling.{answered, denied_as, is_here, told_by, told_one}
use Rattle.av_guard.specs.Waiting.{ArePaired}
use Rattle.av_guard.specs.declared.answered.Answered.{Answered}
use Rattle.av_guard.specs.declared.answered.Answered.TheVariants as told
use Rattle.av_guard.specs.declared.class.Class.TheVariants.{Asked, Known, New}
use Rattle.av_guard.specs.declared.fault.AskFault.TheVariants.{Busy, NoClient, TooLarge}
use Rattle.av_guard.specs.declared.given.GuardOut.{GuardOut}
use Rattle.av_guard.specs.declared.given.Told.{Told}
use Rattle.av_guard.specs.declared.place.Place.{Place}
use Rattle.av_guard.specs.declared.place.Place.TheVariants.{Free, Kept, Nowhere}
use Rattle.av_guard.specs.declared.waiter.Waiter.{Waiter}
use Rattle.av_pend.specs.Pend.{open_of}
use Rattle.av_pend.specs.Waiting.{Waiting}
use Rattle.av_pend.specs.declared.answer.Answer.{Answer}
use Rattle.av_store.specs.Rows.{stream_at}
use Rattle.av_store.specs.declared.stream.Stream.{Stream}

-- the class by the place that was found is that by the place of the content
pub class_is : (g : State) (p : Place) (spot : Spot) → IsPlace p spot → class_by g p ≡ class_at g spot
class_is g (Kept s) spot is = ap (class_at g) (sym is)
class_is g (Free name) spot is = ap (class_at g) (sym is)
class_is g Nowhere spot is = ap (class_at g) (sym is)

-- the client of an ask that is not refused is there
pub client_here : (g : State) (client : ℕ) (c : List ℕ) → refusal_of g client c ≡ None → is_here g.clients client ≡ true
client_here g client c none = go (is_here g.clients client) refl none
  where
    go : (b : Bool) → is_here g.clients client ≡ b → (if not b then Some NoClient else (if nat_lt 1048576 (length c) then Some TooLarge else (if is_busy g c then Some Busy else ask_fault g c))) ≡ None → is_here g.clients client ≡ true
    go true e n = e
    go false e n = absurd cc

pub max_zero : (n : ℕ) → max n 0 ≡ n
max_zero n = omega arith

context_judged : (o : Option ContextState) (floor : ℕ) (r : Verdict) → current o floor ≡ Some r → verdict_of o ≡ Some (floor, r)
context_judged None floor r bad = absurd cc
context_judged (Some Modified) floor r bad = absurd cc
context_judged (Some (Scanning id)) floor r bad = absurd cc
context_judged (Some (Judged v q)) floor r is = go (v == floor) refl is
  where
    go : (b : Bool) → (v == floor) ≡ b → (if b then Some q else None) ≡ Some r → ◌≡◌ {A = Option (ℕ × Verdict)} (Some (v, q)) (Some (floor, r))
    go true e same = let verdict : q ≡ r = cc in ap (λ n. Some (n, q)) (eqb-true v floor e) ∙ ap (λ k. Some (floor, k)) verdict
    go false e bad = absurd cc

-- what is told by a verdict
abbrev told_as : ℕ → ℕ → Verdict → Answered
told_as generation floor Clean = told.Granted generation floor
told_as generation floor (Infected i e) = told.Infected floor i e

answered_judged : (t : Table) (s generation floor : ℕ) (r : Verdict) (p : Waiting) → verdict_of (context_of t.contexts s) ≡ Some (floor, r) → answered t s (judged r generation floor p) ≡ told_as generation floor r
answered_judged t s generation floor Clean p is = refl
answered_judged t s generation floor (Infected i e) p is = ap (denied_as cause.Infected) is

is_verdict : (generation floor : ℕ) (r : Verdict) → IsVerdictUnder floor (told_as generation floor r)
is_verdict generation floor Clean = refl
is_verdict generation floor (Infected i e) = refl

open_judged : (r : Verdict) (generation version : ℕ) (p : Waiting) → open_of (judged r generation version p) ≡ p.open_id
open_judged Clean generation version p = refl
open_judged (Infected i e) generation version p = refl

abbrev one_told : ℕ → ℕ → Answered → List Told
one_told client tag k = record { client = client; tag = tag; answer = k } ∷ []

opens_told : (g new : State) (s client tag : ℕ) (given : GuardOut) (x : Stream) (r : Verdict) → at g.waiting (g.volume.opens + 1) ≡ None → is_here g.clients client ≡ true → stream_at s g.volume.streams ≡ Some x → current (context_of g.table.contexts s) g.table.floor ≡ Some r → Gives given new (opens g s client tag)
    → IsTold given client tag g.table.floor
unfolding filter_step told_by
opens_told g new s client tag given x r away here there known gives =
    let n = g.volume.opens + 1 in
    let w : Waiter = record { client = client; tag = tag; stream = s } in
    let more = with g.waiting n w in
    let t = raised 0 g.table in
    let floor = floor_at g.table 0 in
    let under : current (context_of g.table.contexts s) floor ≡ Some r = ap (current (context_of g.table.contexts s)) (max_zero g.table.floor) ∙ known in
    let a : Answer = judged r x.generation floor (new_open (taken g.volume) s 0) in
    let step : filter_step g.table g.volume (Opens s 0) ≡ answers_with t (taken g.volume) a = opened_judged g.table g.volume s 0 x r there under in
    let number : open_of a ≡ n = open_judged r x.generation floor (new_open (taken g.volume) s 0) in
    let answer : answered t s a ≡ told_as x.generation floor r = answered_judged t s x.generation floor r (new_open (taken g.volume) s 0) (context_judged (context_of g.table.contexts s) floor r under) in
    record {
      answer = told_as x.generation floor r;
      told =
          gives.told
          ∙ ap (λ (k : Reaction). told_by g.clients k.table more k.answers) step
          ∙ ap (λ k. told_one g.clients t a (at more k) ++ []) number
          ∙ ap (λ o. told_one g.clients t a o ++ []) (at_new g.waiting n w away)
          ∙ ap (λ b. (if b then record { client = client; tag = tag; answer = answered t s a } ∷ [] else []) ++ []) here
          ∙ ap (one_told client tag) answer;
      verdict = subst (λ f. IsVerdictUnder f (told_as x.generation floor r)) (max_zero g.table.floor) (is_verdict x.generation floor r);
      messages = gives.messages ∙ ap (λ (k : Reaction). k.messages) step;
    }

pub stream_there : (o : Option Stream) (c : List ℕ) → option_map (λ (x : Stream). x.bytes) o ≡ Some c → (x : Stream) × (o ≡ Some x)
stream_there None c bad = absurd cc
stream_there (Some x) c is = (x, refl)

verdict_there : (o : Option Verdict) → is_some o ≡ true → (r : Verdict) × (o ≡ Some r)
verdict_there None bad = absurd cc
verdict_there (Some r) is = (r, refl)

-- the stream of a known content
record KnownAt (g : State) (spot : Spot) : Type 0 where
  stream : ℕ
  held : spot ≡ Held stream
  verdict : has_verdict g.table stream ≡ true

known_at : (g : State) (spot : Spot) → class_at g spot ≡ Known → KnownAt g spot
known_at g (Held s) is = go (has_verdict g.table s) (is_awaited g.waiting s) refl is
  where
    go : (b d : Bool) → has_verdict g.table s ≡ b → (if b then Known else (if d then Asked else New)) ≡ Known → KnownAt g (Held s)
    go true d e k = record { stream = s; held = refl; verdict = e }
    go false true e bad = absurd cc
    go false false e bad = absurd cc
known_at g (Unused name) bad = absurd cc
known_at g Missing bad = absurd cc

pub known_told : (old new : State) (client tag : ℕ) (c : List ℕ) (given : GuardOut) → Fits old.table old.volume → ArePaired old.table.pended old.waiting → is_here old.clients client ≡ true → Takes old new given client tag c → class_of old c ≡ Known → IsTold given client tag old.table.floor
known_told old new client tag c given fits paired here takes known =
    let k = known_at old (place_of old c) known in
    let x = stream_there (stream_at k.stream old.volume.streams) c (opens_its_bytes old c k.stream k.held) in
    let r = verdict_there (current (context_of old.table.contexts k.stream) old.table.floor) k.verdict in
    opens_told old new k.stream client tag given x.0 r.0 (number_free old.table old.volume old.waiting fits paired) here x.1 r.1
    (subst (λ p. Gives given new (asked old client tag c p)) k.held takes.1)
