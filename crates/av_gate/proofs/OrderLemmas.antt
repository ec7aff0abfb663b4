-- Calls whose places rise have a place once or never.
use Rattle.std.proofs.Common.{◌≡◌, ◌≢◌, ℕ, ◌+◌, ◌<◌, ◌≤◌, ◌==◌, Bool, false, true, cond, List, [], ◌∷◌, ◌++◌, length, suc, take, zero, drop, get_or, refl, sym, ap, ◌∙◌, arith}
use Rattle.std.specs.List.{count_by}
use Rattle.std.proofs.lemmas.List.{take-append-drop}
use Rattle.std.proofs.lemmas.List.Sums.{sum_by-append, sum_by-cons}
use Rattle.std.proofs.lemmas.Bool.Decides.{nat_tests}
use Rattle.av_gate.specs.Claims.{PlacesRise, RisesFrom, InOrder, Rises}
use Rattle.av_gate.specs.declared.seat.Seat.{Seat}
use Rattle.av_gate.specs.declared.seat.SeatCall.{SeatCall}
use Rattle.av_filter.specs.Audit.{FilterEntry}
use Rattle.av_store.specs.Store.{Store}

abbrev is_at : ℕ → SeatCall → Bool
is_at place c = c.place == place

skipped : (place : ℕ) (c : SeatCall) (cs : List SeatCall) → c.place ≢ place → count_by (is_at place) (c ∷ cs) ≡ count_by (is_at place) cs
skipped place c cs other = let no : (c.place == place) ≡ false = grind (arith, nat_tests, other) in rw no (omega arith)

counted : (place : ℕ) (c : SeatCall) (cs : List SeatCall) → c.place ≡ place → count_by (is_at place) (c ∷ cs) ≡ 1 + count_by (is_at place) cs
counted place c cs here =
    let yes : (c.place == place) ≡ true = grind (arith, nat_tests, here) in
    sum_by-cons (λ (x : SeatCall). cond (is_at place x) 1 0) c cs ∙ ap (λ (b : Bool). cond b 1 0 + count_by (is_at place) cs) yes

none_below : (low place : ℕ) (cs : List SeatCall) → PlacesRise low cs → place < low → count_by (is_at place) cs ≡ 0
none_below low place [] h less = refl
none_below low place (c ∷ cs) h less =
    let first : low ≤ c.place = h.0 in
    skipped place c cs (omega arith) ∙ none_below (c.place + 1) place cs h.1 (omega arith)

from_low : (low : ℕ) (cs : List SeatCall) (i : ℕ) (d : SeatCall) → PlacesRise low cs → i < length cs → low ≤ (get_or cs i d).place
from_low low [] i d h less = absurd (omega arith)
from_low low (c ∷ cs) zero d h less = h.0
from_low low (c ∷ cs) (suc i) d h less =
    let first : low ≤ c.place = h.0 in
    let next : c.place + 1 ≤ (get_or cs i d).place = from_low (c.place + 1) cs i d h.1 (omega arith) in
    omega arith

pub none_so_far : (low place : ℕ) (cs : List SeatCall) (i : ℕ) (d : SeatCall) → PlacesRise low cs → i < length cs → (get_or cs i d).place < place → count_by (is_at place) (take (suc i) cs) ≡ 0
none_so_far low place [] i d h less before = absurd (omega arith)
none_so_far low place (c ∷ cs) zero d h less before = skipped place c [] (omega arith)
none_so_far low place (c ∷ cs) (suc i) d h less before =
    let next : c.place + 1 ≤ (get_or cs i d).place = from_low (c.place + 1) cs i d h.1 (omega arith) in
    skipped place c (take (suc i) cs) (omega arith) ∙ none_so_far (c.place + 1) place cs i d h.1 (omega arith) before

pub none_from : (low place : ℕ) (cs : List SeatCall) (i : ℕ) (d : SeatCall) → PlacesRise low cs → i < length cs → place < (get_or cs i d).place → count_by (is_at place) (drop i cs) ≡ 0
none_from low place [] i d h less after = absurd (omega arith)
none_from low place (c ∷ cs) zero d h less after = skipped place c cs (omega arith) ∙ none_below (c.place + 1) place cs h.1 (omega arith)
none_from low place (c ∷ cs) (suc i) d h less after = none_from (c.place + 1) place cs i d h.1 (omega arith) after

pub found_once : (low place : ℕ) (cs : List SeatCall) (i : ℕ) (d : SeatCall) → PlacesRise low cs → i < length cs → (get_or cs i d).place ≡ place → count_by (is_at place) cs ≡ 1
found_once low place [] i d h less here = absurd (omega arith)
found_once low place (c ∷ cs) zero d h less here =
    let rest : count_by (is_at place) cs ≡ 0 = none_below (c.place + 1) place cs h.1 (omega arith) in
    counted place c cs here ∙ ap (λ (n : ℕ). 1 + n) rest
found_once low place (c ∷ cs) (suc i) d h less here =
    let next : c.place + 1 ≤ (get_or cs i d).place = from_low (c.place + 1) cs i d h.1 (omega arith) in
    skipped place c cs (omega arith) ∙ found_once (c.place + 1) place cs i d h.1 (omega arith) here

-- neither before nor from the same place on
pub nowhere : (place : ℕ) (cs : List SeatCall) (i : ℕ) → count_by (is_at place) (take i cs) ≡ 0 → count_by (is_at place) (drop i cs) ≡ 0 → count_by (is_at place) cs ≡ 0
nowhere place cs i before after =
    let whole : count_by (is_at place) (take i cs ++ drop i cs) ≡ count_by (is_at place) (take i cs) + count_by (is_at place) (drop i cs) =
    sum_by-append (λ (x : SeatCall). cond (is_at place x) 1 0) (take i cs) (drop i cs) in
    sym (ap (count_by (is_at place)) (take-append-drop i cs)) ∙ whole ∙ omega (arith, before, after)

places : (v : Store) (events : List FilterEntry) (low : ℕ) (cs : List SeatCall) → RisesFrom v low cs events → PlacesRise low cs
places v events low [] h = tt
places v events low (c ∷ cs) h = (h.0, places v events (c.place + 1) cs h.2)

pub in_order : (v : Store) (events : List FilterEntry) (s : Seat) → Rises v events s → InOrder s
in_order v events s h = record { places = places v events 0 s.calls.items h.from_first }
