-- A walk that passes what is no find, and the stops that tell it.
use Rattle.std.proofs.Common.{ℕ, suc, ◌≡◌, ◌≤◌, ◌<◌, ◌+◌, ◌-◌, ◌*◌, ◌==◌, Bool, true, false, List, [], ◌∷◌, ◌++◌, length, take, drop, slice_index, None, Some, refl, sym, ◌∙◌, ap, ap₂, arith, eqb-true, if◌then◌else◌, drop-drop, inl, inr, ◌&&◌, nat_lt, lt-ltb, le-ltb, length-drop, length-take-le, take-append-drop}
use Rattle.std.proofs.lemmas.Bool.{cases_lt, and_right}
use Rattle.av_base.specs.declared.verdict.Verdict.TheVariants.{Infected}
use Rattle.av_sigset.specs.declared.signature.Pattern.{Pattern}
use Rattle.av_match.specs.Longest.{longest}
use Rattle.av_match.specs.Part.{IsAutomaton, IsPart}
use Rattle.av_match.specs.Ranged.{IsHorizon, IsStop, found_or, reach_find}
use Rattle.av_match.specs.Reach.{reach}
use Rattle.av_match.specs.Scanning.{are_bound, index_of, is_past, state_words, resting, word_after, moved, step, run, landed}
use Rattle.av_match.specs.Search.{bytes_of, find_at, index_at}
use Rattle.av_match.specs.Words.{word_at, is_word, AllBytes}
use Rattle.av_match.specs.declared.cells.Reached.{Reached}
use Rattle.av_match.specs.declared.cells.Reached.TheVariants.{Through, Hit}
use Rattle.av_match.proofs.OccursLemmas.{find_silent}
use Rattle.av_match.proofs.ReachLemmas.{gives_at}
use Rattle.av_match.proofs.RunLemmas.{index_found, moved_is, rests_bound, step_open, number_none}
use Rattle.av_match.proofs.SpanLemmas.{open_before, and_true}
use Rattle.av_match.proofs.TableLemmas.{landed_at, rested_run, run_found, searching, found}
use Rattle.av_match.proofs.WordLemmas.{is_word-at}

-- two walks one after the other
pub finds_joined : (ps : List Pattern) (cells : List ℕ) (fed : ℕ) (v w : List ℕ) (s k m : ℕ) → reach_find ps cells fed s k v ≡ Through m → reach_find ps cells fed s k (v ++ w) ≡ reach_find ps cells fed m (k + length v) w
finds_joined ps cells fed [] w s k m h = let same : s ≡ m = cc in let none : k ≡ k + 0 = omega arith in ap₂ (λ n j. reach_find ps cells fed n j w) same none
finds_joined ps cells fed (b ∷ v) w s k m h =
    let t = slice_index cells (256 * s + b) in
    let u = word_at (state_words ps) t in
    (elim (find_at 0 ps u (length u) (fed + (k + 1))) as (λ o. found_or o (k + 1) (reach_find ps cells fed t (k + 1) v) ≡ Through m
    → found_or o (k + 1) (reach_find ps cells fed t (k + 1) (v ++ w)) ≡ reach_find ps cells fed m (k + suc (length v)) w) [
      | None ↦ λ e. finds_joined ps cells fed v w t (k + 1) m e ∙ ap (λ j. reach_find ps cells fed m j w) (let n : k + 1 + length v ≡ k + suc (length v) = omega arith in n)
      | Some i ↦ λ e. absurd cc
    ]) h

-- a find stays
pub finds_stay : (ps : List Pattern) (cells : List ℕ) (fed : ℕ) (v w : List ℕ) (s k p i : ℕ) → reach_find ps cells fed s k v ≡ Hit p i → reach_find ps cells fed s k (v ++ w) ≡ Hit p i
finds_stay ps cells fed [] w s k p i h = absurd cc
finds_stay ps cells fed (b ∷ v) w s k p i h =
    let t = slice_index cells (256 * s + b) in
    let u = word_at (state_words ps) t in
    (elim (find_at 0 ps u (length u) (fed + (k + 1))) as (λ o. found_or o (k + 1) (reach_find ps cells fed t (k + 1) v) ≡ Hit p i → found_or o (k + 1) (reach_find ps cells fed t (k + 1) (v ++ w)) ≡ Hit p i) [
      | None ↦ λ e. finds_stay ps cells fed v w t (k + 1) p i e
      | Some j ↦ λ e. e
    ]) h

module _ (ps : List Pattern) (cells : List ℕ) (part : IsPart (state_words ps) cells (length (state_words ps))) where
  abbrev words : List (List ℕ)
  words = state_words ps

  part_inside : (s b : ℕ) → s < length words → b < 256 → slice_index cells (256 * s + b) < length words
  part_inside s b l lb = let size : length cells ≡ 256 * length words = part.size in part.inside (256 * s + b) (omega arith)

  -- where nothing is given out on the way there is no find
  pub finds_through : (next outputs : List ℕ) → IsAutomaton (bytes_of ps) next outputs → (w : List ℕ) (fed s k j t : ℕ) → AllBytes w → s < length words → slice_index outputs s ≡ 0 → reach next outputs s k w ≡ Through t
      → reach_find ps cells fed s j w ≡ Through t
  finds_through next outputs auto [] fed s k j t small l silent h = h
  finds_through next outputs auto (b ∷ w) fed s k j t small l silent h =
      let n = slice_index next (256 * s + b) in
      let m = slice_index cells (256 * s + b) in
      let lb : b < 256 = small 0 (omega arith) in
      let size : length next ≡ 256 * length words = auto.size in
      let inside : n < length words = auto.inside (256 * s + b) (omega arith) in
      let same : m ≡ n = part.distinct m n (part_inside s b l lb) inside (part.goes s b l l lb ∙ sym (auto.goes s b l lb silent)) in
      let v = word_at words n in
      (elim (slice_index outputs n == 0) as (λ x. (slice_index outputs n == 0) ≡ x → (if x then reach next outputs n (k + 1) w else Hit (k + 1) (slice_index outputs n - 1)) ≡ Through t
      → reach_find ps cells fed s j (b ∷ w) ≡ Through t) [
        | true ↦ λ z e.
            let none : slice_index outputs n ≡ 0 = eqb-true _ _ z in
            let bare : index_at 0 (bytes_of ps) v (length v) ≡ None = number_none (index_at 0 (bytes_of ps) v (length v)) (sym (gives_at (bytes_of ps) next outputs auto n inside) ∙ none) in
            let rest = finds_through next outputs auto w fed n (k + 1) (j + 1) t (λ i g. small (suc i) (omega arith)) inside none e in
            ap (λ q. found_or (find_at 0 ps (word_at words q) (length (word_at words q)) (fed + (j + 1))) (j + 1) (reach_find ps cells fed q (j + 1) w)) same
            ∙ ap (λ o. found_or o (j + 1) (reach_find ps cells fed n (j + 1) w)) (find_silent 0 ps v (length v) (fed + (j + 1)) bare) ∙ rest
        | false ↦ λ z e. absurd cc
      ]) refl h

  -- a state's word is found again
  number_there : (t : ℕ) → t < length words → index_of words (word_at words t) ≡ t
  number_there t l = let at_index = index_found words (word_at words t) (is_word-at words t l) in part.distinct (index_of words (word_at words t)) t at_index.0 l at_index.1

  -- a scan's run is the walk
  module _ (bound : are_bound ps ≡ true) where
    word_there : (s b : ℕ) → s < length words → b < 256 → word_after ps s b ≡ word_at words (slice_index cells (256 * s + b))
    unfolding word_after
    word_there s b l lb = ap (λ n. longest (is_word words) (word_at words n ++ b ∷ [])) (rests_bound ps s l bound) ∙ sym (part.goes s b l l lb)

    finds_run : (w : List ℕ) (version total fed s k base : ℕ) → AllBytes w → s < length words → fed ≡ base + k → is_past ps (fed + length w) ≡ false
        → run ps (searching version total fed s) w ≡ landed_at version total (fed + length w) base (reach_find ps cells base s k w)
    unfolding run
    finds_run [] version total fed s k base small l place early = ap (λ n. searching version total n s) (let e : fed ≡ fed + 0 = omega arith in e)
    finds_run (b ∷ w) version total fed s k base small l place early =
        let t = slice_index cells (256 * s + b) in
        let lb : b < 256 = small 0 (omega arith) in
        let inside : t < length words = part_inside s b l lb in
        let v = word_at words t in
        let end_at : fed + 1 ≡ base + (k + 1) = omega arith in
        let more : fed + 1 + length w ≡ fed + suc (length w) = omega arith in
        let first = step_open ps (searching version total fed s) b refl (open_before ps (fed + 1) (fed + suc (length w)) (omega arith) early) ∙ ap (moved ps (searching version total fed s)) (word_there s b l lb) in
        (elim (find_at 0 ps v (length v) (base + (k + 1))) as (λ o. find_at 0 ps v (length v) (base + (k + 1)) ≡ o
        → run ps (step ps (searching version total fed s) b) w ≡ landed_at version total (fed + suc (length w)) base (found_or o (k + 1) (reach_find ps cells base t (k + 1) w))) [
          | None ↦ λ e.
              let goes : step ps (searching version total fed s) b ≡ searching version total (fed + 1) t =
              first ∙ moved_is ps (searching version total fed s) v None (ap (find_at 0 ps v (length v)) end_at ∙ e) ∙ ap (searching version total (fed + 1)) (number_there t inside) in
              ap (λ st. run ps st w) goes ∙ finds_run w version total (fed + 1) t (k + 1) base (λ j m. small (suc j) (omega arith)) inside end_at (ap (is_past ps) more ∙ early)
              ∙ ap (λ n. landed_at version total n base (reach_find ps cells base t (k + 1) w)) more
          | Some i ↦ λ e.
              let hits : step ps (searching version total fed s) b ≡ found version total (fed + 1) 0 (Infected i (fed + 1)) =
              first ∙ moved_is ps (searching version total fed s) v (Some i) (ap (find_at 0 ps v (length v)) end_at ∙ e) in
              ap (λ st. run ps st w) hits ∙ run_found ps w version total (fed + 1) 0 (Infected i (fed + 1)) ∙ ap₂ (λ n f. found version total n 0 (Infected i f)) more end_at
        ]) refl

    pub find_chunk : (w : List ℕ) (version total fed node : ℕ) → AllBytes w → 0 < length w → resting ps node < length words → is_past ps (fed + length w) ≡ false
        → run ps (searching version total fed node) w ≡ landed (searching version total fed node) (length w) (reach_find ps cells fed (resting ps node) 0 w)
    find_chunk w version total fed node small some l early =
        rested_run ps w version total fed node (reach_find ps cells fed (resting ps node) 0 w) some (open_before ps (fed + 1) (fed + length w) (omega arith) early)
        (finds_run w version total fed (resting ps node) 0 fed small l (omega arith) early)

-- ---- stops

-- a state whose stop is 0 has no find
pub stop_none : (ps : List Pattern) (w : List ℕ) (n e : ℕ) → IsStop ps w n → n ≡ 0 → find_at 0 ps w (length w) e ≡ None
stop_none ps w n e stop none = find_silent 0 ps w (length w) e (number_none (index_at 0 (bytes_of ps) w (length w)) (stop.none none))

-- ---- the horizon

behind_both : (h last e : ℕ) (r : Bool) (m : ℕ) → (h < last → m ≡ last) → (last ≤ h → m ≡ h) → (nat_lt h e && (nat_lt last e && r)) ≡ (nat_lt m e && r)
behind_both h last e r m up down =
    elim (cases_lt h last) [
      | inl less ↦
          let is : m ≡ last = up less in
          elim (cases_lt last e) [
            | inl before ↦ rw (is, lt-ltb _ _ before, lt-ltb h e (omega arith)) refl
            | inr after ↦ rw (is, le-ltb _ _ after) (and_right (nat_lt h e) false refl)
          ]
      | inr most ↦
          let is : m ≡ h = down most in
          elim (cases_lt h e) [
            | inl before ↦ rw (is, lt-ltb _ _ before, lt-ltb last e (omega arith)) refl
            | inr after ↦ rw (is, le-ltb _ _ after) refl
          ]
    ]

-- one pattern more, whose matches have an end
pub horizon_more : (ps : List Pattern) (p : Pattern) (h m e : ℕ) → p.span.high < 1048575 → (h < p.span.high + length p.bytes → m ≡ p.span.high + length p.bytes) → (p.span.high + length p.bytes ≤ h → m ≡ h)
    → (nat_lt h e && is_past (p ∷ ps) e) ≡ (nat_lt m e && is_past ps e)
unfolding is_past
horizon_more ps p h m e near up down = rw (lt-ltb _ _ near) (behind_both h (p.span.high + length p.bytes) e (is_past ps e) m up down)

-- one whose matches have none
pub horizon_none : (ps : List Pattern) (p : Pattern) (h e : ℕ) → 1048575 ≤ p.span.high → (nat_lt h e && is_past (p ∷ ps) e) ≡ false
unfolding is_past
horizon_none ps p h e far = rw (le-ltb _ _ far) (and_right (nat_lt h e) false refl)

pub horizon_all : (h e : ℕ) → (nat_lt h e && is_past [] e) ≡ nat_lt h e
unfolding is_past
horizon_all h e = and_true (nat_lt h e)

pub horizon_open : (ps : List Pattern) (h e : ℕ) → IsHorizon ps (Some h) → 0 < h → e ≤ h → is_past ps e ≡ false
horizon_open ps h e far some low = open_before ps e h low (far h some ∙ le-ltb h h (omega arith))

pub horizon_never : (ps : List Pattern) (e : ℕ) → IsHorizon ps None → is_past ps e ≡ false
horizon_never ps e never = open_before ps e (suc e) (omega arith) (never (suc e) (omega arith))

pub horizon_past : (ps : List Pattern) (h e : ℕ) → IsHorizon ps (Some h) → h < e → is_past ps e ≡ true
horizon_past ps h e far over = far e (omega arith) ∙ lt-ltb h e over

-- a number of no state
pub rests_none : (ps : List Pattern) (node : ℕ) → length (state_words ps) ≤ node → resting ps node ≡ 0
unfolding resting
rests_none ps node high = rw (le-ltb _ _ high) refl

-- ---- piece by piece

pub ranged_on : (ps : List Pattern) (cells : List ℕ) (fed : ℕ) (chunk : List ℕ) (r : Reached) (s start n m : ℕ) → start + n ≤ length chunk → r ≡ reach_find ps cells fed s start (drop start chunk)
    → reach_find ps cells fed s start (take n (drop start chunk)) ≡ Through m → r ≡ reach_find ps cells fed m (start + n) (drop (start + n) chunk)
ranged_on ps cells fed chunk r s start n m room was goes =
    let size : length (take n (drop start chunk)) ≡ n = length-take-le n (drop start chunk) (omega (arith, length-drop start chunk)) in
    was ∙ ap (reach_find ps cells fed s start) (sym (take-append-drop n (drop start chunk))) ∙ finds_joined ps cells fed (take n (drop start chunk)) (drop n (drop start chunk)) s start m goes
    ∙ ap₂ (λ k w. reach_find ps cells fed m (start + k) w) size (drop-drop n start chunk)

pub ranged_hit : (ps : List Pattern) (cells : List ℕ) (fed : ℕ) (chunk : List ℕ) (r : Reached) (s start n place index : ℕ) → r ≡ reach_find ps cells fed s start (drop start chunk)
    → reach_find ps cells fed s start (take n (drop start chunk)) ≡ Hit place index → r ≡ Hit place index
ranged_hit ps cells fed chunk r s start n place index was goes =
    was ∙ ap (reach_find ps cells fed s start) (sym (take-append-drop n (drop start chunk))) ∙ finds_stay ps cells fed (take n (drop start chunk)) (drop n (drop start chunk)) s start place index goes
