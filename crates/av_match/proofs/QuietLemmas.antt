-- Parts of a piece side by side, in which nothing is found.
use Rattle.std.proofs.Common.{ℕ, suc, ◌≡◌, ◌<◌, ◌≤◌, ◌+◌, ◌-◌, ◌*◌, true, List, [], ◌∷◌, ◌++◌, length, take, drop, slice_index, None, Some, refl, sym, ◌∙◌, ap, subst, arith, append_assoc, take-add, length-take-le, length-drop, drop-drop, take-append-drop}
use Rattle.std.proofs.lemmas.List.{append-nil, at_drop_more}
use Rattle.av_sigset.specs.declared.signature.Pattern.{Pattern}
use Rattle.av_match.specs.Longest.{longest}
use Rattle.av_match.specs.Part.{IsPart}
use Rattle.av_match.specs.Ranged.{found_or, reach_find}
use Rattle.av_match.specs.Reach.{Leads}
use Rattle.av_match.specs.Scanning.{state_words}
use Rattle.av_match.specs.Search.{bytes_of, find_at}
use Rattle.av_match.specs.Words.{word_at, is_word, AllBytes}
use Rattle.av_match.specs.declared.cells.Reached.{Reached}
use Rattle.av_match.specs.declared.cells.Reached.TheVariants.{Through}
use Rattle.av_match.proofs.FindLemmas.{finds_joined}
use Rattle.av_match.proofs.GrowLemmas.{upto_most}
use Rattle.av_match.proofs.LaneLemmas.{part_bytes}
use Rattle.av_match.proofs.LongestLemmas.{longest-step, longest-child}
use Rattle.av_match.proofs.WindowLemmas.{longest-short}
use Rattle.av_match.proofs.WordLemmas.{is_word-at}

-- a way without a find is one through the first bytes, and one through the others
pub finds_split : (ps : List Pattern) (cells : List ℕ) (fed : ℕ) (v w : List ℕ) (s k t : ℕ) → reach_find ps cells fed s k (v ++ w) ≡ Through t
    → (m : ℕ) × (reach_find ps cells fed s k v ≡ Through m) × (reach_find ps cells fed m (k + length v) w ≡ Through t)
finds_split ps cells fed [] w s k t h = let same : k + 0 ≡ k = omega arith in (s, refl, ap (λ n. reach_find ps cells fed s n w) same ∙ h)
finds_split ps cells fed (b ∷ v) w s k t h =
    let n = slice_index cells (256 * s + b) in
    let u = word_at (state_words ps) n in
    (elim (find_at 0 ps u (length u) (fed + (k + 1))) as (λ o. found_or o (k + 1) (reach_find ps cells fed n (k + 1) (v ++ w)) ≡ Through t
    → (m : ℕ) × (found_or o (k + 1) (reach_find ps cells fed n (k + 1) v) ≡ Through m) × (reach_find ps cells fed m (k + suc (length v)) w ≡ Through t)) [
      | None ↦ λ e.
          let rest = finds_split ps cells fed v w n (k + 1) t e in
          let same : k + suc (length v) ≡ k + 1 + length v = omega arith in
          (rest.0, rest.1, ap (λ j. reach_find ps cells fed rest.0 j w) same ∙ rest.2)
      | Some i ↦ λ e. absurd cc
    ]) h

longest_self : (words : List (List ℕ)) (w : List ℕ) → is_word words w ≡ true → longest (is_word words) w ≡ w
longest_self words [] h = refl
longest_self words (a ∷ w) h = longest-child (is_word words) a w h

module _ (ps : List Pattern) (cells : List ℕ) (part : IsPart (state_words ps) cells (length (state_words ps))) (fed : ℕ) where
  abbrev words : List (List ℕ)
  words = state_words ps

  root : Leads words [] 0
  root = record { inside = part.some; word = part.start }

  own : (s : ℕ) → s < length words → Leads words (word_at words s) s
  own s l = record { inside = l; word = sym (longest_self words (word_at words s) (is_word-at words s l)) }

  -- a way without a find leads to the longest end of all bytes that is a word
  finds_lead : (w c : List ℕ) (s k t : ℕ) → AllBytes w → Leads words c s → reach_find ps cells fed s k w ≡ Through t → Leads words (c ++ w) t
  finds_lead [] c s k t small from h = let same : s ≡ t = cc in subst (Leads words (c ++ [])) same (subst (λ x. Leads words x s) (sym (append-nil c)) from)
  finds_lead (b ∷ w) c s k t small from h =
      let n = slice_index cells (256 * s + b) in
      let u = word_at words n in
      let byte : b < 256 = small 0 (omega arith) in
      let size : length cells ≡ 256 * length words = part.size in
      let l : s < length words = from.inside in
      let there : Leads words (c ++ b ∷ []) n = record {
        inside = part.inside (256 * s + b) (omega arith);
        word = part.goes s b l l byte ∙ (ap (λ v. longest (is_word words) (v ++ b ∷ [])) from.word ∙ longest-step (is_word words) part.closed c b);
      } in
      (elim (find_at 0 ps u (length u) (fed + (k + 1))) as (λ o. found_or o (k + 1) (reach_find ps cells fed n (k + 1) w) ≡ Through t → Leads words (c ++ b ∷ w) t) [
        | None ↦ λ e. subst (λ x. Leads words x t) (append_assoc c (b ∷ []) w) (finds_lead w (c ++ b ∷ []) n (k + 1) t (λ i g. small (suc i) (omega arith)) there e)
        | Some i ↦ λ e. absurd cc
      ]) h

  -- 64 bytes lead to one state, whatever came before them
  same_end : (u v : List ℕ) (s t : ℕ) → 64 ≤ length v → Leads words (u ++ v) s → Leads words v t → t ≡ s
  same_end u v s t enough whole back =
      let most : length (word_at words s) ≤ 64 = upto_most 64 (bytes_of ps) s whole.inside in
      let size : length (word_at words s) ≡ length (longest (is_word words) (u ++ v)) = ap length whole.word in
      let short : length (longest (is_word words) (u ++ v)) ≤ length v = omega arith in
      part.distinct t s back.inside whole.inside (back.word ∙ sym (longest-short (is_word words) u v short) ∙ sym whole.word)

  module _ (chunk : List ℕ) (small : AllBytes chunk) (from k : ℕ) (inside : from < length words) where
    -- a part begun 64 bytes early comes to the state of the whole
    find_more : (o m s t : ℕ) → 64 ≤ m → o + m ≤ length chunk → reach_find ps cells fed from k (take (o + 64) chunk) ≡ Through s → reach_find ps cells fed 0 (k + o) (take m (drop o chunk)) ≡ Through t
        → reach_find ps cells fed from k (take (o + m) chunk) ≡ Through t
    find_more o m s t enough room whole part_of =
        let c = word_at words from in
        let u = c ++ take o chunk in
        let v = take 64 (drop o chunk) in
        let w = take (m - 64) (drop (o + 64) chunk) in
        let left : length (drop o chunk) ≡ length chunk - o = length-drop o chunk in
        let v_size : length v ≡ 64 = length-take-le 64 (drop o chunk) (omega arith) in
        let front_size : length (take (o + 64) chunk) ≡ o + 64 = length-take-le (o + 64) chunk (omega arith) in
        let one : c ++ take (o + 64) chunk ≡ u ++ v = ap (λ x. c ++ x) (take-add o 64 chunk) ∙ sym (append_assoc c (take o chunk) v) in
        let sum : 64 + (m - 64) ≡ m = omega arith in
        let two : take m (drop o chunk) ≡ v ++ w = ap (λ n. take n (drop o chunk)) (sym sum) ∙ (take-add 64 (m - 64) (drop o chunk) ∙ ap (λ x. v ++ take (m - 64) x) (drop-drop 64 o chunk)) in
        let total : o + m ≡ o + 64 + (m - 64) = omega arith in
        let front_bytes : AllBytes (take (o + 64) chunk) = part_bytes chunk 0 (o + 64) small (omega arith) in
        let there = finds_lead (take (o + 64) chunk) c from k s front_bytes (own from inside) whole in
        let parts = finds_split ps cells fed v w 0 (k + o) t (ap (reach_find ps cells fed 0 (k + o)) (sym two) ∙ part_of) in
        let warm = finds_lead v [] 0 (k + o) parts.0 (part_bytes chunk o 64 small (omega arith)) root parts.1 in
        let same : parts.0 ≡ s = same_end u v s parts.0 (omega arith) (subst (λ x. Leads words x s) one there) warm in
        let place : k + length (take (o + 64) chunk) ≡ k + o + length v = omega arith in
        let on : reach_find ps cells fed s (k + length (take (o + 64) chunk)) w ≡ Through t =
        ap (λ n. reach_find ps cells fed n (k + length (take (o + 64) chunk)) w) (sym same) ∙ ap (λ j. reach_find ps cells fed parts.0 j w) place ∙ parts.2 in
        ap (λ n. reach_find ps cells fed from k (take n chunk)) total ∙ ap (reach_find ps cells fed from k) (take-add (o + 64) (m - 64) chunk) ∙ finds_joined ps cells fed (take (o + 64) chunk) w from k s whole ∙ on

    find_next : (step o n s t : ℕ) → o + (step + 64) ≡ n → n ≤ length chunk → reach_find ps cells fed from k (take (o + 64) chunk) ≡ Through s → reach_find ps cells fed 0 (k + o) (take (step + 64) (drop o chunk)) ≡ Through t
        → reach_find ps cells fed from k (take n chunk) ≡ Through t
    find_next step o n s t sum low was next =
        subst (λ j. reach_find ps cells fed from k (take j chunk) ≡ Through t) sum (find_more o (step + 64) s t (omega arith) (omega arith) was next)

    -- six parts without a find: the last one's state is that of the whole
    pub six_quiet : (step a b c d e f : ℕ) → 6 * step + 64 ≤ length chunk
        → reach_find ps cells fed from k (take (step + 64) (drop 0 chunk)) ≡ Through a → reach_find ps cells fed 0 (k + step) (take (step + 64) (drop step chunk)) ≡ Through b
        → reach_find ps cells fed 0 (k + 2 * step) (take (step + 64) (drop (2 * step) chunk)) ≡ Through c → reach_find ps cells fed 0 (k + 3 * step) (take (step + 64) (drop (3 * step) chunk)) ≡ Through d
        → reach_find ps cells fed 0 (k + 4 * step) (take (step + 64) (drop (4 * step) chunk)) ≡ Through e → reach_find ps cells fed 0 (k + 5 * step) (take (step + 64) (drop (5 * step) chunk)) ≡ Through f
        → reach_find ps cells fed from k (take (6 * step + 64) chunk) ≡ Through f
    six_quiet step a b c d e f room one two three four five six =
        let first = find_next step step (2 * step + 64) a b (omega arith) (omega arith) one two in
        let second = find_next step (2 * step) (3 * step + 64) b c (omega arith) (omega arith) first three in
        let third = find_next step (3 * step) (4 * step + 64) c d (omega arith) (omega arith) second four in
        let fourth = find_next step (4 * step) (5 * step + 64) d e (omega arith) (omega arith) third five in
        find_next step (5 * step) (6 * step + 64) e f (omega arith) (omega arith) fourth six

-- one byte more of a part
pub quiet_on : (ps : List Pattern) (cells : List ℕ) (fed : ℕ) (w : List ℕ) (x : Reached) (s t k i : ℕ) → i < length w → x ≡ reach_find ps cells fed s (k + i) (drop i w)
    → ((v : List ℕ) → reach_find ps cells fed s (k + i) (slice_index w i ∷ v) ≡ reach_find ps cells fed t (k + i + 1) v) → x ≡ reach_find ps cells fed t (k + (i + 1)) (drop (i + 1) w)
quiet_on ps cells fed w x s t k i l was step =
    let same : k + i + 1 ≡ k + (i + 1) = omega arith in
    was ∙ at_drop_more (reach_find ps cells fed s (k + i)) w i 0 l ∙ step (drop (i + 1) w) ∙ ap (λ j. reach_find ps cells fed t j (drop (i + 1) w)) same

-- a way without a find through the first bytes, and then through the others
pub quiet_ends : (ps : List Pattern) (cells : List ℕ) (fed : ℕ) (chunk : List ℕ) (s k n m t : ℕ) → n ≤ length chunk → reach_find ps cells fed s k (take n chunk) ≡ Through m
    → reach_find ps cells fed m (k + n) (drop n chunk) ≡ Through t → reach_find ps cells fed s k chunk ≡ Through t
quiet_ends ps cells fed chunk s k n m t room front back =
    let size : k + length (take n chunk) ≡ k + n = omega (arith, length-take-le n chunk room) in
    ap (reach_find ps cells fed s k) (sym (take-append-drop n chunk)) ∙ finds_joined ps cells fed (take n chunk) (drop n chunk) s k m front ∙ ap (λ j. reach_find ps cells fed m j (drop n chunk)) size ∙ back
