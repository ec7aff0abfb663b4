-- At which pattern a state stops: its own, or else that of the longest word that ends its own and is shorter.
use Rattle.std.proofs.Common.{ℕ, zero, suc, ◌≡◌, ◌≢◌, inl, inr, ◌<◌, ◌≤◌, ◌+◌, ◌-◌, ◌||◌, ◌==◌, true, false, List, [], ◌∷◌, length, drop, slice_index, if◌then◌else◌, min, Some, refl, sym, ◌∙◌, ap, ap₂, subst, arith}
use Rattle.std.specs.Str.{bytes_eq}
use Rattle.std.proofs.lemmas.Bool.{cases_eq, eq-eqb, ne_eqb}
use Rattle.std.proofs.lemmas.List.{length-map}
use Rattle.std.proofs.lemmas.Slice.Eq.{bytes_eq-Decides}
use Rattle.av_sigset.specs.declared.signature.Pattern.{Pattern}
use Rattle.av_match.specs.Longest.{longest}
use Rattle.av_match.specs.Part.{HasAll, number_of, output_of}
use Rattle.av_match.specs.Ranged.{AreStops, IsStop}
use Rattle.av_match.specs.Scanning.{state_words}
use Rattle.av_match.specs.Search.{bytes_of, find_at, occurs_at}
use Rattle.av_match.specs.States.{AreDistinct, AreFails, AreLed, AreOwn, IsState, first_some, own_index, own_output}
use Rattle.av_match.specs.Words.{word_at, is_word}
use Rattle.av_match.proofs.OccursLemmas.{find-longest, find_same}
use Rattle.av_match.proofs.OutputLemmas.{nothing_of, occurs_more, state_output}

-- a pattern that has a number is the word
record IsOwn (i : ℕ) (ps : List (List ℕ)) (w : List ℕ) (n : ℕ) : Type 0 where
  from : i < n
  inside : n - 1 - i < length ps
  same : word_at ps (n - 1 - i) ≡ w

is_own : (i : ℕ) (ps : List (List ℕ)) (w : List ℕ) → 0 < number_of (own_index i ps w) → IsOwn i ps w (number_of (own_index i ps w))
is_own i [] w some = absurd (omega (arith, some))
is_own i (p ∷ ps) w some =
    (elim (bytes_eq p w) as (λ v. bytes_eq p w ≡ v → 0 < number_of (if v then Some i else own_index (i + 1) ps w) → IsOwn i (p ∷ ps) w (number_of (if v then Some i else own_index (i + 1) ps w))) [
      | true ↦ λ e h.
          let first : i + 1 - 1 - i ≡ 0 = omega arith in
          record { from = omega arith; inside = omega arith; same = ap (word_at (p ∷ ps)) first ∙ (bytes_eq-Decides p w).0 e }
      | false ↦ λ e h.
          let rest = is_own (i + 1) ps w h in
          let n = number_of (own_index (i + 1) ps w) in
          let later : n - 1 - i ≡ suc (n - 1 - (i + 1)) = omega (arith, rest.from) in
          record { from = omega (arith, rest.from); inside = omega (arith, rest.from, rest.inside); same = ap (word_at (p ∷ ps)) later ∙ rest.same }
    ]) refl some

-- where none has a number none is the word
none_is : (i : ℕ) (ps : List (List ℕ)) (w : List ℕ) → number_of (own_index i ps w) ≡ 0 → (j : ℕ) → j < length ps → bytes_eq (word_at ps j) w ≡ false
none_is i [] w none j l = absurd (omega arith)
none_is i (p ∷ ps) w none j l =
    (elim (bytes_eq p w) as (λ v. bytes_eq p w ≡ v → number_of (if v then Some i else own_index (i + 1) ps w) ≡ 0 → bytes_eq (word_at (p ∷ ps) j) w ≡ false) [
      | true ↦ λ e h. absurd (omega (arith, h))
      | false ↦ λ e h. (elim j as (λ k. k < suc (length ps) → bytes_eq (word_at (p ∷ ps) k) w ≡ false) [ zero ↦ λ m. e | suc k ↦ λ m. none_is (i + 1) ps w h k (omega arith) ]) l
    ]) refl none

-- a pattern that is the word has its finds
own_stop : (ps : List Pattern) (w : List ℕ) (n : ℕ) → n ≡ own_output (bytes_of ps) w → 0 < n → IsStop ps w n
own_stop ps w n is some =
    let own = is_own 0 (bytes_of ps) w (omega (arith, is, some)) in
    let size : length (bytes_of ps) ≡ length ps = length-map ps (λ (q : Pattern). q.bytes) in
    let at : n - 1 ≡ own_output (bytes_of ps) w - 1 - 0 = omega (arith, is) in
    let same : word_at (bytes_of ps) (n - 1) ≡ w = ap (word_at (bytes_of ps)) at ∙ own.same in
    record {
      none = λ z. absurd (omega (arith, z, some));
      inside = λ l. omega (arith, own.inside, size, is);
      same = λ l e. ap (λ v. find_at 0 ps v (length v) e) same;
    }

-- where none is, the word has the finds of its longest shorter end
fail_stop : (ps : List Pattern) (words : List (List ℕ)) (s f n : ℕ) (word : List ℕ) → HasAll (bytes_of ps) words → is_word words [] ≡ true → word ≡ word_at words s → [] ≢ word
    → IsState words (longest (is_word words) (drop 1 word)) f → own_output (bytes_of ps) word ≡ 0 → IsStop ps (word_at words f) n → IsStop ps (word_at words s) n
fail_stop ps words s f n [] has empty is_word_s some fail none stop = absurd (some refl)
fail_stop ps words s f n (a ∷ w) has empty is_word_s some fail none stop =
    let size : length (bytes_of ps) ≡ length ps = length-map ps (λ (q : Pattern). q.bytes) in
    let on : (e : ℕ) → find_at 0 ps (word_at words f) (length (word_at words f)) e ≡ find_at 0 ps (a ∷ w) (suc (length w)) e = λ e.
    ap (λ v. find_at 0 ps v (length v) e) fail.1
    ∙ (find-longest words ps w e has empty
    ∙ find_same 0 ps w (a ∷ w) (length w) (suc (length w)) e (λ j l.
    let q = word_at (bytes_of ps) j in
    sym (occurs_more q w a ∙ ap (λ v. v || occurs_at q w (length w)) (none_is 0 (bytes_of ps) (a ∷ w) none j (omega (arith, size)))))) in
    subst (λ v. IsStop ps v n) is_word_s (record {
      none = λ z.
          let lesser_output = state_output (bytes_of ps) words s f (a ∷ w) has empty is_word_s some fail in
          let own : own_output (bytes_of ps) (word_at words s) ≡ 0 = ap (own_output (bytes_of ps)) (sym is_word_s) ∙ none in
          ap (output_of (bytes_of ps)) is_word_s ∙ (sym lesser_output ∙ ap₂ (λ one other. if one == 0 then other else if other == 0 then one else min one other) own (stop.none z));
      inside = stop.inside;
      same = λ l e. stop.same l e ∙ on e;
    })

root_stop : (ps : List Pattern) (w : List ℕ) (n : ℕ) → [] ≡ w → own_output (bytes_of ps) w ≡ 0 → n ≡ 0 → IsStop ps w n
root_stop ps w n root own none = record {
  none = λ z. subst (λ v. output_of (bytes_of ps) v ≡ 0) root (sym (ap number_of (nothing_of 0 (bytes_of ps))) ∙ (ap (own_output (bytes_of ps)) root ∙ own));
  inside = λ l. absurd (omega (arith, none, l));
  same = λ l e. absurd (omega (arith, none, l));
}

led_stop : (ps : List Pattern) (words : List (List ℕ)) (own fails led : List ℕ) → HasAll (bytes_of ps) words → is_word words [] ≡ true → word_at words 0 ≡ [] → AreDistinct words → 0 < length words
    → AreOwn (bytes_of ps) words own → AreFails words (length words) fails → ((s : ℕ) → 1 ≤ s → s < length words → slice_index fails s < s) → AreLed first_some own fails led
    → (n s : ℕ) → s < n → s < length words → IsStop ps (word_at words s) (slice_index led s)
led_stop ps words own fails led has empty start distinct some owned known earlier are zero s low l = absurd (omega arith)
led_stop ps words own fails led has empty start distinct some owned known earlier are (suc n) s low l =
    let w = word_at words s in
    let mine : slice_index own s ≡ own_output (bytes_of ps) w = owned.each s l in
    elim (cases_eq s 0) [
      | inl root ↦
          let is : slice_index led s ≡ slice_index own s = ap (slice_index led) root ∙ (are.root ∙ ap (slice_index own) (sym root)) in
          elim (cases_eq (slice_index own s) 0) [
            | inl none ↦ root_stop ps w (slice_index led s) (sym (ap (word_at words) root ∙ start)) (sym mine ∙ none) (is ∙ none)
            | inr one ↦ own_stop ps w (slice_index led s) (is ∙ mine) (omega (arith, is, one))
          ]
      | inr past_root ↦
          let past : 1 ≤ s = omega (arith, past_root) in
          let f = slice_index fails s in
          let early : f < s = earlier s past l in
          let led_s : slice_index led s ≡ first_some (slice_index own s) (slice_index led f) = are.each s past (omega (arith, owned.size, l)) in
          elim (cases_eq (slice_index own s) 0) [
            | inl none ↦
                let is : slice_index led s ≡ slice_index led f = led_s ∙ ap (λ v. if v then slice_index led f else slice_index own s) (eq-eqb (slice_index own s) 0 none) in
                let below : IsStop ps (word_at words f) (slice_index led f) =
                led_stop ps words own fails led has empty start distinct some owned known earlier are n f (omega (arith, early, low)) (omega (arith, early, l)) in
                subst (IsStop ps w) (sym is)
                (fail_stop ps words s f (slice_index led f) w has empty refl (λ e. past_root (distinct s 0 l some (sym e ∙ sym start))) (known.state s past l) (sym mine ∙ none) below)
            | inr one ↦
                let is : slice_index led s ≡ slice_index own s = led_s ∙ ap (λ v. if v then slice_index led f else slice_index own s) (ne_eqb (slice_index own s) 0 one) in
                own_stop ps w (slice_index led s) (is ∙ mine) (omega (arith, is, one))
          ]
    ]

pub stops_are : (ps : List Pattern) (own fails led : List ℕ) → HasAll (bytes_of ps) (state_words ps) → is_word (state_words ps) [] ≡ true → word_at (state_words ps) 0 ≡ [] → AreDistinct (state_words ps)
    → 0 < length (state_words ps) → AreOwn (bytes_of ps) (state_words ps) own → AreFails (state_words ps) (length (state_words ps)) fails
    → ((s : ℕ) → 1 ≤ s → s < length (state_words ps) → slice_index fails s < s) → AreLed first_some own fails led → AreStops ps led
stops_are ps own fails led has empty start distinct some owned known earlier are = record {
  size = are.size ∙ owned.size;
  each = λ s l. led_stop ps (state_words ps) own fails led has empty start distinct some owned known earlier are (length (state_words ps)) s l l;
}
