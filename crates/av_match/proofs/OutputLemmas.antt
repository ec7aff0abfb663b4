-- What a state gives out: the lesser of what it gives out of its own and what its longest proper end that is a word gives out.
use Rattle.std.proofs.Common.{ℕ, zero, suc, ◌≡◌, ◌≢◌, ◌⊎◌, inl, inr, ◌<◌, ◌≤◌, ◌+◌, ◌||◌, ◌==◌, Bool, true, false, List, [], ◌∷◌, ◌++◌, length, slice_index, set, take, drop, if◌then◌else◌, map, min, Option, None, Some, refl, sym, ◌∙◌, ap, ap₂, subst, arith, length-set, get_or-set_same, get_or-set_other}
use Rattle.std.specs.Str.{bytes_eq}
use Rattle.std.proofs.lemmas.Slice.Eq.{bytes_eq-Decides}
use Rattle.std.proofs.lemmas.Bool.{cases_eq, eq-eqb, ne_eqb}
use Rattle.std.proofs.lemmas.Grind.{same_number_lists}
use Rattle.std.proofs.lemmas.List.{take_all, get_or-map, length-map, length-take-le}
use Rattle.std.proofs.Math.Seq.{take-suc}
use Rattle.av_match.specs.Longest.{longest, is_end}
use Rattle.av_match.specs.Search.{occurs_at, index_at}
use Rattle.av_match.specs.Words.{word_at, is_word}
use Rattle.av_match.specs.Part.{HasAll, number_of, output_of}
use Rattle.av_match.specs.States.{AreDistinct, AreEnds, AreFails, AreLed, AreOwn, IsState, own_index, lesser, own_output}
use Rattle.av_match.proofs.OccursLemmas.{index-longest, occurs-is_end}

-- what ends all of a word
occurs_all : (p w : List ℕ) → occurs_at p w (length w) ≡ is_end p w
occurs_all p w = occurs-is_end p w (length w) (omega arith) ∙ ap (is_end p) (take_all (length w) w (omega arith))

-- it is the word, or ends what is left of it
pub occurs_more : (p w : List ℕ) (b : ℕ) → occurs_at p (b ∷ w) (suc (length w)) ≡ (bytes_eq p (b ∷ w) || occurs_at p w (length w))
occurs_more p w b = occurs_all p (b ∷ w) ∙ ap (λ v. bytes_eq p (b ∷ w) || v) (sym (occurs_all p w))

lesser_first : (m n : ℕ) → 0 < m → (n ≡ 0) ⊎ (m ≤ n) → lesser m n ≡ m
lesser_first m n some late =
    ap (λ v. if v then n else if n == 0 then m else min m n) (ne_eqb m 0 (λ z. omega (arith, z, some)))
    ∙ elim (cases_eq n 0) [
      | inl z ↦ ap (λ v. if v then m else min m n) (eq-eqb n 0 z)
      | inr k ↦ ap (λ v. if v then m else min m n) (ne_eqb n 0 k) ∙ elim late [ inl z ↦ absurd (k z) | inr up ↦ omega (arith, up) ]
    ]

lesser_second : (m n : ℕ) → 0 < n → (m ≡ 0) ⊎ (n ≤ m) → lesser m n ≡ n
lesser_second m n some late =
    elim (cases_eq m 0) [
      | inl z ↦ ap (λ v. if v then n else if n == 0 then m else min m n) (eq-eqb m 0 z)
      | inr k ↦
          ap (λ v. if v then n else if n == 0 then m else min m n) (ne_eqb m 0 k)
          ∙ (ap (λ v. if v then m else min m n) (ne_eqb n 0 (λ z. omega (arith, z, some)))
          ∙ elim late [ inl z ↦ absurd (k z) | inr up ↦ omega (arith, up) ])
    ]

-- the numbers of the patterns behind come later
of_late : (i : ℕ) (ps : List (List ℕ)) (w : List ℕ) → (number_of (own_index i ps w) ≡ 0) ⊎ (i + 1 ≤ number_of (own_index i ps w))
of_late i [] w = inl refl
of_late i (p ∷ ps) w =
    elim (bytes_eq p w) as (λ v. (number_of (if v then Some i else own_index (i + 1) ps w) ≡ 0) ⊎ (i + 1 ≤ number_of (if v then Some i else own_index (i + 1) ps w))) [
      | true ↦ inr (omega arith)
      | false ↦ elim (of_late (i + 1) ps w) [ inl none ↦ inl none | inr late ↦ inr (omega (arith, late)) ]
    ]

at_late : (i : ℕ) (ps : List (List ℕ)) (c : List ℕ) (e : ℕ) → (number_of (index_at i ps c e) ≡ 0) ⊎ (i + 1 ≤ number_of (index_at i ps c e))
at_late i [] c e = inl refl
at_late i (p ∷ ps) c e =
    elim (occurs_at p c e) as (λ v. (number_of (if v then Some i else index_at (i + 1) ps c e) ≡ 0) ⊎ (i + 1 ≤ number_of (if v then Some i else index_at (i + 1) ps c e))) [
      | true ↦ inr (omega arith)
      | false ↦ elim (at_late (i + 1) ps c e) [ inl none ↦ inl none | inr late ↦ inr (omega (arith, late)) ]
    ]

later : (i n : ℕ) → (n ≡ 0) ⊎ (i + 1 + 1 ≤ n) → (n ≡ 0) ⊎ (i + 1 ≤ n)
later i n (inl none) = inl none
later i n (inr late) = inr (omega (arith, late))

-- of the first pattern that is a word, and the first that ends what is left of it, the first ends the word
first_of : (i : ℕ) (x y : Bool) (own left both : Option ℕ) → (number_of own ≡ 0) ⊎ (i + 1 + 1 ≤ number_of own) → (number_of left ≡ 0) ⊎ (i + 1 + 1 ≤ number_of left)
    → lesser (number_of own) (number_of left) ≡ number_of both
    → lesser (number_of (if x then Some i else own)) (number_of (if y then Some i else left)) ≡ number_of (if x || y then Some i else both)
first_of i true true own left both own_late left_late rest = lesser_first (i + 1) (i + 1) (omega arith) (inr (omega arith))
first_of i true false own left both own_late left_late rest = lesser_first (i + 1) (number_of left) (omega arith) (later i (number_of left) left_late)
first_of i false true own left both own_late left_late rest = lesser_second (number_of own) (i + 1) (omega arith) (later i (number_of own) own_late)
first_of i false false own left both own_late left_late rest = rest

first_end : (i : ℕ) (ps : List (List ℕ)) (b : ℕ) (w : List ℕ)
    → lesser (number_of (own_index i ps (b ∷ w))) (number_of (index_at i ps w (length w))) ≡ number_of (index_at i ps (b ∷ w) (suc (length w)))
first_end i [] b w = refl
first_end i (p ∷ ps) b w =
    first_of i (bytes_eq p (b ∷ w)) (occurs_at p w (length w)) (own_index (i + 1) ps (b ∷ w)) (index_at (i + 1) ps w (length w)) (index_at (i + 1) ps (b ∷ w) (suc (length w)))
    (of_late (i + 1) ps (b ∷ w)) (at_late (i + 1) ps w (length w)) (first_end (i + 1) ps b w)
    ∙ ap (λ v. number_of (if v then Some i else index_at (i + 1) ps (b ∷ w) (suc (length w)))) (sym (occurs_more p w b))

pub nothing_of : (i : ℕ) (ps : List (List ℕ)) → own_index i ps [] ≡ index_at i ps [] 0
nothing_of i [] = refl
nothing_of i (p ∷ ps) =
    ap (λ v. if v then Some i else own_index (i + 1) ps []) (sym (occurs_all p []))
    ∙ ap (λ o. if occurs_at p [] 0 then Some i else o) (nothing_of (i + 1) ps)

-- a state gives out the lesser of its own number and of what its fail gives out
pub state_output : (ps words : List (List ℕ)) (s f : ℕ) (word : List ℕ) → HasAll ps words → is_word words [] ≡ true → word ≡ word_at words s → [] ≢ word
    → IsState words (longest (is_word words) (drop 1 word)) f → lesser (own_output ps (word_at words s)) (output_of ps (word_at words f)) ≡ output_of ps (word_at words s)
state_output ps words s f [] has empty is_word_s some fail = absurd (some refl)
state_output ps words s f (a ∷ w) has empty is_word_s some fail =
    let left : output_of ps (word_at words f) ≡ output_of ps w = ap (output_of ps) fail.1 ∙ ap number_of (index-longest words ps w has empty) in
    subst (λ v. lesser (own_output ps v) (output_of ps (word_at words f)) ≡ output_of ps v) is_word_s
    (ap (lesser (own_output ps (a ∷ w))) left ∙ first_end 0 ps a w)

-- one pattern more
abbrev pushed : ℕ → Bool → ℕ → ℕ
pushed old same number = if old == 0 then (if same then number else 0) else old

of_push : (k : ℕ) (ps : List (List ℕ)) (p w : List ℕ) → number_of (own_index k (ps ++ p ∷ []) w) ≡ pushed (number_of (own_index k ps w)) (bytes_eq p w) (k + length ps + 1)
of_push k [] p w = elim (bytes_eq p w) as (λ v. number_of (if v then Some k else None) ≡ (if v then k + 0 + 1 else 0)) [ true ↦ omega arith | false ↦ refl ]
of_push k (q ∷ ps) p w =
    elim (bytes_eq q w) as (λ v. number_of (if v then Some k else own_index (k + 1) (ps ++ p ∷ []) w) ≡ pushed (number_of (if v then Some k else own_index (k + 1) ps w)) (bytes_eq p w) (k + suc (length ps) + 1)) [
      | true ↦ sym (ap (λ v. if v then (if bytes_eq p w then k + suc (length ps) + 1 else 0) else k + 1) (ne_eqb (k + 1) 0 (λ z. omega (arith, z))))
      | false ↦
          let count : k + 1 + length ps + 1 ≡ k + suc (length ps) + 1 = omega arith in
          of_push (k + 1) ps p w ∙ ap (pushed (number_of (own_index (k + 1) ps w)) (bytes_eq p w)) count
    ]

own_more : (ps : List (List ℕ)) (i : ℕ) (w : List ℕ) → i < length ps → own_output (take (i + 1) ps) w ≡ pushed (own_output (take i ps) w) (bytes_eq (word_at ps i) w) (i + 1)
own_more ps i w l =
    let size : length (take i ps) ≡ i = length-take-le i ps (omega arith) in
    let count : 0 + length (take i ps) + 1 ≡ i + 1 = omega (arith, size) in
    let next : i + 1 ≡ suc i = omega arith in
    ap (λ n. own_output (take n ps) w) next
    ∙ (ap (λ qs. own_output qs w) (take-suc ps i [] l)
    ∙ (of_push 0 (take i ps) (word_at ps i) w
    ∙ ap (pushed (own_output (take i ps) w) (bytes_eq (word_at ps i) w)) count))

own_first : (ps : List (List ℕ)) (i : ℕ) (w : List ℕ) → i < length ps → own_output (take i ps) w ≡ 0 → w ≡ word_at ps i → own_output (take (i + 1) ps) w ≡ i + 1
own_first ps i w l none same =
    let is_same : bytes_eq (word_at ps i) w ≡ true = (bytes_eq-Decides (word_at ps i) w).1 (sym same) in
    own_more ps i w l ∙ (ap (λ n. pushed n (bytes_eq (word_at ps i) w) (i + 1)) none ∙ ap (λ v. if v then i + 1 else 0) is_same)

own_stays : (ps : List (List ℕ)) (i : ℕ) (w : List ℕ) → i < length ps → (own_output (take i ps) w ≢ 0) ⊎ (w ≢ word_at ps i) → own_output (take (i + 1) ps) w ≡ own_output (take i ps) w
own_stays ps i w l why =
    own_more ps i w l
    ∙ elim (cases_eq (own_output (take i ps) w) 0) [
      | inl none ↦
          let other : bytes_eq (word_at ps i) w ≡ false =
          (elim (bytes_eq (word_at ps i) w) as (λ v. bytes_eq (word_at ps i) w ≡ v → v ≡ false) [
            | true ↦ λ t. absurd (elim why [ inl some ↦ some none | inr differs ↦ differs (sym ((bytes_eq-Decides (word_at ps i) w).0 t)) ])
            | false ↦ λ t. refl
          ]) refl in
          ap (λ n. pushed n (bytes_eq (word_at ps i) w) (i + 1)) none ∙ (ap (λ v. if v then i + 1 else 0) other ∙ sym none)
      | inr some ↦ ap (λ v. if v then (if bytes_eq (word_at ps i) w then i + 1 else 0) else own_output (take i ps) w) (ne_eqb (own_output (take i ps) w) 0 some)
    ]

-- a pattern's number is written where its state has none
pub own_written : (ps words : List (List ℕ)) (old : List ℕ) (i t : ℕ) → AreDistinct words → i < length ps → IsState words (word_at ps i) t
    → AreOwn (take i ps) words old → slice_index old t ≡ 0 → AreOwn (take (i + 1) ps) words (set old t (i + 1))
own_written ps words old i t distinct li state has none = record {
  size = length-set old t (i + 1) ∙ has.size;
  each = λ s ls. elim (cases_eq s t) [
    | inl here ↦
        let first : own_output (take (i + 1) ps) (word_at words t) ≡ i + 1 = own_first ps i (word_at words t) li (sym (has.each t state.0) ∙ none) state.1 in
        let written : slice_index (set old t (i + 1)) t ≡ i + 1 = get_or-set_same old t (i + 1) 0 (let size : length old ≡ length words = has.size in let inside = state.0 in omega arith) in
        subst (λ v. slice_index (set old t (i + 1)) v ≡ own_output (take (i + 1) ps) (word_at words v)) (sym here) (written ∙ sym first)
    | inr other ↦
        get_or-set_other old t s (i + 1) 0 other
        ∙ (has.each s ls ∙ sym (own_stays ps i (word_at words s) li (inr (λ e. other (distinct s t ls state.0 (e ∙ sym state.1))))))
  ];
}

-- and left where it has one
pub own_left : (ps words : List (List ℕ)) (old : List ℕ) (i t : ℕ) → AreDistinct words → i < length ps → IsState words (word_at ps i) t
    → AreOwn (take i ps) words old → slice_index old t ≢ 0 → AreOwn (take (i + 1) ps) words old
own_left ps words old i t distinct li state has some = record {
  size = has.size;
  each = λ s ls. has.each s ls ∙ sym (own_stays ps i (word_at words s) li (elim (cases_eq s t) [
    | inl here ↦ inl (λ none. some (ap (slice_index old) (sym here) ∙ (has.each s ls ∙ none)))
    | inr other ↦ inr (λ e. other (distinct s t ls state.0 (e ∙ sym state.1)))
  ]));
}

-- the end of a pattern that is at most as long as the level is its state
pub end_state : (n i : ℕ) (ps words : List (List ℕ)) (ends : List ℕ) → AreEnds n 0 ps words ends → i < length ps → length (word_at ps i) ≤ n → IsState words (word_at ps i) (slice_index ends i)
end_state n i ps words ends are li short = subst (λ v. IsState words v (slice_index ends i)) (take_all n (word_at ps i) short) (are.here i (omega arith) li)

-- the states below this one are led, and the others have their own numbers
pub record IsLedTo (join : ℕ → ℕ → ℕ) (own fails : List ℕ) (state : ℕ) (led : List ℕ) : Type 0 where
  pub size : length led ≡ length own
  pub root : slice_index led 0 ≡ slice_index own 0
  pub done : (s : ℕ) → 1 ≤ s → s < state → s < length own → slice_index led s ≡ join (slice_index own s) (slice_index led (slice_index fails s))
  pub rest : (s : ℕ) → state ≤ s → s < length own → slice_index led s ≡ slice_index own s

-- so what is led by the lesser is what the states give out
led_output : (ps words : List (List ℕ)) (own fails led : List ℕ) → HasAll ps words → is_word words [] ≡ true → word_at words 0 ≡ [] → AreDistinct words → 0 < length words
    → AreOwn ps words own → AreFails words (length words) fails → ((s : ℕ) → 1 ≤ s → s < length words → slice_index fails s < s) → AreLed lesser own fails led
    → (n s : ℕ) → s < n → s < length words → slice_index led s ≡ output_of ps (word_at words s)
led_output ps words own fails led has empty start distinct some owned known earlier are zero s low l = absurd (omega arith)
led_output ps words own fails led has empty start distinct some owned known earlier are (suc n) s low l =
    elim (cases_eq s 0) [
      | inl root ↦
          subst (λ t. slice_index led t ≡ output_of ps (word_at words t)) (sym root)
          (are.root ∙ (owned.each 0 some ∙ subst (λ w. own_output ps w ≡ output_of ps w) (sym start) (ap number_of (nothing_of 0 ps))))
      | inr some_state ↦
          let past : 1 ≤ s = omega (arith, some_state) in
          let f = slice_index fails s in
          let early : f < s = earlier s past l in
          let below : slice_index led f ≡ output_of ps (word_at words f) =
          led_output ps words own fails led has empty start distinct some owned known earlier are n f (omega (arith, early, low)) (omega (arith, early, l)) in
          are.each s past (omega (arith, owned.size, l))
          ∙ (ap₂ lesser (owned.each s l) below
          ∙ state_output ps words s f (word_at words s) has empty refl (λ e. some_state (distinct s 0 l some (sym e ∙ sym start))) (known.state s past l))
    ]

pub outputs_are : (ps words : List (List ℕ)) (own fails led : List ℕ) → HasAll ps words → is_word words [] ≡ true → word_at words 0 ≡ [] → AreDistinct words → 0 < length words
    → AreOwn ps words own → AreFails words (length words) fails → ((s : ℕ) → 1 ≤ s → s < length words → slice_index fails s < s) → AreLed lesser own fails led
    → led ≡ map (λ w. output_of ps w) words
outputs_are ps words own fails led has empty start distinct some owned known earlier are =
    let size : length (map (λ w. output_of ps w) words) ≡ length words = length-map words (λ w. output_of ps w) in
    same_number_lists led (map (λ w. output_of ps w) words) (are.size ∙ (owned.size ∙ sym size))
    (λ s l.
    let ls : s < length words = omega (arith, are.size, owned.size, l) in
    led_output ps words own fails led has empty start distinct some owned known earlier are (length words) s ls ls ∙ sym (get_or-map (λ w. output_of ps w) words s [] 0 ls))
