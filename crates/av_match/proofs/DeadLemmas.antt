use Rattle.std.proofs.Common.{ℕ, zero, suc, ◌≡◌, inl, inr, ◌<◌, ◌≤◌, ◌+◌, ◌-◌, ◌*◌, ◌==◌, Bool, true, false, cond, List, [], ◌∷◌, ◌++◌, length, map, take, drop, slice_index, Option, None, IfSome, refl, sym, ◌∙◌, ap, ap₂, subst, arith, append_assoc, append-nil, eq-eqb, length-take, length-take-le, length-drop, length-append, drop-drop, get_or-drop, get_or-take, take-append-drop}
use Rattle.std.proofs.lemmas.Bool.{cases_lt}
use Rattle.std.proofs.lemmas.List.{take_all, take-take, take-append-le, drop-take, drop-append-le, get_or-map}
use Rattle.memchr.specs.Find.{OccursAt}
use Rattle.memchr.specs.Pairs.{first_index, pair_of, second_index}
use Rattle.av_match.specs.Longest.{longest, is_end}
use Rattle.av_match.specs.Scanning.{index_of}
use Rattle.av_match.specs.Search.{occurs_at, index_at}
use Rattle.av_match.specs.Words.{word_at, is_word, words_of, AllBytes}
use Rattle.av_match.specs.Part.{IsAutomaton, output_of, number_of}
use Rattle.av_match.specs.Reach.{reach, Leads}
use Rattle.av_match.specs.Passed.{IsOver, IsWalked, IsMissed, IsPassed, ArePassed}
use Rattle.av_match.specs.Shifts.{pair_at, shift_at, AreShifts, HaveRare}
use Rattle.av_match.specs.Shorts.{AreAbsent}
use Rattle.av_match.specs.Tables.{AreTablesOf}
use Rattle.av_match.specs.declared.cells.Reached.TheVariants.{Through}
use Rattle.av_match.specs.declared.rare.RareBytes.{RareBytes}
use Rattle.av_match.specs.declared.tables.Tables.{Tables}
use Rattle.av_match.proofs.LaneLemmas.{reach_split, part_bytes, ends_through}
use Rattle.av_match.proofs.OccursLemmas.{end_is, is_end-from, occurs-is_end, index-longest}
use Rattle.av_match.proofs.ReachLemmas.{gives_at, root_leads, root_silent, longest_self, leads_self, leads_on, through_leads, reach_shifted}
use Rattle.av_match.proofs.RunLemmas.{index_found, number_none}
use Rattle.av_match.proofs.WindowLemmas.{none_of, longest-short, word_begins}
use Rattle.av_match.proofs.WordLemmas.{is_word-at, false_from, begins, longest-length}

-- no pattern begins y, and y begins no pattern
pub record IsDead (ps : List (List ℕ)) (y : List ℕ) : Type 0 where
  pub none : (j : ℕ) → j < length ps → take (length (word_at ps j)) y ≡ word_at ps j → ⊥
  pub short : is_word (words_of ps) y ≡ false

-- no pattern that is shorter than m begins in w
abbrev NoShorter : List (List ℕ) → ℕ → List ℕ → Type 0
NoShorter ps m w = (j : ℕ) → j < length ps → length (word_at ps j) < m → (i : ℕ) → take (length (word_at ps j)) (drop i w) ≡ word_at ps j → ⊥

clash : (b : Bool) → b ≡ true → b ≡ false → ⊥
clash b is not = cc

-- no pattern that ends there, no index
pub index_none : (i : ℕ) (ps : List (List ℕ)) (c : List ℕ) (e : ℕ) → ((j : ℕ) → j < length ps → occurs_at (word_at ps j) c e ≡ false) → index_at i ps c e ≡ None
index_none i [] c e none = refl
index_none i (p ∷ ps) c e none =
    let here : occurs_at p c e ≡ false = none 0 (omega arith) in
    let rest : index_at (i + 1) ps c e ≡ None = index_none (i + 1) ps c e (λ j l. none (suc j) (omega arith)) in
    rw here rest

is_end_self : (p : List ℕ) → is_end p p ≡ true
is_end_self p = is_end-from p p (omega arith) (ap (λ k. drop k p) (let z : length p - length p ≡ 0 = omega arith in z))

-- the longest end that is a node, as an end
longest_drop : (is_node : List ℕ → Bool) (w : List ℕ) → longest is_node w ≡ drop (length w - length (longest is_node w)) w
longest_drop is_node [] = refl
longest_drop is_node (b ∷ w) =
    elim (is_node (b ∷ w)) as (λ v. cond v (b ∷ w) (longest is_node w) ≡ drop (suc (length w) - length (cond v (b ∷ w) (longest is_node w))) (b ∷ w)) [
      | true ↦ let none : suc (length w) - suc (length w) ≡ 0 = omega arith in sym (ap (λ k. drop k (b ∷ w)) none)
      | false ↦
          let few : length (longest is_node w) ≤ length w = longest-length is_node w in
          let one : suc (length w) - length (longest is_node w) ≡ suc (length w - length (longest is_node w)) = omega arith in
          longest_drop is_node w ∙ sym (ap (λ k. drop k (b ∷ w)) one)
    ]

drop_bytes : (p : ℕ) (x : List ℕ) → AllBytes x → p ≤ length x → AllBytes (drop p x)
drop_bytes p x small room k l = subst (λ b. b < 256) (sym (get_or-drop p x k 0)) (small (p + k) (omega (arith, length-drop p x)))

module _ (ps : List (List ℕ)) (next outputs : List ℕ) (auto : IsAutomaton ps next outputs) where
  abbrev words : List (List ℕ)
  words = words_of ps

  empty_word : is_word words [] ≡ true
  empty_word = ap (is_word words) (sym auto.states.start) ∙ is_word-at words 0 auto.states.some

  out_is : (c : List ℕ) → output_of ps (longest (is_word words) c) ≡ number_of (index_at 0 ps c (length c))
  out_is c = ap number_of (index-longest words ps c auto.states.has empty_word)

  occurs_end : (c : List ℕ) (j : ℕ) → occurs_at (word_at ps j) c (length c) ≡ is_end (word_at ps j) c
  occurs_end c j = occurs-is_end (word_at ps j) c (length c) (omega arith) ∙ ap (is_end (word_at ps j)) (take_all (length c) c (omega arith))

  -- no pattern ends the bytes of a state that gives nothing out
  silent_ends : (c : List ℕ) (s j : ℕ) → Leads words c s → slice_index outputs s ≡ 0 → j < length ps → is_end (word_at ps j) c ≡ true → ⊥
  silent_ends c s j there silent l ends =
      let out : number_of (index_at 0 ps c (length c)) ≡ 0 = sym (out_is c) ∙ (ap (output_of ps) (sym there.word) ∙ (sym (gives_at ps next outputs auto s there.inside) ∙ silent)) in
      none_of 0 ps c (length c) (number_none (index_at 0 ps c (length c)) out) j l (occurs_end c j ∙ ends)

  -- and where no pattern does, the state gives nothing out
  ends_silent : (c : List ℕ) (s : ℕ) → Leads words c s → ((j : ℕ) → j < length ps → is_end (word_at ps j) c ≡ true → ⊥) → slice_index outputs s ≡ 0
  ends_silent c s there none =
      let index : index_at 0 ps c (length c) ≡ None = index_none 0 ps c (length c) (λ j l. false_from (occurs_at (word_at ps j) c (length c)) (λ h. none j l (sym (occurs_end c j) ∙ h))) in
      gives_at ps next outputs auto s there.inside ∙ (ap (output_of ps) there.word ∙ (out_is c ∙ ap number_of index))

  -- no pattern ends the first of the bytes that lead through from the root
  through_ends : (w : List ℕ) (t l j : ℕ) → AllBytes w → reach next outputs 0 0 w ≡ Through t → l ≤ length w → j < length ps → is_end (word_at ps j) (take l w) ≡ true → ⊥
  through_ends w t l j small through room lj ends =
      let parts = reach_split next outputs (take l w) (drop l w) 0 0 t (ap (reach next outputs 0 0) (take-append-drop l w) ∙ through) in
      let there = through_leads ps next outputs auto (take l w) [] 0 0 parts.0 (part_bytes w 0 l small (omega arith)) (root_leads ps next outputs auto) (root_silent ps next outputs auto) parts.1 in
      silent_ends (take l w) parts.0 j there.0 there.1 lj ends

  first_word : (y : List ℕ) (k : ℕ) → is_word words y ≡ true → is_word words (take k y) ≡ true
  first_word y k h = begins (is_word words) auto.states.closed (drop k y) (take k y) (ap (is_word words) (take-append-drop k y) ∙ h)

  -- where the first bytes are no word
  dead_cut : (y : List ℕ) (k : ℕ) → is_word words (take k y) ≡ false → ((j : ℕ) → j < length ps → length (word_at ps j) < k → take (length (word_at ps j)) y ≡ word_at ps j → ⊥) → IsDead ps y
  dead_cut y k none few = record {
    none = λ j l same.
        elim (cases_lt (length (word_at ps j)) k) as (λ _. ⊥) [
          | inl less ↦ few j l less same
          | inr more ↦
              let one : take k (word_at ps j) ≡ take k y = ap (take k) (sym same) ∙ take-take k (length (word_at ps j)) y more in
              clash (is_word words (take k y)) (ap (is_word words) (sym one) ∙ first_word (word_at ps j) k (auto.states.has j l)) none
        ];
    short = false_from (is_word words y) (λ h. clash (is_word words (take k y)) (first_word y k h) none);
  }

  -- a window was moved over the place
  over_dead : (shifts w : List ℕ) (m i : ℕ) → AllBytes w → NoShorter ps m w → AreShifts words m shifts → 2 ≤ m → IsOver shifts m w i → IsDead ps (drop i w)
  over_dead shifts w m i small shorter are two over =
      let a = over.start in
      let place = a + m - 2 in
      let low = over.from in
      let high = over.past in
      let room = over.room in
      let far = shift_at shifts m w a in
      let one = small place (omega arith) in
      let other = small (place + 1) (omega arith) in
      let most : far < m = are.most (pair_at w place) (omega (arith, one, other)) in
      let k = m - (i - a) in
      let enough : 2 ≤ k = omega (arith, most, high, low) in
      let y = drop i w in
      let left : length y ≡ length w - i = length-drop i w in
      let fits : i + k ≤ length w = omega (arith, low, high, most, room) in
      let size : length (take k y) ≡ k = length-take-le k y (omega arith) in
      dead_cut y k (false_from (is_word words (take k y)) (λ h.
      let found = index_found words (take k y) h in
      let sound : 2 ≤ length (take k y) → length (take k y) ≤ m → slice_index shifts (pair_at (take k y) (length (take k y) - 2)) + length (take k y) ≤ m =
      subst (λ u. 2 ≤ length u → length u ≤ m → slice_index shifts (pair_at u (length u - 2)) + length u ≤ m) found.1 (are.sound _ found.0) in
      let last : i + (length (take k y) - 2) ≡ place = omega (arith, size, low, high, most, enough) in
      let after : i + (length (take k y) - 2 + 1) ≡ place + 1 = omega (arith, last) in
      let first_same : slice_index (take k y) (length (take k y) - 2) ≡ slice_index w place =
      get_or-take k y (length (take k y) - 2) 0 (omega (arith, size, enough)) ∙ get_or-drop i w (length (take k y) - 2) 0 ∙ ap (slice_index w) last in
      let second_same : slice_index (take k y) (length (take k y) - 2 + 1) ≡ slice_index w (place + 1) =
      get_or-take k y (length (take k y) - 2 + 1) 0 (omega (arith, size, enough)) ∙ get_or-drop i w (length (take k y) - 2 + 1) 0 ∙ ap (slice_index w) after in
      let pair : pair_at (take k y) (length (take k y) - 2) ≡ pair_at w place = ap₂ (λ b c. b + 256 * c) first_same second_same in
      let shift : slice_index shifts (pair_at (take k y) (length (take k y) - 2)) ≡ far = ap (slice_index shifts) pair in
      let bound = sound (omega (arith, size, enough)) (omega (arith, size, low)) in
      omega (arith, bound, shift, size, low, high, most)))
      (λ j l less same. shorter j l (omega (arith, less)) i same)

  -- a walk from the place came to a word that begins after it
  walked_dead : (depths w : List ℕ) (i : ℕ) → AllBytes w → depths ≡ map length words → IsWalked next outputs depths w i → IsDead ps (drop i w)
  walked_dead depths w i small deep walked =
      let count = walked.count in
      let s = walked.state in
      let room = walked.room in
      let y = drop i w in
      let x = take count y in
      let left : length y ≡ length w - i = length-drop i w in
      let size : length x ≡ count = length-take-le count y (omega arith) in
      let bytes : AllBytes x = part_bytes w i count small room in
      let there = through_leads ps next outputs auto x [] 0 0 s bytes (root_leads ps next outputs auto) (root_silent ps next outputs auto) walked.through in
      let depth : slice_index depths s ≡ length (word_at words s) = ap (λ d. slice_index d s) deep ∙ get_or-map length words s [] 0 there.0.inside in
      dead_cut y count (false_from (is_word words x) (λ h.
      let same : length (word_at words s) ≡ length x = ap length (there.0.word ∙ longest_self ps next outputs auto x h) in
      omega (arith, same, size, depth, walked.short)))
      (λ j l less same.
      let front : take (length (word_at ps j)) x ≡ word_at ps j = take-take (length (word_at ps j)) count y (omega (arith, less)) ∙ same in
      through_ends x s (length (word_at ps j)) j bytes walked.through (omega (arith, size, less)) l (ap (is_end (word_at ps j)) front ∙ is_end_self (word_at ps j)))

  -- rare bytes that each pattern has are missing
  missed_dead : (rare : Option RareBytes) (w : List ℕ) (i : ℕ) → IfSome rare (HaveRare ps) → IsMissed rare w i → IsDead ps (drop i w)
  missed_dead rare w i have missed =
      let r = missed.bytes in
      let f = r.finder in
      let each : HaveRare ps r = subst (λ o. IfSome o (HaveRare ps)) missed.one have in
      let y = drop i w in
      let left : length y ≡ length w - i = length-drop i w in
      let there : (j : ℕ) → j < length ps → ((k : ℕ) → k ≤ r.reach → k < length (word_at ps j) → slice_index y k ≡ slice_index (word_at ps j) k) → ⊥ = λ j l same.
      let p = word_at ps j in
      let has = each j l in
      let at : (k : ℕ) → k ≤ r.reach → k < length p → slice_index w (i + k) ≡ slice_index p k = λ k low high. sym (get_or-drop i w k 0) ∙ same k low high in
      missed.other (record {
        first = at (first_index (pair_of f)) (omega (arith, r.reaches)) has.pair.first ∙ sym has.byte1;
        second = at (second_index (pair_of f)) (omega (arith, r.reaches)) has.pair.second ∙ sym has.byte2;
      }) in
      record {
        none = λ j l same. there j l (λ k low high. sym (ap (λ v. slice_index v k) (sym same) ∙ get_or-take (length (word_at ps j)) y k 0 high));
        short = false_from (is_word words y) (λ is.
            let begun = word_begins ps y is (omega (arith, left, missed.room)) in
            let p = word_at ps begun.0 in
            there begun.0 begun.1 (λ k low high. ap (λ v. slice_index v k) (sym begun.2) ∙ get_or-take (length y) p k 0 (omega (arith, left, missed.room, low))));
      }

  -- the first places being dead, the state is that of the rest
  dead_longest : (p : ℕ) (x : List ℕ) → ((i : ℕ) → i < p → IsDead ps (drop i x)) → longest (is_word words) x ≡ longest (is_word words) (drop p x)
  dead_longest zero x dead = refl
  dead_longest (suc p) [] dead = refl
  dead_longest (suc p) (a ∷ x) dead =
      let first : is_word words (a ∷ x) ≡ false = (let d = dead 0 (omega arith) in d.short) in
      ap (λ b. cond b (a ∷ x) (longest (is_word words) x)) first ∙ dead_longest p x (λ i l. dead (suc i) (omega arith))

  module _ (x : List ℕ) (p t : ℕ) (small : AllBytes x) (room : p ≤ length x) (dead : (i : ℕ) → i < p → IsDead ps (drop i x)) (rest : reach next outputs 0 0 (drop p x) ≡ Through t) where
    -- no pattern ends the first bytes
    none_ends : (v w : List ℕ) → x ≡ v ++ w → (j : ℕ) → j < length ps → is_end (word_at ps j) v ≡ true → ⊥
    none_ends v w whole j l ends =
        let pattern = word_at ps j in
        let parts = end_is pattern v ends in
        let short : length pattern ≤ length v = parts.0 in
        let n = length v - length pattern in
        let all : length x ≡ length v + length w = ap length whole ∙ length-append v w in
        let taken : take (length v) x ≡ v = ap (take (length v)) whole ∙ take-append-le (length v) v w (omega arith) ∙ take_all (length v) v (omega arith) in
        elim (cases_lt n p) as (λ _. ⊥) [
          | inl before ↦
              let sum : n + length pattern ≡ length v = omega arith in
              let d = dead n before in
              d.none j l (sym (drop-take n (length pattern) x) ∙ ap (λ k. drop n (take k x)) sum ∙ ap (drop n) taken ∙ parts.1)
          | inr after ↦
              let sum : p + (length v - p) ≡ length v = omega (arith, after, short) in
              let front : take (length v - p) (drop p x) ≡ drop p v = sym (drop-take p (length v - p) x) ∙ ap (λ k. drop p (take k x)) sum ∙ ap (drop p) taken in
              let left : length (drop p v) ≡ length v - p = length-drop p v in
              let rest_left : length (drop p x) ≡ length x - p = length-drop p x in
              let back : p + (length (drop p v) - length pattern) ≡ n = omega (arith, left, after, short) in
              let is : is_end pattern (drop p v) ≡ true = is_end-from pattern (drop p v) (omega (arith, left, after, short)) (drop-drop (length (drop p v) - length pattern) p v ∙ ap (λ k. drop k v) back ∙ parts.1) in
              through_ends (drop p x) t (length v - p) j (drop_bytes p x small room) rest (omega (arith, rest_left, all)) l (ap (is_end pattern) front ∙ is)
        ]

    -- so the other bytes lead to the state of the rest
    goes : (w v : List ℕ) (s k : ℕ) → AllBytes w → x ≡ v ++ w → Leads words v s → slice_index outputs s ≡ 0 → reach next outputs s k w ≡ Through t
    goes [] v s k bytes whole there silent =
        let same : v ≡ x = sym (append-nil v) ∙ sym whole in
        let last = through_leads ps next outputs auto (drop p x) [] 0 0 t (drop_bytes p x small room) (root_leads ps next outputs auto) (root_silent ps next outputs auto) rest in
        let word : word_at words s ≡ word_at words t = there.word ∙ (ap (longest (is_word words)) same ∙ (dead_longest p x dead ∙ sym last.0.word)) in
        ap Through (auto.states.distinct s t there.inside last.0.inside word)
    goes (b ∷ w) v s k bytes whole there silent =
        let n = slice_index next (256 * s + b) in
        let on = leads_on ps next outputs auto v b s (bytes 0 (omega arith)) there silent in
        let again : x ≡ (v ++ b ∷ []) ++ w = whole ∙ sym (append_assoc v (b ∷ []) w) in
        let none : slice_index outputs n ≡ 0 = ends_silent (v ++ b ∷ []) n on (λ j l e. none_ends (v ++ b ∷ []) w again j l e) in
        let test : (slice_index outputs n == 0) ≡ true = eq-eqb _ _ none in
        rw test (goes w (v ++ b ∷ []) n (k + 1) (λ i l. bytes (suc i) (omega arith)) again on none)

module _ (ps : List (List ℕ)) (t : Tables) (of : AreTablesOf ps t) where
  abbrev next : List ℕ
  next = t.cells.now

  abbrev outputs : List ℕ
  outputs = t.outputs.now

  abbrev depths : List ℕ
  depths = t.depths.now

  depth_is : (s : ℕ) → s < length (words_of ps) → slice_index depths s ≡ length (word_at (words_of ps) s)
  depth_is s inside = ap (λ d. slice_index d s) of.skimmer.deep ∙ get_or-map length (words_of ps) s [] 0 inside

  -- what is absent from a piece begins nowhere in it
  no_shorter : (z : List ℕ) → AreAbsent t.shorts.now z → NoShorter ps t.window z
  no_shorter z absent j l less i same =
      let p = word_at ps j in
      let found = index_found t.shorts.now p (of.skimmer.shorter j l less) in
      let some = of.automaton.set.1 j l in
      let size : length (take (length p) (drop i z)) ≡ length p = ap length same in
      let bound = length-take (length p) (drop i z) in
      let left : length (drop i z) ≡ length z - i = length-drop i z in
      let occurs : OccursAt z p i = record {
        fits = omega (arith, size, bound, left, some.0);
        reads = λ k lk. sym (get_or-drop i z k 0) ∙ sym (get_or-take (length p) (drop i z) k 0 lk) ∙ ap (λ w. slice_index w k) same;
      } in
      absent (index_of t.shorts.now p) found.0 i (subst (λ q. OccursAt z q i) (sym found.1) occurs)

  -- nor in what is left of it
  no_shorter-after : (z : List ℕ) (first : ℕ) → NoShorter ps t.window z → NoShorter ps t.window (drop first z)
  no_shorter-after z first none j l less i same = none j l less (first + i) (ap (take (length (word_at ps j))) (sym (drop-drop i first z)) ∙ same)

  passed_dead : (z : List ℕ) (i : ℕ) → AllBytes z → NoShorter ps t.window z → 2 ≤ t.window → IsPassed t z i → IsDead ps (drop i z)
  passed_dead z i small shorter two one =
      elim one as (λ _. IsDead ps (drop i z)) [
        | inl over ↦ over_dead ps next outputs of.automaton t.shifts.now z t.window i small shorter (of.skimmer.sound two) two over
        | inr (inl walked) ↦ walked_dead ps next outputs of.automaton depths z i small of.skimmer.deep walked
        | inr (inr missed) ↦ missed_dead ps next outputs of.automaton t.rare z i of.skimmer.has missed
      ]

  -- two stretches of a piece, one after the other
  both_dead : (x : List ℕ) (first p : ℕ) → AllBytes x → NoShorter ps t.window x → 2 ≤ t.window → first ≤ length x → ArePassed t x 0 first → ArePassed t (drop first x) 0 p → (i : ℕ) → i < first + p → IsDead ps (drop i x)
  both_dead x first p small shorter two within leapt passed i l =
      elim (cases_lt i first) as (λ _. IsDead ps (drop i x)) [
        | inl before ↦ passed_dead x i small shorter two (leapt i (omega arith) before)
        | inr after ↦
            let sum : first + (i - first) ≡ i = omega arith in
            subst (IsDead ps) (drop-drop (i - first) first x ∙ ap (λ k. drop k x) sum)
            (passed_dead (drop first x) (i - first) (drop_bytes first x small within) (no_shorter-after x first shorter) two (passed (i - first) (omega arith) (omega (arith, l, after))))
      ]

  -- a piece that is entered, passed over, and left
  pub skim_is : (c : List ℕ) (from s place first p u : ℕ) → AllBytes c → 2 ≤ t.window → from < length (words_of ps) → slice_index outputs from ≡ 0 → place ≤ length c
      → slice_index depths s ≤ place → reach next outputs from 0 (take place c) ≡ Through s → first ≤ length (drop (place - slice_index depths s) c) → p ≤ length (drop first (drop (place - slice_index depths s) c))
      → AreAbsent t.shorts.now (drop (place - slice_index depths s) c) → ArePassed t (drop (place - slice_index depths s) c) 0 first → ArePassed t (drop first (drop (place - slice_index depths s) c)) 0 p
      → reach next outputs 0 p (drop p (drop first (drop (place - slice_index depths s) c))) ≡ Through u → reach next outputs from 0 c ≡ Through u
  skim_is c from s place first p u small two inside silent room short front within_first within absent leapt passed back =
      let auto = of.automaton in
      let before = word_at (words_of ps) from in
      let v = take place c in
      let size : length v ≡ place = length-take-le place c room in
      let there = through_leads ps next outputs auto v before from 0 s (part_bytes c 0 place small (omega arith)) (leads_self ps next outputs auto from inside) silent front in
      let depth : slice_index depths s ≡ length (word_at (words_of ps) s) = depth_is s there.0.inside in
      let whole_length : length (word_at (words_of ps) s) ≡ length (longest (is_word (words_of ps)) (before ++ v)) = ap length there.0.word in
      let here : word_at (words_of ps) s ≡ longest (is_word (words_of ps)) v = there.0.word ∙ longest-short (is_word (words_of ps)) before v (omega (arith, depth, whole_length, size, short)) in
      let start = place - slice_index depths s in
      let cut : length v - length (longest (is_word (words_of ps)) v) ≡ start = omega (arith, size, depth, ap length here) in
      let word : word_at (words_of ps) s ≡ drop start v = here ∙ (longest_drop (is_word (words_of ps)) v ∙ ap (λ k. drop k v) cut) in
      let x = drop start c in
      let whole : x ≡ word_at (words_of ps) s ++ drop place c = ap (drop start) (sym (take-append-drop place c)) ∙ (drop-append-le start v (drop place c) (omega (arith, size)) ∙ ap (λ z. z ++ drop place c) (sym word)) in
      let bytes : AllBytes x = drop_bytes start c small (omega arith) in
      let others = drop first x in
      let others_left : length others ≡ length x - first = length-drop first x in
      let rest : reach next outputs 0 0 (drop (first + p) x) ≡ Through u = ap (reach next outputs 0 0) (sym (drop-drop p first x)) ∙ reach_shifted next outputs (drop p others) 0 p 0 u back in
      ends_through ps next outputs auto c small from inside silent place s u front room
      (goes ps next outputs auto x (first + p) u bytes (omega (arith, within, within_first, others_left)) (both_dead x first p bytes (no_shorter x absent) two within_first leapt passed) rest (drop place c) (word_at (words_of ps) s) s place
      (drop_bytes place c small room) whole (leads_self ps next outputs auto s there.0.inside) there.1)
