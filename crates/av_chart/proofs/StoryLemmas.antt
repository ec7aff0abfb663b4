use Rattle.std.proofs.Common.{ℕ, zero, suc, ◌≡◌, ◌≢◌, ◌<◌, ◌≤◌, ◌+◌, ◌-◌, ◌==◌, ◌++◌, true, false, List, [], ◌∷◌, length, take, get_or, fold, Some, slice_get, slice_set, refl, sym, ap, ◌∙◌, append_assoc, arith, if◌then◌else◌}
use Rattle.std.proofs.lemmas.List.{map-set}
use Rattle.std.proofs.lemmas.Option.{slice_get-get_or}
use Rattle.av_base.specs.Line.{lines_of, onto_first}
use Rattle.av_script.specs.CommandObjects.{said_world}
use Rattle.av_script.specs.Script.Grammar.{line_of}
use Rattle.av_history.specs.World.{WorldState}
use Rattle.av_chart.proofs.LifeLemmas.{mapped}
use Rattle.av_chart.specs.Told.{tells, told_at, told_from, world_after}
use Rattle.av_chart.specs.Story.{Story, arrived, in_turn, post_of, posts_of, story_after, works_lines}
use Rattle.av_chart.specs.Words.{told_work}
use Rattle.av_chart.specs.declared.happened.Sent.{Sent}

-- what is folded of two lists in a row
pub fold_append : {A B : Type 0} (f : B → A → B) (b : B) (xs ys : List A) → fold f b (xs ++ ys) ≡ fold f (fold f b xs) ys
fold_append f b [] ys = refl
fold_append f b (x ∷ xs) ys = fold_append f (f b x) xs ys

-- one member more, in turn
pub in_turn_next : {A B : Type 0} (f : ℕ → A → B → B) (k : ℕ) (xs : List A) (i : ℕ) (d : A) (b : B) → i < length xs
    → in_turn f k (take (i + 1) xs) b ≡ f (k + i) (get_or xs i d) (in_turn f k (take i xs) b)
in_turn_next f k [] i d b lt = absurd (omega arith)
in_turn_next f k (x ∷ xs) zero d b lt =
    let same : k ≡ k + 0 = omega arith in
    ap (λ n. f n x b) same
in_turn_next f k (x ∷ xs) (suc i) d b lt =
    let lower : i < length xs = omega arith in
    let same : (k + 1) + i ≡ k + suc i = omega arith in
    let next : suc i + 1 ≡ suc (i + 1) = omega arith in
    rw next (in_turn_next f (k + 1) xs i d (f k x b) lower ∙ ap (λ n. f n (get_or xs i d) (in_turn f (k + 1) (take i xs) (f k x b))) same)

-- a message that arrives, among all
pub arrive_is : (items : List Sent) (place at : ℕ) (old new : Sent) → place ≢ 0 → place ≤ length items → old ≡ get_or items (place - 1) old
    → new.arrivals.items ≡ old.arrivals.items ++ at ∷ [] → new.at ≡ old.at → posts_of (slice_set items (place - 1) new) ≡ arrived at place (posts_of items)
arrive_is items zero at old new some within is more same = absurd (some refl)
arrive_is items (suc k) at old new some within is more same =
    let less : suc k - 1 ≡ k = omega arith in
    let inside : suc k - 1 < length items = omega arith in
    let there : slice_get items (suc k - 1) ≡ Some old = slice_get-get_or items (suc k - 1) old inside ∙ ap (λ s. Some s) (sym is) in
    let here : slice_get (posts_of items) k ≡ Some (post_of old) = mapped post_of items k old (ap (λ n. slice_get items n) (sym less) ∙ there) in
    let post : post_of new ≡ record (post_of old) { arrivals = old.arrivals.items ++ at ∷ [] } = post_is new old (old.arrivals.items ++ at ∷ []) more same in
    map-set post_of items (suc k - 1) new ∙ ap (λ p. slice_set (posts_of items) (suc k - 1) p) post ∙ rw here refl
  where
    post_is : (n o : Sent) (arrivals : List ℕ) → n.arrivals.items ≡ arrivals → n.at ≡ o.at → post_of n ≡ record (post_of o) { arrivals = arrivals }
    post_is n o arrivals a b = cc

-- one member more of a loop
pub turned : {A B : Type 0} (f : ℕ → A → B → B) (k : ℕ) (xs : List A) (i : ℕ) (x : A) (old new start : B) → i < length xs → x ≡ get_or xs i x
    → old ≡ in_turn f k (take i xs) start → new ≡ f (k + i) x old → new ≡ in_turn f k (take (i + 1) xs) start
turned f k xs i x old new start lt is so own =
    own ∙ ap (λ b. f (k + i) x b) so ∙ ap (λ y. f (k + i) y (in_turn f k (take i xs) start)) is ∙ sym (in_turn_next f k xs i x start lt)

-- how many bytes lines take, each with its end
pub size_of : List (List ℕ) → ℕ
size_of [] = 0
size_of (l ∷ ls) = (length l + 1) + size_of ls

pub size_within : (bs : List ℕ) → size_of (lines_of bs) ≤ 1 + length bs
unfolding size_of
size_within [] = omega arith
size_within (b ∷ bs) =
    let rest = size_within bs in
    elim (b == 10) as (λ v. size_of (if v then [] ∷ lines_of bs else onto_first b (lines_of bs)) ≤ 1 + length (b ∷ bs)) [
      | true ↦ omega (arith, rest)
      | false ↦ size_put b (length bs) (lines_of bs) rest
    ]
  where
    size_put : (b n : ℕ) (ls : List (List ℕ)) → size_of ls ≤ 1 + n → size_of (onto_first b ls) ≤ 1 + suc n
    size_put b n [] h = omega arith
    size_put b n (l ∷ ls) h = omega (arith, h)

pub size_first : (l : List ℕ) (ls : List (List ℕ)) → size_of (l ∷ ls) ≡ (length l + 1) + size_of ls
unfolding size_of
size_first l ls = refl

-- one line of those that are left
pub line_taken : (w w' : WorldState) (s s' : Story) (n from : ℕ) (l : List ℕ) (ls all : List (List ℕ)) → all ≡ l ∷ ls → w' ≡ said_world w (line_of l)
    → s' ≡ fold story_after s (tells w (told_at n from l) (line_of l))
    → fold story_after s' (told_from w' (n + 1) (from + length l + 1) ls) ≡ fold story_after s (told_from w n from all)
line_taken w w' s s' n from l ls all is world story =
    let told = tells w (told_at n from l) (line_of l) in
    let rest = told_from (said_world w (line_of l)) (n + 1) (from + length l + 1) ls in
    rw (is, world, story) (sym (fold_append story_after s told rest))

pub world_taken : (w w' : WorldState) (l : List ℕ) (ls all : List (List ℕ)) → all ≡ l ∷ ls → w' ≡ said_world w (line_of l) → world_after w' ls ≡ world_after w all
world_taken w w' l ls all is world = rw (is, world) refl

-- the line of one work more
pub works_more : (w : WorldState) (from i : ℕ) → from ≤ i → works_lines w from (i + 1 - from) ≡ works_lines w from (i - from) ++ told_work w i ∷ []
works_more w from i within =
    let next : i + 1 - from ≡ suc (i - from) = omega arith in
    let place : from + (i - from) ≡ i = omega arith in
    rw next (ap (λ n. works_lines w from (i - from) ++ told_work w n ∷ []) place)

pub works_put : (w : WorldState) (from i : ℕ) (old told new : List (List ℕ)) (line : List ℕ) → from ≤ i → told ≡ old ++ works_lines w from (i - from) → line ≡ told_work w i
    → new ≡ told ++ line ∷ [] → new ≡ old ++ works_lines w from (i + 1 - from)
works_put w from i old told new line within so is put =
    put ∙ ap (λ t. t ++ line ∷ []) so ∙ append_assoc old (works_lines w from (i - from)) (line ∷ [])
    ∙ ap (λ l. old ++ (works_lines w from (i - from) ++ l ∷ [])) is ∙ ap (λ ls. old ++ ls) (sym (works_more w from i within))
