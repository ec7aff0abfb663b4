-- The order of those that have asks in line.
use Rattle.std.proofs.Common.{arith, ap, sym, subst, refl, ◌∙◌, ◌≡◌, ℕ, Bool, not, ◌||◌, ◌&&◌, true, false, List, [], ◌∷◌, ◌++◌, drop, length, nat_eq, None, is_some, slice_get, cond, unwrap_or, append_assoc}
use Rattle.std.specs.Option.{option_map}
use Rattle.std.specs.List.{list_any}
use Rattle.std.specs.Set.{remove_key}
use Rattle.std.proofs.lemmas.Bool.Decides.{nat_tests}
use Rattle.av_turns.specs.Clients.{is_once}
use Rattle.av_turns.specs.Line.{Asked, Drops, IsOrdered, Leaves, Lined, queue_at, queue_of, SameAsks, Skips}
use Rattle.av_turns.proofs.ClientsLemmas.{and_false, and_true}
use Rattle.av_turns.proofs.RingLemmas.{once_more, removed_any, removed_once, stands, stands_turned, turned}

pub nothing_in_front : (xs : List Asked) → option_map (λ a. length a.content) (slice_get xs 0) ≡ None → xs ≡ []
nothing_in_front [] h = refl
nothing_in_front (a ∷ xs) h = grind (arith, h)

dropped_by : (b : Bool) (old new : List (ℕ × List Asked)) (n q : ℕ) → Drops old new n → queue_of old n ≡ [] → nat_eq q n ≡ b → queue_of new q ≡ queue_of old q
dropped_by true old new n q drops nothing e =
    let same_number : q ≡ n = grind (arith, nat_tests, e) in
    ap (λ o. unwrap_or o []) (drops q ∙ ap (λ b. cond b None (queue_at old q)) e) ∙ sym (ap (queue_of old) same_number ∙ nothing)
dropped_by false old new n q drops nothing e = ap (λ o. unwrap_or o []) (drops q ∙ ap (λ b. cond b None (queue_at old q)) e)

pub drops_nothing : (old new : List (ℕ × List Asked)) (n : ℕ) → Drops old new n → queue_of old n ≡ [] → SameAsks old new
drops_nothing old new n drops nothing = λ q. dropped_by (nat_eq q n) old new n q drops nothing refl

pub turned_order : (old new : List (ℕ × List Asked)) (order : List ℕ) (n : ℕ) → IsOrdered old order → order ≡ n ∷ drop 1 order → ((q : ℕ) → is_some (queue_at new q) ≡ is_some (queue_at old q)) → IsOrdered new (drop 1 order ++ n ∷ [])
turned_order old new order n ordered front there =
    record {
      there = λ q. stands_turned q n (drop 1 order) ∙ ap (λ r. list_any (nat_eq q) r) (sym front) ∙ ordered.there q ∙ sym (there q);
      once = turned n (drop 1 order) (subst (λ r. is_once r ≡ true) front ordered.once);
    }

pub joined_order : (old new : List (ℕ × List Asked)) (order : List ℕ) (n : ℕ) → IsOrdered old order → queue_at old n ≡ None → ((q : ℕ) → is_some (queue_at new q) ≡ (is_some (queue_at old q) || nat_eq q n)) → IsOrdered new (order ++ n ∷ [])
joined_order old new order n ordered none there =
    record {
      there = λ q. stands q n order ∙ ap (λ b. b || nat_eq q n) (ordered.there q) ∙ sym (there q);
      once = once_more n order ordered.once (ordered.there n ∙ ap is_some none);
    }

gone_by : (b : Bool) (old new : List (ℕ × List Asked)) (order : List ℕ) (n q : ℕ) → IsOrdered old order → Drops old new n → nat_eq q n ≡ b → list_any (nat_eq q) (remove_key (nat_eq n) order) ≡ is_some (queue_at new q)
gone_by true old new order n q ordered drops e =
    removed_any q n order ordered.once ∙ ap (λ b. list_any (nat_eq q) order && not b) e ∙ and_false (list_any (nat_eq q) order) ∙ sym (ap is_some (drops q ∙ ap (λ b. cond b None (queue_at old q)) e))
gone_by false old new order n q ordered drops e =
    removed_any q n order ordered.once ∙ ap (λ b. list_any (nat_eq q) order && not b) e ∙ and_true (list_any (nat_eq q) order) ∙ ordered.there q ∙ sym (ap is_some (drops q ∙ ap (λ b. cond b None (queue_at old q)) e))

pub gone_order : (old new : List (ℕ × List Asked)) (order : List ℕ) (n : ℕ) → IsOrdered old order → Drops old new n → IsOrdered new (remove_key (nat_eq n) order)
gone_order old new order n ordered drops =
    record { there = λ q. gone_by (nat_eq q n) old new order n q ordered drops refl; once = removed_once n order ordered.once }

or_one : (b : Bool) → (b || true) ≡ true
or_one true = refl
or_one false = refl

left_or : (b rest : Bool) (old : List (ℕ × List Asked)) (q : ℕ) → (b ≡ true → queue_of old q ≡ []) → (rest ≡ true → queue_of old q ≡ []) → (b || rest) ≡ true → queue_of old q ≡ []
left_or true rest old q first others here = first refl
left_or false rest old q first others here = others here

-- one more that has no ask left the order
left_bare : (old between : Lined) (gone : List ℕ) (who q : ℕ) → ((m : ℕ) → list_any (nat_eq m) gone ≡ true → queue_of old.asks m ≡ []) → SameAsks old.asks between.asks → queue_of between.asks who ≡ []
    → list_any (nat_eq q) (gone ++ who ∷ []) ≡ true → queue_of old.asks q ≡ []
left_bare old between [] who q bare same none here =
    let same_number : q ≡ who = grind (arith, nat_tests, here) in
    sym (same q) ∙ ap (queue_of between.asks) same_number ∙ none
left_bare old between (g ∷ gone) who q bare same none here =
    left_or (nat_eq q g) (list_any (nat_eq q) (gone ++ who ∷ [])) old.asks q (λ is. bare q (ap (λ b. b || list_any (nat_eq q) gone) is))
    (λ there. left_bare old between gone who q (λ m in_rest. bare m (ap (λ b. nat_eq m g || b) in_rest ∙ or_one (nat_eq m g))) same none there) here

pub skips_more : (old between new : Lined) → Skips old between → Leaves between new → Skips old new
skips_more old between new s l =
    record {
      gone = s.gone ++ l.who ∷ [];
      order = s.order ∙ ap (λ o. s.gone ++ o) l.front ∙ sym (append_assoc s.gone (l.who ∷ []) new.order);
      bare = λ q here. left_bare old between s.gone l.who q s.bare s.asks l.bare here;
      asks = λ q. l.asks q ∙ s.asks q;
    }
