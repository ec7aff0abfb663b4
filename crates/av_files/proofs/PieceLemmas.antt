-- The pieces of a text, joined.
use Rattle.std.proofs.Common.{ℕ, ◌≡◌, ◌≢◌, ◌==◌, ◌++◌, true, false, map, append_assoc, append-nil, length, rules, List, [], ◌∷◌, refl, subst, sym, ap, ◌∙◌, inl, inr}
use Rattle.std.proofs.lemmas.Bool.Decides.{eqb_tells}
use Rattle.std.specs.List.{AllByRecursion, filter, join_with_byte}
use Rattle.std.proofs.lemmas.Bool.{cases_Bool}
use Rattle.std.proofs.lemmas.List.{map-append}
use Rattle.std.proofs.lemmas.Str.{IsUtf8-from_is_utf8, is_utf8-from_IsUtf8}
use Rattle.std.specs.Borrow.{Bor}
use Rattle.std.specs.Str.{IsUtf8, is_utf8}
use Rattle.av_status.specs.Tally.{with_missed}
use Rattle.av_status.specs.declared.status.Status.TheVariants.{Refused}
use Rattle.av_base.proofs.LineLemmas.{pieces_some}
use Rattle.av_base.specs.Line.{onto_first, pieces_of}
use Rattle.av_files.specs.Listed.{AreGivenAndListed, HasNo, is_name, with_bad_names}
use Rattle.av_status.specs.declared.tally.Tally.{Tally}

-- a byte in front of the first piece is one in front of all
onto_joined : (s b : ℕ) (p : List ℕ) (ps : List (List ℕ)) → join_with_byte s (onto_first b (p ∷ ps)) ≡ b ∷ join_with_byte s (p ∷ ps)
onto_joined s b p [] = refl
onto_joined s b p (q ∷ ps) = refl

onto_all : (s b : ℕ) (all : List (List ℕ)) (p : List ℕ) (ps : List (List ℕ)) → all ≡ p ∷ ps → join_with_byte s (onto_first b all) ≡ b ∷ join_with_byte s all
onto_all s b all p ps is = subst (λ a. join_with_byte s (onto_first b a) ≡ b ∷ join_with_byte s a) (sym is) (onto_joined s b p ps)

-- an empty piece in front is the byte between
empty_joined : (s : ℕ) (all : List (List ℕ)) (p : List ℕ) (ps : List (List ℕ)) → all ≡ p ∷ ps → join_with_byte s ([] ∷ all) ≡ s ∷ join_with_byte s all
empty_joined s all p ps is = subst (λ a. join_with_byte s ([] ∷ a) ≡ s ∷ join_with_byte s a) (sym is) refl

-- the pieces of a text join back to it
pub pieces_joined : (s : ℕ) (bs : List ℕ) → join_with_byte s (pieces_of s bs) ≡ bs
pieces_joined s [] = refl
pieces_joined s (b ∷ bs) =
    let there = pieces_some s bs in
    let before = pieces_joined s bs in
    elim (eqb_tells b s) [
      | inl p ↦ rw p.0 (empty_joined s (pieces_of s bs) there.0 there.1 there.2 ∙ ap (λ t. s ∷ t) before ∙ ap (λ n. n ∷ bs) (sym p.1))
      | inr p ↦ rw p.0 (onto_all s b (pieces_of s bs) there.0 there.1 there.2 ∙ ap (λ t. b ∷ t) before)
    ]

onto_apart : (s b : ℕ) (ps : List (List ℕ)) → b ≢ s → AllByRecursion (HasNo s) ps → AllByRecursion (HasNo s) (onto_first b ps)
onto_apart s b [] other all = ((other, tt), tt)
onto_apart s b (p ∷ ps) other all = ((other, all.0), all.1)

-- no piece has the byte between them
pub pieces_apart : (s : ℕ) (bs : List ℕ) → AllByRecursion (HasNo s) (pieces_of s bs)
pieces_apart s [] = (tt, tt)
pieces_apart s (b ∷ bs) =
    elim (eqb_tells b s) [
      | inl p ↦ rw p.0 (tt, pieces_apart s bs)
      | inr p ↦ rw p.0 (onto_apart s b (pieces_of s bs) p.1 (pieces_apart s bs))
    ]

-- names in front of those of nothing are all
pub names_end : (s : ℕ) (rest : List ℕ) (names all : List (List ℕ)) → (length rest == 0) ≡ true → names ++ filter is_name (pieces_of s rest) ≡ all → names ≡ all
names_end s [] names all empty is = sym (append-nil names) ∙ is
names_end s (b ∷ rest) names all empty is = absurd (search rules)

-- what is said of a name of the list that is text, and of one that is not
is_text : (x : List ℕ) (xs : List (List ℕ)) → is_utf8 x ≡ true → filter is_utf8 (x ∷ xs) ≡ x ∷ filter is_utf8 xs
is_text x xs e = rw e refl

is_no_text : (x : List ℕ) (xs : List (List ℕ)) → is_utf8 x ≡ false → filter is_utf8 (x ∷ xs) ≡ filter is_utf8 xs
is_no_text x xs e = rw e refl

counted_not : (t : Tally) (x : List ℕ) (xs : List (List ℕ)) → is_utf8 x ≡ true → with_bad_names t (x ∷ xs) ≡ with_bad_names t xs
counted_not t x xs e = rw e refl

counted_once : (t : Tally) (x : List ℕ) (xs : List (List ℕ)) → is_utf8 x ≡ false → with_bad_names t (x ∷ xs) ≡ with_bad_names (with_missed t Refused) xs
counted_once t x xs e = rw e refl

not_utf8 : (x : List ℕ) → ¬ (IsUtf8 x) → is_utf8 x ≡ false
not_utf8 x not = elim (cases_Bool (is_utf8 x)) [
  | inl e ↦ absurd (not (IsUtf8-from_is_utf8 x e))
  | inr e ↦ e
]

-- The names so far lead with those that are left to all, and so does what is counted. The next one of those left is this.
module _ (left : List (Bor (List ℕ))) (x : Bor (List ℕ)) (rest : List (Bor (List ℕ))) (next : left ≡ x ∷ rest) where
  pub text_more : (names : List (Bor (List ℕ))) (name : Bor (List ℕ)) (all : List (List ℕ)) → name.now ≡ x.now → IsUtf8 x.now
      → map (λ n. n.now) names ++ filter is_utf8 (map (λ n. n.now) left) ≡ all → map (λ n. n.now) (names ++ name ∷ []) ++ filter is_utf8 (map (λ n. n.now) rest) ≡ all
  text_more names name all same text so =
      let before : map (λ n. n.now) names ++ filter is_utf8 (x.now ∷ map (λ n. n.now) rest) ≡ all = subst (λ d. map (λ n. n.now) names ++ filter is_utf8 (map (λ n. n.now) d) ≡ all) next so in
      ap (λ l. l ++ filter is_utf8 (map (λ n. n.now) rest)) (map-append (λ n. n.now) names (name ∷ []))
      ∙ append_assoc (map (λ n. n.now) names) (name.now ∷ []) (filter is_utf8 (map (λ n. n.now) rest))
      ∙ ap (λ n. map (λ n. n.now) names ++ n ∷ filter is_utf8 (map (λ n. n.now) rest)) same
      ∙ ap (λ l. map (λ n. n.now) names ++ l) (sym (is_text x.now (map (λ n. n.now) rest) (is_utf8-from_IsUtf8 x.now text)))
      ∙ before

  pub bad_more : (names all : List (List ℕ)) → ¬ (IsUtf8 x.now) → names ++ filter is_utf8 (map (λ n. n.now) left) ≡ all → names ++ filter is_utf8 (map (λ n. n.now) rest) ≡ all
  bad_more names all not so =
      ap (λ l. names ++ l) (sym (is_no_text x.now (map (λ n. n.now) rest) (not_utf8 x.now not))) ∙ subst (λ d. names ++ filter is_utf8 (map (λ n. n.now) d) ≡ all) next so

  pub text_counted : (t all : Tally) → IsUtf8 x.now → with_bad_names t (map (λ n. n.now) left) ≡ all → with_bad_names t (map (λ n. n.now) rest) ≡ all
  text_counted t all text so =
      sym (counted_not t x.now (map (λ n. n.now) rest) (is_utf8-from_IsUtf8 x.now text)) ∙ subst (λ d. with_bad_names t (map (λ n. n.now) d) ≡ all) next so

  pub bad_counted : (t all : Tally) → ¬ (IsUtf8 x.now) → with_bad_names t (map (λ n. n.now) left) ≡ all → with_bad_names (with_missed t Refused) (map (λ n. n.now) rest) ≡ all
  bad_counted t all not so =
      sym (counted_once t x.now (map (λ n. n.now) rest) (not_utf8 x.now not)) ∙ subst (λ d. with_bad_names t (map (λ n. n.now) d) ≡ all) next so

-- where none is left, the names so far are all, and so is what is counted
pub names_all : (left : List (Bor (List ℕ))) (names all : List (List ℕ)) → left ≡ [] → names ++ filter is_utf8 (map (λ n. n.now) left) ≡ all → names ≡ all
names_all left names all none so = sym (append-nil names) ∙ subst (λ l. names ++ filter is_utf8 (map (λ n. n.now) l) ≡ all) none so

pub counted_all : (left : List (Bor (List ℕ))) (t all : Tally) → left ≡ [] → with_bad_names t (map (λ n. n.now) left) ≡ all → t ≡ all
counted_all left t all none so = subst (λ l. with_bad_names t (map (λ n. n.now) l) ≡ all) none so

-- a text of no byte has no name
no_names : (s : ℕ) (pieces : List (List ℕ)) → join_with_byte s pieces ≡ [] → filter is_name pieces ≡ []
no_names s [] e = refl
no_names s ([] ∷ []) e = refl
no_names s ((b ∷ p) ∷ []) e = absurd (search rules)
no_names s ([] ∷ q ∷ pieces) e = absurd (search rules)
no_names s ((b ∷ p) ∷ q ∷ pieces) e = absurd (search rules)

-- where the list is empty there are only the names that were given
pub none_listed : (s : ℕ) (given names : List (List ℕ)) (old new : Tally) → AreGivenAndListed s [] given names old new → (names ≡ given) × (new ≡ old)
none_listed s given names old new are =
    let none = are.of_text.named ∙ no_names s are.of_text.pieces are.of_text.joined in
    (are.all ∙ ap (λ l. given ++ filter is_utf8 l) none ∙ append-nil given, are.counted ∙ ap (with_bad_names old) none)
