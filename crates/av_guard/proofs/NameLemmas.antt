-- Letters, one after the other, and names, one after the other.
use Rattle.std.proofs.Common.{◌≡◌, ◌<◌, ℕ, zero, suc, ◌+◌, ◌-◌, ◌%◌, ◌/◌, false, cond, List, [], ◌∷◌, ◌++◌, Some, refl, arith, ap, ◌∙◌, take, length, ◌≤◌, sym}
use Rattle.std.specs.declared.random_state.RandomState.{RandomState}
use Rattle.std.proofs.Math.Seq.{take-append_seam, take-length}
use Rattle.std.proofs.lemmas.List.{length-append, length-take-le}
use Rattle.av_guard.specs.Naming.{hash_of, letters, name_of, stem_of}
use Rattle.av_guard.specs.Place.{Spot, Held, Missing, has_bytes, place_from, spot_at}
use Rattle.av_store.specs.Rows.{number_named}
use Rattle.av_store.specs.Store.{Store}

-- the letter of a number after so many of sixteen, and those behind it
pub letters_step : (i n : ℕ) → i < 16 → letters (16 - i) n ≡ (97 + n % 16) ∷ letters (16 - (i + 1)) (n / 16)
unfolding letters
letters_step i n some = first (16 - i) (16 - (i + 1)) (omega (arith, some))
  where
    first : (k j : ℕ) → k ≡ suc j → letters k n ≡ (97 + n % 16) ∷ letters j (n / 16)
    first k j e = ap (λ l. letters l n) e

pub letters_end : (k n : ℕ) → k ≡ 0 → letters k n ≡ []
unfolding letters
letters_end zero n none = refl
letters_end (suc k) n none = absurd (omega (arith, none))

-- the name after so many of all, and those behind it
pub place_step : (i : ℕ) (key : RandomState) (v : Store) (c : List ℕ) → i < 16 → place_from (16 - i) i key v c ≡ spot_at v c (name_of key c i) (place_from (16 - (i + 1)) (i + 1) key v c) (number_named (name_of key c i) v.streams)
unfolding place_from
place_step i key v c some = first (16 - i) (16 - (i + 1)) (omega (arith, some))
  where
    first : (k j : ℕ) → k ≡ suc j → place_from k i key v c ≡ spot_at v c (name_of key c i) (place_from j (i + 1) key v c) (number_named (name_of key c i) v.streams)
    first k j e = ap (λ l. place_from l i key v c) e

pub place_end : (k n : ℕ) (key : RandomState) (v : Store) (c : List ℕ) → k ≡ 0 → place_from k n key v c ≡ Missing
unfolding place_from
place_end zero n key v c none = refl
place_end (suc k) n key v c none = absurd (omega (arith, none))

-- a name's stem, cut off and with another number behind it
pub stem_cut : (name stem : List ℕ) → take 32 name ≡ stem → 32 ≤ length name → (more : List ℕ) → take 32 (take 32 name ++ more) ≡ stem
stem_cut name stem is long more =
    let exact : length (take 32 name) ≡ 32 = length-take-le 32 name long in
    ap (λ n. take n (take 32 name ++ more)) (sym exact) ∙ take-append_seam (take 32 name) more ∙ is

-- a stem is 32 letters
letters_length : (k n : ℕ) → length (letters k n) ≡ k
unfolding letters
letters_length zero n = refl
letters_length (suc k) n = ap suc (letters_length k (n / 16))

pub stem_length : (key : RandomState) (c : List ℕ) → length (stem_of key c) ≡ 32
unfolding stem_of
stem_length key c = omega (arith, length-append (letters 16 (length c)) (letters 16 (hash_of key c)), letters_length 16 (length c), letters_length 16 (hash_of key c))

pub stem_whole : (name : List ℕ) (key : RandomState) (c : List ℕ) → name ≡ stem_of key c → take 32 name ≡ stem_of key c
stem_whole name key c is = ap (λ n. take n name) (sym (stem_length key c)) ∙ ap (λ xs. take (length (stem_of key c)) xs) is ∙ take-length (stem_of key c)

-- a name that another content's stream has
pub passed : (key : RandomState) (v : Store) (c : List ℕ) (i s : ℕ) (all : Spot) → place_from (16 - i) i key v c ≡ all → i < 16 → number_named (name_of key c i) v.streams ≡ Some s → has_bytes v s c ≡ false → place_from (16 - (i + 1)) (i + 1) key v c ≡ all
passed key v c i s all is below found other =
    let later = place_from (16 - (i + 1)) (i + 1) key v c in
    let other_one : spot_at v c (name_of key c i) later (Some s) ≡ later = ap (λ b. cond b (Held s) later) other in
    sym other_one ∙ sym (ap (λ o. spot_at v c (name_of key c i) later o) found) ∙ sym (place_step i key v c below) ∙ is

-- a stem with a number behind it
pub named : (name cut stem : List ℕ) (key : RandomState) (c : List ℕ) (i : ℕ) → stem ≡ stem_of key c → cut ≡ stem → name ≡ cut ++ letters 16 i → name ≡ name_of key c i
unfolding name_of
named name cut stem key c i is same more = more ∙ ap (λ xs. xs ++ letters 16 i) (same ∙ is)
