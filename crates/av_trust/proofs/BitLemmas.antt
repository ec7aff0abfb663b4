-- Bytes that are compared or turned bit by bit.
use Rattle.std.proofs.Common.{◌≡◌, ℕ, ◌+◌, ◌<◌, ◌≤◌, ◌↔◌, List, length, take, refl, sym, ap, ◌∙◌, arith, get_or, set}
use Rattle.std.proofs.lemmas.List.{take_all, take_more_set, take_more_same, take-take, get_or-take, map_more}
use Rattle.std.proofs.lemmas.Nat.{le_or_l, le_or_r}
use Rattle.std.proofs.lemmas.Bool.Decides.{Decides-eqb, Decides-like, same_from_decides}
use Rattle.std.proofs.lemmas.Slice.Eq.{bytes_eq-Decides}
use Rattle.std.specs.Prelude.{◌==◌, bit_or, bit_xor}
use Rattle.std.specs.Str.{bytes_eq}
use lib.Bits.{xor_assoc, xor_self, xor_zero_l, xor_zero_r}
use Rattle.av_trust.specs.Hmac.{masked}

pub xor_same : (a b : ℕ) → bit_xor a b ≡ 0 → a ≡ b
xor_same a b e =
    let back : bit_xor a (bit_xor a b) ≡ a = rw e (xor_zero_r a) in
    let on : bit_xor a (bit_xor a b) ≡ b = sym (xor_assoc a a b) ∙ rw (xor_self a) (xor_zero_l b) in
    sym back ∙ on

pub or_none : (a b : ℕ) → bit_or a b ≡ 0 → (a ≡ 0) × (b ≡ 0)
or_none a b e = (omega (arith, le_or_l a b, e), omega (arith, le_or_r a b, e))

-- one byte more is compared
pub same_so_far : (xs ys : List ℕ) (i t : ℕ) → i < length xs → i < length ys → ((t ≡ 0) ↔ (take i xs ≡ take i ys))
    → ((bit_or t (bit_xor (get_or xs i 0) (get_or ys i 0)) ≡ 0) ↔ (take (i + 1) xs ≡ take (i + 1) ys))
same_so_far xs ys i t hx hy so_far =
    let here : ℕ = bit_xor (get_or xs i 0) (get_or ys i 0) in (
      λ e. let parts = or_none t here e in take_more_same xs ys i 0 hx hy (so_far.0 parts.0) (xor_same _ _ parts.1),
      λ e.
          let before : take i xs ≡ take i ys = sym (take-take i (i + 1) xs (omega arith)) ∙ ap (take i) e ∙ take-take i (i + 1) ys (omega arith) in
          let here_too : get_or xs i 0 ≡ get_or ys i 0 =
          sym (get_or-take (i + 1) xs i 0 (omega arith)) ∙ ap (λ l. get_or l i 0) e ∙ get_or-take (i + 1) ys i 0 (omega arith) in
          let none : t ≡ 0 = so_far.1 before in
          rw (none, here_too, xor_self (get_or ys i 0)) refl,
    )

-- all bytes are compared
pub same_all : (xs ys : List ℕ) (i t : ℕ) → length xs ≤ i → length ys ≤ i → ((t ≡ 0) ↔ (take i xs ≡ take i ys)) → (t == 0) ≡ bytes_eq xs ys
same_all xs ys i t hx hy so_far =
    same_from_decides (t == 0) (bytes_eq xs ys)
    (Decides-like (t == 0) (λ e. sym (take_all i xs hx) ∙ so_far.0 e ∙ take_all i ys hy) (λ e. so_far.1 (ap (take i) e)) (Decides-eqb t 0))
    (bytes_eq-Decides xs ys)

-- one byte more is turned
pub masked_more : (mask : ℕ) (xs ys : List ℕ) (i y : ℕ) → i < length xs → i < length ys → y ≡ bit_xor (get_or ys i 0) mask
    → take i xs ≡ masked mask (take i ys) → take (i + 1) (set xs i y) ≡ masked mask (take (i + 1) ys)
masked_more mask xs ys i y hx hy e so_far =
    take_more_set xs i y hx ∙ rw (so_far, e) refl ∙ sym (map_more (λ b. bit_xor b mask) ys i 0 hy)

-- all bytes of a block are turned
pub masked_all : (mask : ℕ) (xs ys : List ℕ) (i : ℕ) → length xs ≤ i → length ys ≤ i
    → take i xs ≡ masked mask (take i ys) → xs ≡ masked mask ys
masked_all mask xs ys i hx hy e = sym (take_all i xs hx) ∙ e ∙ ap (masked mask) (take_all i ys hy)
