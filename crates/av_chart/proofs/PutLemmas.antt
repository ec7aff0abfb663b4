use Rattle.std.proofs.Common.{ℕ, ◌≡◌, List, [], ◌∷◌, ◌++◌, append_assoc, append-nil}
use Rattle.av_base.specs.Part.{spelt}

-- texts that were put one behind the other
pub put_two : (o a b : List ℕ) → (o ++ a) ++ b ≡ o ++ spelt (a ∷ b ∷ [])
put_two o a b = simp (append_assoc, append-nil)

pub put_three : (o a b c : List ℕ) → ((o ++ a) ++ b) ++ c ≡ o ++ spelt (a ∷ b ∷ c ∷ [])
put_three o a b c = simp (append_assoc, append-nil)

pub put_four : (o a b c d : List ℕ) → (((o ++ a) ++ b) ++ c) ++ d ≡ o ++ spelt (a ∷ b ∷ c ∷ d ∷ [])
put_four o a b c d = simp (append_assoc, append-nil)

pub put_five : (o a b c d e : List ℕ) → ((((o ++ a) ++ b) ++ c) ++ d) ++ e ≡ o ++ spelt (a ∷ b ∷ c ∷ d ∷ e ∷ [])
put_five o a b c d e = simp (append_assoc, append-nil)

pub put_six : (o a b c d e f : List ℕ) → (((((o ++ a) ++ b) ++ c) ++ d) ++ e) ++ f ≡ o ++ spelt (a ∷ b ∷ c ∷ d ∷ e ∷ f ∷ [])
put_six o a b c d e f = simp (append_assoc, append-nil)
