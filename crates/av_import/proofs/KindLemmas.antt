use Rattle.std.proofs.Common.{ℕ, ◌≡◌, List, [], ◌∷◌, refl}
use Rattle.av_base.specs.Line.{pieces_of}
use Rattle.av_base.proofs.LineLemmas.{pieces_some}
use Rattle.av_import.specs.Kind.{last_of}

-- what is left has the last piece
pub last_behind : (p bs : List ℕ) → last_of (p ∷ pieces_of 46 bs) ≡ last_of (pieces_of 46 bs)
unfolding last_of
last_behind p bs = let some = pieces_some 46 bs in rw some.2 refl

pub last_one : (p : List ℕ) → last_of (p ∷ []) ≡ p
unfolding last_of
last_one p = refl
