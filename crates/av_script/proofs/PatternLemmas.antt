-- Words of patterns that have too many parts.
use Rattle.std.proofs.Common.{ℕ, ◌≡◌, List, ◌∷◌, None, ap}
use Rattle.av_base.specs.Line.{pieces_of}
use Rattle.av_base.proofs.LineLemmas.{pieces_some}
use Rattle.av_script.specs.Script.Grammar.{span_behind, span_round}

pub two_ats : (range bs : List ℕ) → span_behind (range ∷ pieces_of 64 bs) ≡ None
two_ats range bs = let some = pieces_some 64 bs in ap (λ ps. span_behind (range ∷ ps)) some.2

pub two_hyphens : (low high bs : List ℕ) → span_round (low ∷ high ∷ pieces_of 45 bs) ≡ None
two_hyphens low high bs = let some = pieces_some 45 bs in ap (λ ps. span_round (low ∷ high ∷ ps)) some.2
