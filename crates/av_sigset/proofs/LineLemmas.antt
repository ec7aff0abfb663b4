use Rattle.std.proofs.Common.{ℕ, ◌≡◌, List, ◌∷◌, None, Err, ap}
use Rattle.av_base.specs.Line.{pieces_of}
use Rattle.av_base.proofs.LineLemmas.{pieces_some}
use Rattle.av_sigset.specs.Judge.{signature_in, span_in, version_of}
use Rattle.av_sigset.specs.declared.fault.SetFaultKind.TheVariants.{Hex}
use Rattle.av_sigset.specs.declared.format.Format.TheVariants.{One}

-- three words and more are no version
pub three_parts : (word digits bs : List ℕ) → version_of (word ∷ digits ∷ pieces_of 32 bs) ≡ None
three_parts word digits bs =
    let some = pieces_some 32 bs in ap (λ ps. version_of (word ∷ digits ∷ ps)) some.2

-- and no span
pub three_numbers : (low high bs : List ℕ) → span_in (low ∷ high ∷ pieces_of 32 bs) ≡ None
three_numbers low high bs =
    let some = pieces_some 32 bs in ap (λ ps. span_in (low ∷ high ∷ ps)) some.2

-- in format 1 nothing stands behind the digits
pub words_behind : (name digits bs : List ℕ) → signature_in One name digits (pieces_of 32 bs) ≡ Err Hex
words_behind name digits bs =
    let some = pieces_some 32 bs in ap (signature_in One name digits) some.2
