use Rattle.std.proofs.Common.{ℕ, ◌≡◌, ◌≤◌, ◌<◌, Bool, true, false, cond, ◌&&◌, List, [], ◌∷◌, length, drop, get_or, nat_eq, Err, refl, ap, arith, suc, drop-cons}
use Rattle.av_base.specs.Decimal.{is_digit}
use Rattle.av_base.specs.Line.{pieces_of}
use Rattle.av_base.proofs.LineLemmas.{pieces_some}
use Rattle.av_import.specs.Offset.{has_plus, has_section, span_in}
use Rattle.av_import.specs.declared.why.Why.TheVariants.{OffsetNumber}

-- three numbers are no offset
pub three_numbers : (low shift bs : List ℕ) → span_in (low ∷ shift ∷ pieces_of 44 bs) ≡ Err OffsetNumber
three_numbers low shift bs = let some = pieces_some 44 bs in ap (λ ps. span_in (low ∷ shift ∷ ps)) some.2

-- the next byte decides, or those behind it
pub one_more : (seen : Bool) (text : List ℕ) (i : ℕ) → i < length text
    → has_plus seen (drop i text) ≡ cond (is_digit (get_or text i 0)) (has_plus true (drop (suc i) text)) (seen && nat_eq (get_or text i 0) 43)
unfolding has_plus
one_more seen text i lt = ap (has_plus seen) (drop-cons text i 0 lt)

-- behind S
pub section_behind : (offset : List ℕ) → 2 ≤ length offset → get_or offset 0 0 ≡ 83 → nat_eq (get_or offset 1 0) 69 ≡ false → has_section offset ≡ has_plus false (drop 1 offset)
section_behind [] long first other = absurd (omega arith)
section_behind (b ∷ []) long first other = absurd (omega arith)
section_behind (b ∷ c ∷ bs) long first other = rw (first, other) refl
