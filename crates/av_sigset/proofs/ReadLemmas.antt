use Rattle.std.proofs.Common.{ℕ, ◌≡◌, ◌<◌, ◌+◌, true, false, cond, List, [], ◌∷◌, ◌++◌, length, Ok, Err, refl, ap, nat_eq, arith, ◌∙◌, eqb-true}
use Rattle.av_base.specs.Line.{pieces_of, onto_first}
use Rattle.av_sigset.specs.declared.format.Format.{Format}
use Rattle.av_sigset.specs.Judge.{set_of_lines, set_in, format_of, set_below, signatures_from, signatures_below, signatures_with, signature_of, version_of, with_version, bad_line, then_line}
use Rattle.av_sigset.specs.declared.fault.SetFaultKind.TheVariants.{Unended}
use Rattle.av_sigset.specs.declared.fault.SetFaultKind.{SetFaultKind}
use Rattle.av_sigset.specs.Line.{JoinsAs}
use Rattle.av_sigset.specs.declared.signature.Signature.{Signature}
use Rattle.av_sigset.specs.declared.signature.Span.{Span}
use Rattle.av_base.proofs.LineLemmas.{pieces_some}

-- line 1 is ended where a line stands below it
pub header_judged : (line bs : List ℕ) → set_of_lines (line ∷ pieces_of 10 bs) ≡ set_in (format_of line) (pieces_of 10 bs)
header_judged line bs = let some = pieces_some 10 bs in rw some.2 refl

-- line 2 is ended where a line stands below it
pub more_lines : (format : Format) (line bs : List ℕ) → set_below format (line ∷ pieces_of 10 bs) ≡ with_version format (version_of (pieces_of 32 line)) (pieces_of 10 bs)
more_lines format line bs = let some = pieces_some 10 bs in rw some.2 refl

-- a line that is ended is judged, and then those below it
pub line_judged : (format : Format) (before : List Signature) (line bs : List ℕ)
    → signatures_from format before (line ∷ pieces_of 10 bs)
    ≡ then_line (length before + 3) (signatures_with before (signature_of format (pieces_of 32 line))) (λ signatures. signatures_from format signatures (pieces_of 10 bs))
unfolding signatures_below
line_judged format before line bs = let some = pieces_some 10 bs in rw some.2 refl

-- onto any list there are two pieces, or it was one
onto_one : (b : ℕ) (ps : List (List ℕ)) (p bs : List ℕ) → onto_first b ps ≡ p ∷ [] → ((q : List ℕ) → ps ≡ q ∷ [] → q ≡ bs) → 0 < length ps → p ≡ b ∷ bs
onto_one b [] p bs e h lt = absurd (omega arith)
onto_one b (q ∷ []) p bs e h lt = let same = h q refl in cc
onto_one b (q ∷ r ∷ ps) p bs e h lt = absurd cc

-- where there is one piece, it is all
pub pieces_one : (s : ℕ) (bs p : List ℕ) → pieces_of s bs ≡ p ∷ [] → p ≡ bs
pieces_one s [] p e = cc
pieces_one s (b ∷ bs) p e =
    (elim (nat_eq b s) as (λ v. cond v ([] ∷ pieces_of s bs) (onto_first b (pieces_of s bs)) ≡ p ∷ [] → p ≡ b ∷ bs) [
      | true ↦ λ f. let some = pieces_some s bs in let none : pieces_of s bs ≡ [] = cc in absurd (cc (none, some.2))
      | false ↦ λ f. let some = pieces_some s bs in onto_one b (pieces_of s bs) p bs f (λ q h. pieces_one s bs q h) (omega (arith, ap length some.2))
    ]) e

-- a last line that is not ended is refused
pub line_unended : (format : Format) (before : List Signature) (bs p : List ℕ) → 0 < length bs → pieces_of 10 bs ≡ p ∷ [] → signatures_from format before (pieces_of 10 bs) ≡ bad_line (length before + 3) Unended
unfolding signatures_below
line_unended format before [] p lt e = absurd (omega arith)
line_unended format before (b ∷ bs) p lt e = let same = pieces_one 10 (b ∷ bs) p e in rw (e, same) refl

-- a line that can't stand behind these is refused
pub line_refused : (format : Format) (before : List Signature) (line bs : List ℕ) (kind : SetFaultKind) → signatures_with before (signature_of format (pieces_of 32 line)) ≡ Err kind
    → signatures_from format before (line ∷ pieces_of 10 bs) ≡ bad_line (length before + 3) kind
line_refused format before line bs kind e = line_judged format before line bs ∙ ap (λ r. then_line (length before + 3) r (λ signatures. signatures_from format signatures (pieces_of 10 bs))) e

-- a line that can stand behind these joins them
pub line_joined : (format : Format) (before : List Signature) (name digits : List ℕ) (span : Span) (line bs : List ℕ) → (j : JoinsAs before name digits span (signature_of format (pieces_of 32 line)))
    → signatures_from format before (line ∷ pieces_of 10 bs) ≡ signatures_from format (before ++ record { name = name; pattern = record { bytes = j.spells.bytes; span = span } } ∷ []) (pieces_of 10 bs)
line_joined format before name digits span line bs j = line_judged format before line bs ∙ ap (λ r. then_line (length before + 3) r (λ signatures. signatures_from format signatures (pieces_of 10 bs))) j.joined

-- where no line is left, these are all
pub line_none : (format : Format) (before : List Signature) → signatures_from format before (pieces_of 10 []) ≡ Ok before
unfolding signatures_below
line_none format before = refl

-- what has no byte is empty, and other texts are longer
pub empty_of : (bs : List ℕ) → nat_eq (length bs) 0 ≡ true → bs ≡ []
empty_of [] e = refl
empty_of (b ∷ bs) e = absurd (omega (arith, eqb-true (length (b ∷ bs)) 0 e))

pub some_of : (bs : List ℕ) → nat_eq (length bs) 0 ≡ false → 0 < length bs
some_of [] e = absurd cc
some_of (b ∷ bs) e = omega arith
