-- The patterns that end a word have the finds of all.
use Rattle.std.proofs.Common.{ℕ, ◌≡◌, ◌<◌, ◌+◌, ◌-◌, ◌&&◌, true, false, List, [], ◌∷◌, length, Some, if◌then◌else◌, refl, ap, ◌∙◌}
use Rattle.av_sigset.specs.declared.signature.Pattern.{Pattern}
use Rattle.av_match.specs.Endings.{endings_from, first_of}
use Rattle.av_match.specs.Match.{begins_in}
use Rattle.av_match.specs.Ranged.{IsStop}
use Rattle.av_match.specs.Search.{bytes_of, find_at, occurs_at}
use Rattle.av_match.specs.Words.{word_at}
use Rattle.av_match.specs.declared.endings.Ending.{Ending}

-- the first of those that end a word which begins in its span is the first of all patterns that does
pub listed : (i : ℕ) (ps : List Pattern) (w : List ℕ) (e : ℕ) → first_of (endings_from i ps w) e ≡ find_at i ps w (length w) e
listed i [] w e = refl
listed i (p ∷ ps) w e =
    (elim (occurs_at p.bytes w (length w)) as (λ b.
    first_of (if b then record { index = i; length = length p.bytes; span = p.span } ∷ endings_from (i + 1) ps w else endings_from (i + 1) ps w) e
    ≡ (if b && begins_in p.span (e - length p.bytes) then Some i else find_at (i + 1) ps w (length w) e)) [
      | true ↦ ap (λ r. if begins_in p.span (e - length p.bytes) then Some i else r) (listed (i + 1) ps w e)
      | false ↦ listed (i + 1) ps w e
    ])

-- what is found at a state is the first ending of its stop
pub asked : (ps : List Pattern) (w : List ℕ) (list : List Ending) (n e : ℕ) → IsStop ps w n → 0 < n
    → list ≡ endings_from 0 ps (word_at (bytes_of ps) (n - 1)) → first_of list e ≡ find_at 0 ps w (length w) e
asked ps w list n e stop some is = ap (λ xs. first_of xs e) is ∙ listed 0 ps (word_at (bytes_of ps) (n - 1)) e ∙ stop.same some e
