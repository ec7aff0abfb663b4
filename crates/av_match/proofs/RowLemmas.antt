-- Worked verdicts of patterns that are bound to spans, and what states give out, computed.
use Rattle.std.proofs.Common.{ℕ, ◌≡◌, List, [], ◌∷◌, refl}
use Rattle.av_base.specs.declared.verdict.Verdict.TheVariants.{Clean, Infected}
use Rattle.av_sigset.specs.declared.signature.Pattern.{Pattern}
use Rattle.av_match.specs.Match.{verdict, verdict_at, verdict_to}
use Rattle.av_match.specs.States.{first_some, lesser, own_output}

-- bytes that begin from one place to another
abbrev bound : List ℕ → ℕ → ℕ → Pattern
bound bytes low high = record { bytes = bytes; span = record { low = low; high = high } }

-- "AB" twice
abbrev abab : List ℕ
abab = 0x41 ∷ 0x42 ∷ 0x41 ∷ 0x42 ∷ []

one_place : verdict (bound (0x41 ∷ 0x42 ∷ []) 1 1 ∷ []) abab ≡ Clean
unfolding verdict verdict_to verdict_at
one_place = refl

from_two : verdict (bound (0x41 ∷ 0x42 ∷ []) 2 9 ∷ []) abab ≡ Infected 0 4
unfolding verdict verdict_to verdict_at
from_two = refl

shorter_first : verdict (bound (0x41 ∷ 0x42 ∷ []) 2 2 ∷ bound (0x42 ∷ []) 0 3 ∷ []) abab ≡ Infected 1 2
unfolding verdict verdict_to verdict_at
shorter_first = refl

same_bytes : verdict (bound (0x41 ∷ []) 1 1 ∷ bound (0x41 ∷ []) 0 0 ∷ []) abab ≡ Infected 1 1
unfolding verdict verdict_to verdict_at
same_bytes = refl

-- "B", "AB" and "B" again
abbrev three : List (List ℕ)
three = (0x42 ∷ []) ∷ (0x41 ∷ 0x42 ∷ []) ∷ (0x42 ∷ []) ∷ []

first_of_the_same : own_output three (0x42 ∷ []) ≡ 1
first_of_the_same = refl

no_pattern : own_output three (0x41 ∷ []) ≡ 0
no_pattern = refl

-- the word "AB" is the second pattern, and ends with the first: that one is given out, and the longer is where a scan stops
given_out : lesser (own_output three (0x41 ∷ 0x42 ∷ [])) (own_output three (0x42 ∷ [])) ≡ 1
given_out = refl

only_own : lesser 2 0 ≡ 2
only_own = refl

only_other : lesser 0 2 ≡ 2
only_other = refl

stopped_at : first_some (own_output three (0x41 ∷ 0x42 ∷ [])) (own_output three (0x42 ∷ [])) ≡ 2
stopped_at = refl

stopped_at_the_other : first_some 0 1 ≡ 1
stopped_at_the_other = refl
