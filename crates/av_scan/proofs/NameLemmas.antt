-- Names on their way.
use Rattle.std.proofs.Common.{ℕ, ◌∙◌, ◌++◌, List, [], ◌∷◌, Option, None, Some, refl, sym, append_assoc}
use Rattle.av_scan.specs.Coming.{AreAll}
use Rattle.av_scan.specs.declared.coming.Coming.{Coming}
use Rattle.av_scan.specs.declared.coming.Coming.TheVariants.{More, Over, Failed}

abbrev Names : Type 0
Names = List (List ℕ)

-- no name was told yet
pub all_begun : (all : Option Names) → AreAll all More [] [] all
all_begun None = tt
all_begun (Some names) = refl

-- the first name leaves
pub all_taken : (all : Option Names) (c : Coming) (told waiting : Names) (n : List ℕ) (left : Option Names) → AreAll all c told (n ∷ waiting) left → AreAll all c (told ++ n ∷ []) waiting left
all_taken all Failed told waiting n left a = tt
all_taken None More told waiting n None a = tt
all_taken None More told waiting n (Some rest) a = a
all_taken (Some all) More told waiting n None a = a
all_taken (Some all) More told waiting n (Some rest) a = a ∙ sym (append_assoc told (n ∷ []) (waiting ++ rest))
all_taken None Over told waiting n left a = tt
all_taken (Some all) Over told waiting n left a = a ∙ sym (append_assoc told (n ∷ []) waiting)
