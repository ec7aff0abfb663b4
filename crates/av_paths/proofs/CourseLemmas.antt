-- Folders that are said to be clean.
use Rattle.std.proofs.Common.{◌≡◌, ◌&&◌, Bool, true, false, List, [], ◌∷◌, refl}
use Rattle.std.specs.List.{AllByRecursion}
use Rattle.av_clamd.specs.declared.reply.Spoken.{Spoken}
use Rattle.av_clamd.specs.declared.reply.Spoken.TheVariants.{Clean, Found, FoundAt, Infected, TooLarge, NoVerdict, Failed}
use Rattle.av_paths.specs.declared.course.Course.{Course}
use Rattle.av_paths.specs.Course.{IsCleanIfEachIs, begun, is_clean, passed, passed_all}

pub both_true : (a b : Bool) → (a && b) ≡ true → (a ≡ true) × (b ≡ true)
both_true true true e = (refl, refl)
both_true true false e = absurd cc
both_true false b e = absurd cc

pub clean_is : (s : Spoken) → is_clean s ≡ true → s ≡ Clean
clean_is Clean e = refl
clean_is (Found name) e = absurd cc
clean_is (FoundAt index version) e = absurd cc
clean_is Infected e = absurd cc
clean_is TooLarge e = absurd cc
clean_is (NoVerdict cause) e = absurd cc
clean_is (Failed failing) e = absurd cc

-- what is clean in the end was clean before, and each file is
each_clean : (spoken : List Spoken) (course : Course) → (passed_all course spoken).is_clean ≡ true → (course.is_clean ≡ true) × AllByRecursion (λ s. s ≡ Clean) spoken
each_clean [] course e = (e, tt)
each_clean (s ∷ spoken) course e =
    let rest = each_clean spoken (passed course s) e in
    let both = both_true course.is_clean (is_clean s) rest.0 in
    (both.0, (clean_is s both.1, rest.1))

pub clean_if_each_is : IsCleanIfEachIs
clean_if_each_is is_many spoken e = (each_clean spoken (begun is_many) e).1
