use Rattle.std.proofs.Common.{Result, Ok, Err, IfOk, subst, ℕ, ◌≡◌, ◌<◌, ◌+◌, ◌++◌, List, [], ◌∷◌, length, Option, None, Some, refl, arith, inr, length-append}
use Rattle.std.specs.Io.KnownBytes.{Appends}
use Rattle.std.specs.List.{AllByRecursion}
use Rattle.av_base.specs.Device.{AppendsPrefix}
use Rattle.av_merge.proofs.StandLemmas.{stand_together}
use Rattle.av_merge.specs.Merge.{Merged, MergesOn, merged_from, no_sets}
use Rattle.av_program.specs.Sets.{IsTrustFor}
use Rattle.av_sets.specs.Sets.{IsTrusted}
use Rattle.av_sigset.proofs.FileLemmas.{files_judged}
use Rattle.av_sigset.specs.File.{MayStand}
use Rattle.av_sigset.specs.Judge.{set_of}
use Rattle.av_sigset.specs.Set.{NumberedSet}
use Rattle.av_sigset.specs.Spelling.{ReadsBack, spelling}
use Rattle.av_status.specs.declared.status.Status.{Status}
use Rattle.av_status.specs.declared.status.Status.TheVariants.{Device}
use Rattle.av_trust.specs.declared.trust.Trust.{Trust}
use Rattle.avtool_words.specs.declared.request.Merge.{Merge}
use Rattle.avtool.specs.Merge.{AreOfFiles, IsMergeAsked, IsMergeFile, IsMergeFor, IsMergeOfFiles, Leaves, set_for}
use Rattle.avtool.specs.Placing.{GoesOut}

pub none_yet : (trust : Trust) → IsMergeOfFiles trust 0 no_sets
unfolding merged_from
none_yet trust = ([], refl, tt, refl)

of_push : (trust : Trust) (sets : List NumberedSet) (s : NumberedSet) → AreOfFiles trust sets → IsTrusted trust s → 0 < length s.signatures → MayStand s.signatures
    → AreOfFiles trust (sets ++ s ∷ [])
of_push trust [] s all trusted some may = ((trusted, some, may), tt)
of_push trust (t ∷ sets) s all trusted some may = (all.0, of_push trust sets s all.1 trusted some may)

-- the set of one file more
pub one_more : (trust : Trust) (count : ℕ) (m n : Merged) (s : NumberedSet) → IsMergeOfFiles trust count m → MergesOn m n count s → IsTrusted trust s → 0 < length s.signatures
    → MayStand s.signatures → IsMergeOfFiles trust (count + 1) n
one_more trust count m n s of on trusted some may =
    (of.0 ++ s ∷ [], omega (arith, of.1, length-append of.0 (s ∷ [])), of_push trust of.0 s of.2 trusted some may, on of.0 of.1 of.3)

each_stands : (trust : Trust) (sets : List NumberedSet) → AreOfFiles trust sets → AllByRecursion (λ s. MayStand s.signatures) sets
each_stands trust [] all = tt
each_stands trust (s ∷ sets) all = (all.0.2, each_stands trust sets all.1)

-- the text of a merge
pub text_of : (asked : Merge) (m : Merged) → IsMergeAsked asked m → IsMergeFor asked (spelling (set_for asked m))
text_of asked m of = record { merged = m; of_files = of; spelt = refl }

pub file_of : (asked : Merge) (m : Merged) → IsMergeAsked asked m → ReadsBack (set_for asked m) → IsMergeFile asked (spelling (set_for asked m))
unfolding text_of
file_of asked m of back = record { merge = text_of asked m of; reads_back = λ positive. back positive (let files = of.of_files in stand_together files.0 m files.3 (each_stands of.trust files.0 files.2)) }

pub goes_file : {A : Type 0} (o : Option A) (path : A) (old : Option (List ℕ)) (text : List ℕ) → o ≡ Some path → GoesOut o old old text
goes_file o path old text is = rw is refl

pub goes_out : {A : Type 0} (o : Option A) (old new : Option (List ℕ)) (text : List ℕ) → o ≡ None → Appends old new text → GoesOut o old new text
goes_out o old new text is all = rw is all

pub leaves_front : (asked : Merge) (m : Merged) (status : Status) (old new : Option (List ℕ)) → IsMergeAsked asked m → status ≡ Device
    → AppendsPrefix old new (spelling (set_for asked m)) → Leaves asked status old new
leaves_front asked m status old new of device front = inr (device, (spelling (set_for asked m), text_of asked m of, front))

-- the signatures of a file may be in one
pub spelt_stands : (file : List ℕ) (set : NumberedSet) → set_of file ≡ Ok set → MayStand set.signatures
spelt_stands file set is = let spelt = (files_judged file set).0 is in spelt.signatures

-- a merge of as many sets as were named, by the trust that is asked for
pub asked_by : {E : Type 0} (asked : Merge) (trust : Trust) (count : ℕ) (r : Result Merged E) → IsTrustFor asked.trust trust → count ≡ length asked.files.items
    → IfOk r (IsMergeOfFiles trust count) → IfOk r (IsMergeAsked asked)
asked_by asked trust count (Ok m) by is of = record { trust = trust; trust_for = by; of_files = subst (λ n. IsMergeOfFiles trust n m) is of }
asked_by asked trust count (Err e) by is of = tt
