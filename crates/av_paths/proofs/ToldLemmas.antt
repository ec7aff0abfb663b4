-- What is said of a path.
use Rattle.std.proofs.Common.{ℕ, ◌≡◌, List, [], ◌∷◌, Bool, inr, subst}
use Rattle.std.proofs.KnownBytes.{Appends-trans}
use Rattle.std.specs.Prelude.{Option, Result, Ok, Err, OnOk}
use Rattle.std.specs.Io.KnownBytes.{Appends}
use Rattle.av_client.specs.declared.asking.AskingFault.{AskingFault}
use Rattle.av_client.specs.declared.reply.Reply.{Reply}
use Rattle.av_paths.specs.Course.{is_clean}
use Rattle.av_paths.specs.Told.{IsFolderCleanByGrant, IsFolderTold, IsTold, all_clean, end_line, lines_of}
use Rattle.av_paths.specs.Verdict.{spoken_of}
use Rattle.av_paths.proofs.CourseLemmas.{both_true, clean_is}
use Rattle.av_paths.proofs.VerdictLemmas.{clean_by_grant}

-- a folder that was told is a path that was
pub folder_told : {A E : Type 0} (r : Result A E) (number end : ℕ) (path : List ℕ) (old new : Option (List ℕ)) → OnOk r (IsFolderTold number end path old new) → OnOk r (IsTold number end path old new)
folder_told (Ok x) number end path old new told = inr (inr told)
folder_told (Err e) number end path old new told = tt

-- the lines of the files were written, and then the end
pub folder_ended : {A E : Type 0} (r : Result A E) (number end : ℕ) (path : List ℕ) (a b c : Option (List ℕ)) (files : List (List ℕ × Result Reply AskingFault)) (clean : Bool)
    → Appends a b (lines_of number end files) → clean ≡ all_clean files → OnOk r (Appends b c (end_line number end path clean)) → OnOk r (IsFolderTold number end path a c)
folder_ended (Ok x) number end path a b c files clean lines is last =
    (files, Appends-trans a b c (lines_of number end files) (end_line number end path (all_clean files)) lines (subst (λ q. Appends b c (end_line number end path q)) is last))
folder_ended (Err e) number end path a b c files clean lines is last = tt

pub folder_granted : IsFolderCleanByGrant
folder_granted [] e = tt
folder_granted ((path, asked) ∷ before) e =
    let both = both_true (all_clean before) (is_clean (spoken_of asked)) e in
    (clean_by_grant asked (clean_is (spoken_of asked) both.1), folder_granted before both.0)
