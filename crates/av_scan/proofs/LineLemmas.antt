-- The lines of a file, by its name and by what is found in it.
use Rattle.std.proofs.Common.{ℕ, ◌≡◌, ◌∙◌, ◌++◌, List, [], ◌∷◌, Option, None, Some, Result, Ok, Err, append-nil, append_assoc, ap, if◌then◌else◌, refl, slice_get, subst, sym}
use Rattle.std.specs.Io.KnownBytes.{Appends, Keeps}
use Rattle.av_base.proofs.DeviceLemmas.{Appends-kept, prefix_after, prefix_before}
use Rattle.av_base.specs.Device.{AppendsPrefix, Writes}
use Rattle.av_files.specs.Findings.{NamedSet}
use Rattle.av_files.specs.Scan.{is_infected}
use Rattle.av_files.specs.Under.{line_under, shown_under}
use Rattle.av_files.specs.declared.finding.Finding.{Finding}
use Rattle.av_files.specs.declared.scan.Scanned.{Scanned}
use Rattle.av_scan.specs.Outcome.{finding_text, findings_text, text_of, text_under, told_name}
use Rattle.av_scan.specs.Told.{status_of}
use Rattle.av_scan.specs.declared.told.Unscanned.{Unscanned}
use Rattle.av_scan.specs.declared.told.Unscanned.TheVariants.{TooLarge, Unreadable, NotText, NoMemory}
use Rattle.av_sigset.specs.Set.{NumberedSet}
use Rattle.av_status.specs.Status.{IsFault}
use Rattle.av_status.specs.declared.status.Status.{Status}
use Rattle.av_status.specs.Tally.{has_line}
use Rattle.av_status.specs.declared.tally.Form.{Form}
use Rattle.av_status.specs.declared.tally.Form.TheVariants.{Lines, Json, ZeroEnded}
use Rattle.av_status.specs.declared.tally.Wishes.{Wishes}

same_form : (form : Form) (of : Option (List ℕ)) (set : NumberedSet) (s : Scanned) → line_under form of set s ≡ text_of form of set s.name.now s.verdict
same_form Lines None set s = refl
same_form Json None set s = refl
same_form ZeroEnded None set s = refl
same_form Lines (Some of) set s = refl
same_form Json (Some of) set s = refl
same_form ZeroEnded (Some of) set s = refl

-- the line of a finding is that of a file with its verdict under the set at its place
same_line : (wishes : Wishes) (sets : List NamedSet) (f : Finding) (s : NamedSet) (file : Scanned) → slice_get sets f.set ≡ Some s → file.verdict ≡ f.verdict
    → shown_under wishes (told_name sets s) s.set file ≡ finding_text wishes sets file.name.now f
same_line wishes sets f s file is same =
    ap (λ t. if has_line wishes.shown (is_infected file.verdict) then t else []) (same_form wishes.form (told_name sets s) s.set file)
    ∙ ap (λ v. if has_line wishes.shown (is_infected v) then text_of wishes.form (told_name sets s) s.set file.name.now v else []) same
    ∙ ap (λ o. if has_line wishes.shown (is_infected f.verdict) then text_under wishes.form sets o file.name.now f.verdict else []) (sym is)

-- what was written of a finding
pub finding_written : {A E : Type 0} (r : Result A E) (wishes : Wishes) (sets : List NamedSet) (f : Finding) (s : NamedSet) (file : Scanned) (of : Option (List ℕ)) (set : NumberedSet) (a b : Option (List ℕ))
    → slice_get sets f.set ≡ Some s → file.verdict ≡ f.verdict → of ≡ told_name sets s → set ≡ s.set
    → Writes r a b (shown_under wishes of set file) → Writes r a b (finding_text wishes sets file.name.now f)
finding_written r wishes sets f s file of set a b is same named of_set w =
    subst (Writes r a b) (ap (λ o. shown_under wishes o set file) named ∙ ap (λ t. shown_under wishes (told_name sets s) t file) of_set ∙ same_line wishes sets f s file is same) w

-- one finding more has its line
pub told_more : (wishes : Wishes) (sets : List NamedSet) (name : List ℕ) (f : Finding) (rest after : List Finding) (told all : List ℕ) → rest ≡ f ∷ after
    → told ++ findings_text wishes sets name rest ≡ all → (told ++ finding_text wishes sets name f) ++ findings_text wishes sets name after ≡ all
told_more wishes sets name f rest after told all is so =
    append_assoc told (finding_text wishes sets name f) (findings_text wishes sets name after) ∙ subst (λ fs. told ++ findings_text wishes sets name fs ≡ all) is so

-- a front of the line of one finding was written
pub told_front : (wishes : Wishes) (sets : List NamedSet) (name : List ℕ) (f : Finding) (rest after : List Finding) (told all : List ℕ) (old held new : Option (List ℕ)) → rest ≡ f ∷ after
    → told ++ findings_text wishes sets name rest ≡ all → Appends old held told → AppendsPrefix held new (finding_text wishes sets name f) → AppendsPrefix old new all
told_front wishes sets name f rest after told all old held new is so whole part =
    subst (AppendsPrefix old new) (subst (λ fs. told ++ findings_text wishes sets name fs ≡ all) is so)
    (prefix_after old held new told _ whole (prefix_before held new (finding_text wishes sets name f) (findings_text wishes sets name after) part))

-- a text that was written whole before a flush
pub kept_whole : {A E : Type 0} (r : Result A E) (a b c : Option (List ℕ)) (text : List ℕ) → Appends a b text → Keeps b c → Writes r a c text
kept_whole (Ok done) a b c text p q = Appends-kept a b c text p q
kept_whole (Err fault) a b c text p q = record { front = text; back = []; parts = sym (append-nil text); appended = Appends-kept a b c text p q }

-- what was not scanned is a fault
pub is_fault : (u : Unscanned) (s : Status) → s ≡ status_of u → IsFault s
is_fault TooLarge s e = subst IsFault (sym e) tt
is_fault Unreadable s e = subst IsFault (sym e) tt
is_fault NotText s e = subst IsFault (sym e) tt
is_fault NoMemory s e = subst IsFault (sym e) tt
