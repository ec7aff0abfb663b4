-- The lines that a scan of files prints.
use Rattle.std.specs.Prelude.{ℕ, ◌≡◌, ◌<◌, ⊤, Bool, false, true, if◌then◌else◌, List, [], ◌∷◌, Option, None, Some, Ok, codes, decimal, length, map, slice_get, unwrap_or}
use Rattle.std.specs.List.{filter}
use Rattle.std.specs.Option.{option_copied, option_map}
use Rattle.std.specs.Io.KnownBytes.{Appends}
use Rattle.av_base.specs.Part.{spelt}
use Rattle.av_base.specs.declared.verdict.Verdict.{Verdict}
use Rattle.av_base.specs.declared.verdict.Verdict.TheVariants.{Clean, Infected}
use Rattle.av_json.specs.File.{file_tokens}
use Rattle.av_json.specs.Line.{object_line}
use Rattle.av_match.specs.Match.{verdict}
use Rattle.av_sigset.specs.Judge.{set_of}
use Rattle.av_sigset.specs.Set.{NumberedSet, patterns_of}
use Rattle.av_status.specs.declared.faults.EmptySets.{EmptySets}
use Rattle.av_status.specs.declared.faults.EmptySets.TheVariants as empty
use Rattle.av_status.specs.Tally.{has_line, no_files, with_scanned}
use Rattle.av_status.specs.declared.tally.Form.{Form}
use Rattle.av_status.specs.declared.tally.Form.TheVariants.{Lines, Json, ZeroEnded}
use Rattle.av_status.specs.declared.tally.Shown.{Shown}
use Rattle.av_status.specs.declared.tally.Tally.{Tally}
use Rattle.av_status.specs.declared.tally.Wishes.{Wishes}
use Rattle.av_files.specs.Quoted.{quoted}
use Rattle.av_files.specs.declared.scan.Scanned.{Scanned}
use Rattle.av_files.specs.declared.scanner.Input.{Input}

-- the name of a signature
abbrev pub name_at : NumberedSet → ℕ → List ℕ
name_at set i = unwrap_or (option_map (λ s. s.name) (slice_get set.signatures i)) []

-- the line of a verdict, with what ends it
abbrev pub verdict_text : NumberedSet → List ℕ → Verdict → List ℕ → List ℕ
verdict_text set file Clean end = spelt (file ∷ codes " clean" ∷ end ∷ [])
verdict_text set file (Infected i e) end =
    spelt (file ∷ codes " infected " ∷ decimal i ∷ codes " " ∷ name_at set i ∷ codes " end " ∷ decimal e ∷ end ∷ [])

-- the name of the signature that was found
abbrev pub name_found : NumberedSet → Verdict → List ℕ
name_found set Clean = []
name_found set (Infected i e) = name_at set i

-- the object of a file that was scanned, and the end of its line
abbrev pub object_of : NumberedSet → Scanned → List ℕ
object_of set s = object_line (file_tokens s.name.now set.version s.verdict (name_found set s.verdict))

-- the line of a file that was scanned, in this form
abbrev pub line_of : Form → NumberedSet → Scanned → List ℕ
line_of Lines set s = verdict_text set (quoted s.name.now) s.verdict (codes "\n")
line_of Json set s = object_of set s
line_of ZeroEnded set s = verdict_text set s.name.now s.verdict (0 ∷ [])

-- this is the verdict of a content, which was read, under the set
abbrev pub HasVerdict : NumberedSet → Option (List ℕ) → Verdict → Type 0
HasVerdict set None v = ⊥
HasVerdict set (Some content) v = v ≡ verdict (patterns_of set.signatures) content

-- a signature was found
abbrev pub is_infected : Verdict → Bool
is_infected Clean = false
is_infected (Infected i e) = true

-- a file under its own name with the verdict of its content, where that was read
abbrev pub scanned_of : NumberedSet → Input → Option Scanned
scanned_of set f = option_map (λ content. record { name = f.name; verdict = verdict (patterns_of set.signatures) content }) (option_copied f.content)

-- the file has a line
abbrev pub is_shown : Shown → Scanned → Bool
is_shown shown s = has_line shown (is_infected s.verdict)

-- the line of a file, where it has one
abbrev pub shown_line : Wishes → NumberedSet → Scanned → List ℕ
shown_line wishes set s = if is_shown wishes.shown s then line_of wishes.form set s else []

-- the lines of the files that have one
abbrev pub shown_lines : Wishes → NumberedSet → List Scanned → List ℕ
shown_lines wishes set scanned = spelt (map (line_of wishes.form set) (filter (is_shown wishes.shown) scanned))

-- files that were scanned, counted one after the other
abbrev pub tally_from : Tally → List Scanned → Tally
tally_from t [] = t
tally_from t (s ∷ scanned) = tally_from (with_scanned t (is_infected s.verdict)) scanned

-- the files in numbers
abbrev pub tally_of : List Scanned → Tally
tally_of scanned = tally_from no_files scanned

-- the content of a signature file spells this set
abbrev pub SpellsSet : Option (List ℕ) → NumberedSet → Type 0
SpellsSet None set = ⊥
SpellsSet (Some content) set = set_of content ≡ Ok set

-- a set is taken: one without signatures only where such are allowed
abbrev pub IsAdmitted : EmptySets → NumberedSet → Type 0
IsAdmitted empty.Refused set = 0 < length set.signatures
IsAdmitted empty.Allowed set = ⊤

-- the signature file spells a set, each file was read, and its line written where it has one
pub record Scans (wishes : Wishes) (content : Option (List ℕ)) (files : List Input) (old new : Option (List ℕ)) : Type 0 where
  pub set : NumberedSet
  pub spelt_by : SpellsSet content set
  pub scanned : List Scanned
  pub judged : map (λ s. Some s) scanned ≡ map (scanned_of set) files
  pub lines : Appends old new (shown_lines wishes set scanned)
