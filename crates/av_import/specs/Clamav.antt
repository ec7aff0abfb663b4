-- The lines of ClamAV's `.ndb` and `.db` files.
use Rattle.std.specs.Prelude.{ℕ, ◌≡◌, ◌==◌, ◌||◌, Bool, nat_le, List, [], ◌∷◌, ◌++◌, length, Option, None, Some, Result, Ok, Err, if◌then◌else◌}
use Rattle.std.specs.List.{list_all}
use Rattle.av_base.specs.Line.{pieces_of}
use Rattle.av_sigset.specs.Line.{SpellsPattern}
use Rattle.av_sigset.specs.Set.{IsSpan, widest}
use Rattle.av_sigset.specs.declared.signature.Signature.{Signature}
use Rattle.av_sigset.specs.declared.signature.Span.{Span}
use Rattle.av_import.specs.Bytes.{bytes_of}
use Rattle.av_import.specs.Number.{number_of}
use Rattle.av_import.specs.Offset.{span_of}
use Rattle.av_import.specs.declared.kind.Form.{Form}
use Rattle.av_import.specs.declared.kind.Form.TheVariants.{Ndb, Db}
use Rattle.av_import.specs.declared.why.Why.{Why}
use Rattle.av_import.specs.declared.why.Why.TheVariants.{NoNdbLine, NoDbLine, TargetNumber, Target, Html, Mail, Text}

-- bytes under a name, bound to places; the bytes are judged first
abbrev pub signature_in : List ℕ → Result (List ℕ) Why → Result Span Why → Result Signature Why
signature_in name (Err why) span = Err why
signature_in name (Ok bytes) (Err why) = Err why
signature_in name (Ok bytes) (Ok span) = Ok (record { name = name; pattern = record { bytes = bytes; span = span } })

-- target 0 is each file; the others are some files only, and of 3, 4 and 7 another content is searched
abbrev pub fault_of_target : Bool → Option ℕ → Option Why
fault_of_target any None = Some TargetNumber
fault_of_target any (Some n) =
    if n == 3 then Some Html
    else if n == 4 then Some Mail
    else if n == 7 then Some Text
    else if n == 0 || any then None
    else Some (Target n)

-- a fault comes before what follows
abbrev pub past : Option Why → Result Signature Why → Result Signature Why
past None next = next
past (Some why) next = Err why

-- the fields of an `.ndb` line: a name, a target, an offset, hexadecimal text, and at most two more
abbrev pub ndb_of : Bool → List (List ℕ) → Result Signature Why
ndb_of any [] = Err NoNdbLine
ndb_of any (name ∷ []) = Err NoNdbLine
ndb_of any (name ∷ target ∷ []) = Err NoNdbLine
ndb_of any (name ∷ target ∷ offset ∷ []) = Err NoNdbLine
ndb_of any (name ∷ target ∷ offset ∷ text ∷ more) =
    if nat_le (length more) 2
    then past (fault_of_target any (number_of target)) (signature_in name (bytes_of text) (span_of offset))
    else Err NoNdbLine

-- pieces with a separator between them
abbrev pub joined : ℕ → List (List ℕ) → List ℕ
joined separator [] = []
joined separator (p ∷ []) = p
joined separator (p ∷ q ∷ ps) = p ++ separator ∷ joined separator (q ∷ ps)

-- a `.db` line: what stands before the first `=` is a name, and what stands behind it hexadecimal text
abbrev pub db_of : List (List ℕ) → Result Signature Why
db_of [] = Err NoDbLine
db_of (name ∷ []) = Err NoDbLine
db_of (name ∷ text ∷ more) = signature_in name (bytes_of (joined 61 (text ∷ more))) (Ok widest)

-- the signature of a line, under its own name, or why it has none
abbrev pub signature_of : Form → Bool → List ℕ → Result Signature Why
signature_of Ndb any line = ndb_of any (pieces_of 58 line)
signature_of Db any line = db_of (pieces_of 61 line)

-- a name, the digits of a pattern, and its places make this signature
pub record AreWordsOf (name digits : List ℕ) (span : Span) (signature : Result Signature Why) : Type 0 where
  pub spells : SpellsPattern digits
  pub bound : IsSpan span
  pub made : signature ≡ Ok (record { name = name; pattern = record { bytes = spells.bytes; span = span } })

-- without the carriage returns at its end
unfoldable pub without_returns : List ℕ → List ℕ
without_returns [] = []
without_returns (b ∷ bs) = if list_all (λ c. c == 13) (b ∷ bs) then [] else b ∷ without_returns bs
