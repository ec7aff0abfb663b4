-- What is taken of files of other products.
use Rattle.std.specs.Prelude.{ℕ, ◌≡◌, ◌+◌, ◌-◌, ◌^◌, ◌≤◌, ◌&&◌, ◌==◌, not, Bool, true, nat_lt, min, List, [], ◌∷◌, ◌++◌, length, Option, None, Some, Result, Ok, Err, if◌then◌else◌}
use Rattle.std.specs.List.{AllByRecursion, list_all}
use Rattle.av_base.specs.Line.{lines_of}
use Rattle.av_base.specs.Refused.{map_ok, unless}
use Rattle.av_sigset.specs.Line.{SpellsPattern}
use Rattle.av_sigset.specs.Set.{HasRightLength, IsSpan, byte_count, patterns_of}
use Rattle.av_sigset.specs.Spelling.{is_widest}
use Rattle.av_sigset.specs.declared.set.TheConstants.{MAX_BYTES, MAX_SIGNATURES}
use Rattle.av_sigset.specs.declared.signature.Signature.{Signature}
use Rattle.av_sigset.specs.declared.signature.Span.{Span}
use Rattle.av_import.specs.Clamav.{signature_of, without_returns}
use Rattle.av_import.specs.Name.{free_name}
use Rattle.av_import.specs.declared.import.Rules.{Rules}
use Rattle.av_import.specs.declared.kind.Form.{Form}
use Rattle.av_import.specs.declared.kind.Kind.{Kind}
use Rattle.av_import.specs.declared.kind.Kind.TheVariants.{Lines, Yara, Hashes, Unknown}
use Rattle.av_import.specs.declared.why.Why.{Why}
use Rattle.av_import.specs.declared.why.Why.TheVariants as why

-- the rules, the signatures that were taken, and how many lines were left out
pub record Taken : Type 0 where
  pub rules : Rules
  pub signatures : List Signature
  pub left : ℕ

-- a match of each may begin anywhere
abbrev pub are_widest : List Signature → Bool
are_widest signatures = list_all (λ s. is_widest s.pattern.span) signatures

-- why so many signatures with so many bytes are not taken behind these
abbrev pub limit_of : Rules → List Signature → Bool → ℕ → ℕ → Option Why
limit_of rules before widest count bytes =
    if not widest && not rules.has_ranges then Some why.Ranged
    else if nat_lt MAX_SIGNATURES (length before + count) then Some why.ManySignatures
    else if nat_lt MAX_BYTES (byte_count (patterns_of before) + bytes) then Some why.ManyBytes
    else None

-- what a line or a rule gives is taken whole or not at all
abbrev pub admitted : Rules → List Signature → Result (List Signature) Why → Result (List Signature) Why
admitted rules before (Err why) = Err why
admitted rules before (Ok given) =
    unless (limit_of rules before (are_widest given) (length given) (byte_count (patterns_of given))) given

-- one more, under the first free name
abbrev pub with_named : List Signature → Signature → List Signature
with_named before s = before ++ record { name = free_name before s.name; pattern = s.pattern } ∷ []

-- each under the first name that is free
unfoldable pub with_all : List Signature → List Signature → List Signature
with_all before [] = before
with_all before (s ∷ given) = with_all (with_named before s) given

-- what was admitted is taken; else one line more is left out
abbrev pub after : Taken → Result (List Signature) Why → Taken
after t (Ok given) = record t { signatures = with_all t.signatures given }
after t (Err why) = record t { left = min (t.left + 1) (2 ^ 64 - 1) }

-- after a line or a rule that gives this
abbrev pub offered : Taken → Result (List Signature) Why → Taken
offered t given = after t (admitted t.rules t.signatures given)

-- an empty line, and one behind `#`, says nothing
abbrev pub is_silent : List ℕ → Bool
is_silent [] = true
is_silent (b ∷ bs) = b == 35

-- the signatures of a line
abbrev pub given_of : Form → Rules → List ℕ → Result (List Signature) Why
given_of form rules line = map_ok (λ s. s ∷ []) (signature_of form rules.takes_any_target line)

-- after a line, which ends with carriage returns or none
abbrev pub after_line : Form → Taken → List ℕ → Taken
after_line form t line =
    if is_silent (without_returns line) then t else offered t (given_of form t.rules (without_returns line))

-- after lines
unfoldable pub after_lines : Form → Taken → List (List ℕ) → Taken
after_lines form t [] = t
after_lines form t (l ∷ ls) = after_lines form (after_line form t l) ls

-- after some rules, of each of which all signatures were taken or none
unfoldable pub after_rules : Taken → List (Result (List Signature) Why) → Taken
after_rules t [] = t
after_rules t (r ∷ rs) = after_rules (after t r) rs

-- a file was taken: line for line, or rule for rule; one that is neither is one line that is left out
abbrev pub TakesFile : Kind → List ℕ → Taken → Taken → Type 0
TakesFile (Lines form) content old new = new ≡ after_lines form old (lines_of content)
TakesFile Yara content old new = (rules : List (Result (List Signature) Why)) × (new ≡ after_rules old rules)
TakesFile Hashes content old new = new ≡ offered old (Err why.Hashes)
TakesFile Unknown content old new = new ≡ offered old (Err why.UnknownKind)

-- so many signatures with so many bytes may follow these
pub record HasRoom (before : List Signature) (count bytes : ℕ) : Type 0 where
  pub few : length before + count ≤ MAX_SIGNATURES
  pub short : byte_count (patterns_of before) + bytes ≤ MAX_BYTES

-- words whose signature may be taken behind these
pub record AreAdmitted (before : List Signature) (name digits : List ℕ) (span : Span) (given : Result (List Signature) Why) : Type 0 where
  pub spells : SpellsPattern digits
  pub bound : IsSpan span
  pub room : HasRoom before 1 (length spells.bytes)
  pub made : given ≡ Ok (record { name = name; pattern = record { bytes = spells.bytes; span = span } } ∷ [])

-- each looks for 1 to 64 bytes, at places that a content has
abbrev pub AreFit : List Signature → Type 0
AreFit given = AllByRecursion (λ s. HasRightLength s.pattern × IsSpan s.pattern.span) given

-- a rule was taken whole, or left out
abbrev pub TakesRule : Taken → Taken → Type 0
TakesRule old new = (given : Result (List Signature) Why) × (new ≡ after old given)
