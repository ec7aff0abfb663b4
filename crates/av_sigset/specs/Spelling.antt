-- The text of a set: its signature file.
use Rattle.std.specs.Prelude.{ℕ, ◌≡◌, ◌≤◌, Bool, ◌&&◌, ◌==◌, List, [], ◌∷◌, ◌++◌, map, codes, decimal, Ok, if◌then◌else◌}
use Rattle.std.specs.List.{AllByRecursion, list_all}
use Rattle.hex.specs.Hex.{IsBytes, encode_lower}
use Rattle.av_base.specs.Part.{spelt}
use Rattle.av_sigset.specs.File.{MayStand}
use Rattle.av_sigset.specs.Judge.{header_of, set_of}
use Rattle.av_sigset.specs.Set.{NumberedSet}
use Rattle.av_sigset.specs.declared.format.Format.{Format}
use Rattle.av_sigset.specs.declared.format.Format.TheVariants.{One, Two}
use Rattle.av_sigset.specs.declared.signature.Signature.{Signature}
use Rattle.av_sigset.specs.declared.signature.Span.{Span}
use Rattle.av_sigset.specs.declared.signature.TheConstants.{MAX_PLACE}

-- a match may begin at every place
abbrev pub is_widest : Span → Bool
is_widest s = s.low == 0 && s.high == MAX_PLACE

-- behind the digits: the first and the last place, each behind a space, where the span isn't the widest; and the line's end
abbrev pub span_text : Span → List ℕ
span_text s = if is_widest s then 10 ∷ [] else 32 ∷ decimal s.low ++ (32 ∷ decimal s.high ++ 10 ∷ [])

-- a signature's line: its name, the digits of its bytes, and its places
abbrev pub line_text : Signature → List ℕ
line_text s = s.name ++ (32 ∷ encode_lower s.pattern.bytes ++ span_text s.pattern.span)

-- format 1 where every span is the widest, and else format 2
abbrev pub format_for : List Signature → Format
format_for signatures = if list_all (λ s. is_widest s.pattern.span) signatures then One else Two

-- the first two lines
abbrev pub head_text : Format → ℕ → List ℕ
head_text format version = header_of format ++ (10 ∷ codes "version " ++ (decimal version ++ 10 ∷ []))

-- the file of a set
abbrev pub spelling : NumberedSet → List ℕ
spelling s = head_text (format_for s.signatures) s.version ++ spelt (map line_text s.signatures)

-- what signatures look for are bytes
abbrev pub AreBytes : List Signature → Type 0
AreBytes signatures = AllByRecursion (λ s. IsBytes s.pattern.bytes) signatures

-- the file of a set, whose signatures may stand in one, is read as that set
abbrev pub ReadsBack : NumberedSet → Type 0
ReadsBack s = 1 ≤ s.version → MayStand s.signatures → set_of (spelling s) ≡ Ok s
