-- The signature files, apart from any way to read one.
use Rattle.std.specs.Prelude.{ℕ, ◌≡◌, ◌≤◌, ◌↔◌, ◌⊎◌, List, [], ◌∷◌, ◌++◌, IsTrue, Some, Ok, map, codes}
use Rattle.std.specs.List.{AllByRecursion}
use Rattle.av_base.specs.Decimal.{decimal_of}
use Rattle.hex.specs.Hex.{decode_of}
use Rattle.av_sigset.specs.Judge.{header_of, is_name, set_of}
use Rattle.av_sigset.specs.Set.{NumberedSet, AreInRange, patterns_of, widest}
use Rattle.av_sigset.specs.declared.format.Format.{Format}
use Rattle.av_sigset.specs.declared.format.Format.TheVariants.{Two}
use Rattle.av_sigset.specs.declared.signature.Signature.{Signature}
use Rattle.av_sigset.specs.declared.signature.Span.{Span}

-- two numbers, each behind a space, spell a span
pub record SpellsSpan (text : List ℕ) (span : Span) : Type 0 where
  pub first : List ℕ
  pub last : List ℕ
  pub spelt : text ≡ 32 ∷ first ++ 32 ∷ last
  pub low : decimal_of first ≡ Some span.low
  pub high : decimal_of last ≡ Some span.high

-- behind the digits stands nothing, for the widest span, or in format 2 a span
abbrev pub IsSpanOf : Format → List ℕ → Span → Type 0
IsSpanOf format text span = ((text ≡ []) × (span ≡ widest)) ⊎ ((format ≡ Two) × SpellsSpan text span)

-- a line: a name, a space, digits that spell the bytes, and a span
pub record IsLineOf (format : Format) (line : List ℕ) (s : Signature) : Type 0 where
  pub digits : List ℕ
  pub behind : List ℕ
  pub spelt : line ≡ s.name ++ 32 ∷ (digits ++ behind)
  pub bytes : decode_of digits ≡ Ok s.pattern.bytes
  pub span : IsSpanOf format behind s.pattern.span

-- one line for each signature, each ended by LF
abbrev pub AreLinesOf : Format → List ℕ → List Signature → Type 0
AreLinesOf format text [] = text ≡ []
AreLinesOf format text (s ∷ rest) =
    (line : List ℕ) × (below : List ℕ) × (text ≡ line ++ 10 ∷ below) × IsLineOf format line s × AreLinesOf format below rest

-- no name stands twice
abbrev pub AreDistinct : List (List ℕ) → Type 0
AreDistinct [] = Unit {0}
AreDistinct (n ∷ names) = AllByRecursion (λ m. n ≡ m → ⊥) names × AreDistinct names

-- the names of signatures
abbrev pub names_of : List Signature → List (List ℕ)
names_of signatures = map (λ s. s.name) signatures

-- signatures that may stand in one file: names of the right form, none twice, and patterns in their ranges
pub record MayStand (signatures : List Signature) : Type 0 where
  pub names : AllByRecursion (λ n. IsTrue (is_name n)) (names_of signatures)
  pub distinct : AreDistinct (names_of signatures)
  pub ranges : AreInRange (patterns_of signatures)

-- a file of a format spells this set: the header's line, the version's, and those of the signatures
pub record IsFileOf (file : List ℕ) (s : NumberedSet) : Type 0 where
  pub format : Format
  pub digits : List ℕ
  pub below : List ℕ
  pub spelt : file ≡ header_of format ++ 10 ∷ (codes "version" ++ 32 ∷ digits ++ 10 ∷ below)
  pub version : decimal_of digits ≡ Some s.version
  pub positive : 1 ≤ s.version
  pub lines : AreLinesOf format below s.signatures
  pub signatures : MayStand s.signatures

-- a file is judged to be a set exactly where it spells that set
abbrev pub JudgesFiles : Type 0
JudgesFiles = (file : List ℕ) (s : NumberedSet) → (set_of file ≡ Ok s) ↔ IsFileOf file s
