use Rattle.std.specs.Prelude.{ℕ, ◌≤◌, List, length, map, sum_by, Option, None, Some, slice_get}
use Rattle.std.specs.List.{AllByRecursion}
use Rattle.av_sigset.specs.declared.set.TheConstants.{MAX_BYTES, MAX_SIGNATURES}
use Rattle.av_sigset.specs.declared.signature.TheConstants.{MAX_PATTERN, MAX_PLACE}
use Rattle.av_sigset.specs.declared.signature.Pattern.{Pattern}
use Rattle.av_sigset.specs.declared.signature.Span.{Span}
use Rattle.av_sigset.specs.declared.signature.Signature.{Signature}

-- a version, and the signatures in their order
pub record NumberedSet : Type 0 where
  pub version : ℕ
  pub signatures : List Signature

-- what the signatures look for
abbrev pub patterns_of : List Signature → List Pattern
patterns_of signatures = map (λ s. s.pattern) signatures

-- a pattern has 1 to 64 bytes
abbrev pub HasRightLength : Pattern → Type 0
HasRightLength p = (1 ≤ length p.bytes) × (length p.bytes ≤ MAX_PATTERN)

-- a match may begin at every place of a content
abbrev pub widest : Span
widest = record { low = 0; high = MAX_PLACE }

-- the first place at which a match may begin is not behind the last, which a content can have
abbrev pub IsSpan : Span → Type 0
IsSpan s = (s.low ≤ s.high) × (s.high ≤ MAX_PLACE)

-- the bytes of all patterns
abbrev pub byte_count : List Pattern → ℕ
byte_count patterns = sum_by (λ p. length p.bytes) patterns

-- at most 1,024 patterns, each of 1 to 64 bytes and bound to a span, of at most 16,384 bytes in all
pub record AreInRange (patterns : List Pattern) : Type 0 where
  pub count : length patterns ≤ MAX_SIGNATURES
  pub lengths : AllByRecursion HasRightLength patterns
  pub spans : AllByRecursion (λ p. IsSpan p.span) patterns
  pub bytes : byte_count patterns ≤ MAX_BYTES

-- of a signature that is there its span, and else the widest
abbrev pub span_or : Option Signature → Span
span_or None = widest
span_or (Some s) = s.pattern.span

-- the first and the last place at which a match of signature i may begin
abbrev pub range_at : List Signature → ℕ → ℕ × ℕ
range_at signatures i = let s = span_or (slice_get signatures i) in (s.low, s.high)

-- a set has a version from 1 on, and patterns in their ranges
pub record IsSet (s : NumberedSet) : Type 0 where
  pub version : 1 ≤ s.version
  pub ranges : AreInRange (patterns_of s.signatures)
