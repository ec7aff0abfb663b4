use Rattle.std.specs.Prelude.{ℕ, ◌≡◌, ◌≤◌, ◌<◌, ◌+◌, ◌*◌, ◌++◌, ◌∷◌, [], List, length, Result, Ok, Err}
use Rattle.av_base.specs.declared.refusal.Refusal.{Refusal}
use Rattle.av_base.specs.declared.refusal.Refusal.TheVariants.{Fault, NoMemory}
use Rattle.hex.specs.Hex.{decode_of}
use Rattle.av_sigset.specs.Judge.{signatures_with}
use Rattle.av_sigset.specs.Set.{patterns_of, byte_count, IsSpan}
use Rattle.av_sigset.specs.declared.set.TheConstants.{MAX_BYTES, MAX_SIGNATURES}
use Rattle.av_sigset.specs.declared.signature.TheConstants.{MAX_PATTERN}
use Rattle.av_sigset.specs.declared.fault.SetFaultKind.{SetFaultKind}
use Rattle.av_sigset.specs.declared.signature.Signature.{Signature}
use Rattle.av_sigset.specs.declared.signature.Span.{Span}

-- digits that spell the bytes of a pattern
pub record SpellsPattern (digits : List ℕ) : Type 0 where
  pub bytes : List ℕ
  pub decoded : decode_of digits ≡ Ok bytes
  pub low : 1 ≤ length bytes
  pub high : length bytes ≤ MAX_PATTERN
  pub twice : length digits ≡ 2 * length bytes

-- a name, such digits and a span make this signature
pub record AreWordsOf (name digits : List ℕ) (span : Span) (signature : Result Signature SetFaultKind) : Type 0 where
  pub spells : SpellsPattern digits
  pub bound : IsSpan span
  pub made : signature ≡ Ok (record { name = name; pattern = record { bytes = spells.bytes; span = span } })

-- a line's signature may stand behind these
pub record JoinsAs (before : List Signature) (name digits : List ℕ) (span : Span) (signature : Result Signature SetFaultKind) : Type 0 where
  pub spells : SpellsPattern digits
  pub bound : IsSpan span
  pub few : length before < MAX_SIGNATURES
  pub short : byte_count (patterns_of before) + length spells.bytes ≤ MAX_BYTES
  pub joined : signatures_with before signature
      ≡ Ok (before ++ record { name = name; pattern = record { bytes = spells.bytes; span = span } } ∷ [])

-- a call stops at the fault that is wanted, or for memory, which is refused before the other lines are judged
abbrev pub IsFault : {A F : Type 0} → Refusal F → Result A F → Type 0
IsFault (Fault f) wanted = wanted ≡ Err f
IsFault NoMemory wanted = Unit {0}
