-- Sets that are made of patterns without names.
use Rattle.std.specs.Prelude.{ℕ, ◌+◌, ◌==◌, ◌||◌, nat_le, nat_lt, ◌∷◌, [], ◌++◌, List, length, codes, decimal, Option, None, Some, Result, if◌then◌else◌}
use Rattle.av_sigset.specs.Judge.{bad_line}
use Rattle.av_sigset.specs.Set.{NumberedSet}
use Rattle.av_sigset.specs.declared.set.TheConstants.{MAX_BYTES, MAX_SIGNATURES}
use Rattle.av_sigset.specs.declared.signature.TheConstants.{MAX_PATTERN, MAX_PLACE}
use Rattle.av_sigset.specs.declared.fault.SetFault.{SetFault}
use Rattle.av_sigset.specs.declared.fault.SetFaultKind.TheVariants.{Version, Length, Range, TooMany}
use Rattle.av_sigset.specs.declared.signature.Pattern.{Pattern}
use Rattle.av_sigset.specs.declared.signature.Signature.{Signature}
use Rattle.av_base.specs.Refused.{unless}

-- bytes with the first and the last place at which a match may begin
abbrev pub ranged : List ℕ → ℕ → ℕ → Pattern
ranged bytes low high = record { bytes = bytes; span = record { low = low; high = high } }

-- pattern i under the name s0, s1, s2 and on
abbrev pub serial_signature : ℕ → Pattern → Signature
serial_signature i p = record { name = codes "s" ++ decimal i; pattern = p }

-- these patterns, of which the first has the number i
unfoldable pub serial_signatures : ℕ → List Pattern → List Signature
serial_signatures i [] = []
serial_signatures i (p ∷ patterns) = serial_signature i p ∷ serial_signatures (i + 1) patterns

-- the first of these patterns that can't stand behind so many patterns with so many bytes
unfoldable pub fault_in : ℕ → ℕ → List Pattern → Option SetFault
fault_in count bytes [] = None
fault_in count bytes (p ∷ patterns) =
    if length p.bytes == 0 || nat_lt MAX_PATTERN (length p.bytes) then Some (record { line = count + 3; kind = Length })
    else if nat_lt p.span.high p.span.low || nat_lt MAX_PLACE p.span.high then Some (record { line = count + 3; kind = Range })
    else if nat_le MAX_SIGNATURES count || nat_lt MAX_BYTES (bytes + length p.bytes)
    then Some (record { line = count + 3; kind = TooMany })
    else fault_in (count + 1) (bytes + length p.bytes) patterns

-- the set of these patterns under this version, or the line of the first that can't stand in a file
abbrev pub set_made : ℕ → List Pattern → Result NumberedSet SetFault
set_made version patterns =
    if version == 0 then bad_line 2 Version
    else unless (fault_in 0 0 patterns) (record { version = version; signatures = serial_signatures 0 patterns })
