-- The order in which the lines of a signature file are judged.
use Rattle.std.specs.Prelude.{ℕ, ◌+◌, Bool, ◌&&◌, ◌||◌, ◌==◌, nat_le, nat_lt, List, [], ◌∷◌, ◌++◌, length, Option, None, Some, Result, Ok, Err, codes, if◌then◌else◌}
use Rattle.std.specs.List.{list_all, list_any}
use Rattle.std.specs.Str.{bytes_eq}
use Rattle.av_base.specs.Decimal.{decimal_of}
use Rattle.av_base.specs.Line.{pieces_of}
use Rattle.hex.specs.Hex.{decode_of}
use Rattle.hex.specs.declared.error.FromHexError.{FromHexError}
use Rattle.av_sigset.specs.Set.{NumberedSet, patterns_of, byte_count, widest}
use Rattle.av_sigset.specs.declared.line.TheConstants.{MAX_NAME}
use Rattle.av_sigset.specs.declared.set.TheConstants.{MAX_BYTES, MAX_SIGNATURES}
use Rattle.av_sigset.specs.declared.signature.TheConstants.{MAX_PATTERN, MAX_PLACE}
use Rattle.av_sigset.specs.declared.format.Format.{Format}
use Rattle.av_sigset.specs.declared.format.Format.TheVariants.{One, Two}
use Rattle.av_sigset.specs.declared.fault.SetFault.{SetFault}
use Rattle.av_sigset.specs.declared.fault.SetFaultKind.{SetFaultKind}
use Rattle.av_sigset.specs.declared.fault.SetFaultKind.TheVariants.{Header, Version, Name, Hex, Length, Duplicate, TooMany, Unended, Range}
use Rattle.av_sigset.specs.declared.signature.Signature.{Signature}
use Rattle.av_sigset.specs.declared.signature.Span.{Span}
use Rattle.av_base.specs.Refused.{map_ok}

-- a line is bad in this way
abbrev pub bad_line : {A : Type 0} → ℕ → SetFaultKind → Result A SetFault
bad_line line kind = Err (record { line = line; kind = kind })

-- letters, digits, a dot, an underscore and a hyphen
abbrev pub is_name_byte : ℕ → Bool
is_name_byte b =
    (nat_le 97 b && nat_le b 122) || (nat_le 65 b && nat_le b 90) || (nat_le 48 b && nat_le b 57)
    || b == 46 || b == 95 || b == 45

-- a name has 1 to 32 of these
abbrev pub is_name : List ℕ → Bool
is_name word = nat_le 1 (length word) && nat_le (length word) MAX_NAME && list_all is_name_byte word

-- from the first of two numbers to the second, where they are in order and a content has these places
abbrev pub span_between : Option ℕ → Option ℕ → Option Span
span_between None high = None
span_between (Some low) None = None
span_between (Some low) (Some high) =
    if nat_le low high && nat_le high MAX_PLACE then Some (record { low = low; high = high }) else None

-- the span that the words behind the digits name; without any it is the widest
abbrev pub span_in : List (List ℕ) → Option Span
span_in [] = Some widest
span_in (low ∷ []) = None
span_in (low ∷ high ∷ []) = span_between (decimal_of low) (decimal_of high)
span_in (low ∷ high ∷ other ∷ rest) = None

-- the signature of a name and of bytes that are bound to a span
abbrev pub signature_bound : List ℕ → List ℕ → Option Span → Result Signature SetFaultKind
signature_bound name bytes None = Err Range
signature_bound name bytes (Some span) = Ok (record { name = name; pattern = record { bytes = bytes; span = span } })

-- the same, where the bytes may be a pattern
abbrev pub signature_under : List ℕ → Result (List ℕ) FromHexError → Option Span → Result Signature SetFaultKind
signature_under name (Err e) span = Err Hex
signature_under name (Ok bytes) span =
    if nat_le 1 (length bytes) && nat_le (length bytes) MAX_PATTERN then signature_bound name bytes span else Err Length

-- the signature of a name, of digits and of the words behind them: format 1 has none there
abbrev pub signature_in : Format → List ℕ → List ℕ → List (List ℕ) → Result Signature SetFaultKind
signature_in One name digits [] = signature_under name (decode_of digits) (Some widest)
signature_in One name digits (word ∷ words) = Err Hex
signature_in Two name digits words = signature_under name (decode_of digits) (span_in words)

-- the first of the words of a line
abbrev pub first_of : List (List ℕ) → List ℕ
first_of [] = []
first_of (word ∷ words) = word

-- the first word of a line
abbrev pub first_word : List ℕ → List ℕ
first_word line = first_of (pieces_of 32 line)

-- the signature of the words of a line: a name, hexadecimal digits and, in format 2, a span or none
abbrev pub signature_of : Format → List (List ℕ) → Result Signature SetFaultKind
signature_of format [] = Err Name
signature_of format (name ∷ []) = Err Name
signature_of format (name ∷ digits ∷ words) = if is_name name then signature_in format name digits words else Err Name

-- a signature behind those that stood before, where there is room for it
abbrev pub signatures_within : List Signature → Result Signature SetFaultKind → Result (List Signature) SetFaultKind
signatures_within before (Err kind) = Err kind
signatures_within before (Ok s) =
    if nat_le MAX_SIGNATURES (length before) || nat_lt MAX_BYTES (byte_count (patterns_of before) + length s.pattern.bytes)
    then Err TooMany
    else Ok (before ++ s ∷ [])

-- no name stands twice
abbrev pub signatures_with : List Signature → Result Signature SetFaultKind → Result (List Signature) SetFaultKind
signatures_with before (Err kind) = Err kind
signatures_with before (Ok s) =
    if list_any (λ t. bytes_eq t.name s.name) before then Err Duplicate else signatures_within before (Ok s)

-- the next line is judged where this one is good
abbrev pub then_line : ℕ → Result (List Signature) SetFaultKind → (List Signature → Result (List Signature) SetFault)
    → Result (List Signature) SetFault
then_line line (Err kind) next = bad_line line kind
then_line line (Ok signatures) next = next signatures

-- behind the last LF nothing stands
abbrev pub whole_at : List Signature → List ℕ → Result (List Signature) SetFault
whole_at before [] = Ok before
whole_at before (b ∷ bs) = bad_line (length before + 3) Unended

-- the signatures of a line and of those below it, behind those that stood before
unfoldable pub signatures_below : Format → List Signature → List ℕ → List (List ℕ) → Result (List Signature) SetFault
signatures_below format before line [] = whole_at before line
signatures_below format before line (below ∷ rest) =
    then_line (length before + 3) (signatures_with before (signature_of format (pieces_of 32 line)))
    (λ signatures. signatures_below format signatures below rest)

-- the signatures of these lines
abbrev pub signatures_from : Format → List Signature → List (List ℕ) → Result (List Signature) SetFault
signatures_from format before [] = whole_at before []
signatures_from format before (line ∷ rest) = signatures_below format before line rest

-- a version is not 0
abbrev pub above_zero : Option ℕ → Option ℕ
above_zero None = None
above_zero (Some n) = if n == 0 then None else Some n

-- the version that the words of line 2 name
abbrev pub version_of : List (List ℕ) → Option ℕ
version_of [] = None
version_of (word ∷ []) = None
version_of (word ∷ digits ∷ []) = if bytes_eq word (codes "version") then above_zero (decimal_of digits) else None
version_of (word ∷ digits ∷ other ∷ rest) = None

-- the signatures under their version
abbrev pub set_under : ℕ → Result (List Signature) SetFault → Result NumberedSet SetFault
set_under version signatures = map_ok (λ s. record { version = version; signatures = s }) signatures

-- what line 2 names, and the signatures of the lines below it
abbrev pub with_version : Format → Option ℕ → List (List ℕ) → Result NumberedSet SetFault
with_version format None rest = bad_line 2 Version
with_version format (Some version) rest = set_under version (signatures_from format [] rest)

-- from line 2 on
abbrev pub set_below : Format → List (List ℕ) → Result NumberedSet SetFault
set_below format [] = bad_line 2 Unended
set_below format (line ∷ []) = bad_line 2 Unended
set_below format (line ∷ below ∷ rest) = with_version format (version_of (pieces_of 32 line)) (below ∷ rest)

-- the line that heads a file of this format
abbrev pub header_of : Format → List ℕ
header_of One = codes "avsig 1"
header_of Two = codes "avsig 2"

-- the format whose header this line is
abbrev pub format_of : List ℕ → Option Format
format_of line = if bytes_eq line (header_of One) then Some One else if bytes_eq line (header_of Two) then Some Two else None

-- from line 2 on, where line 1 is a header
abbrev pub set_in : Option Format → List (List ℕ) → Result NumberedSet SetFault
set_in None rest = bad_line 1 Header
set_in (Some format) rest = set_below format rest

-- from line 1 on
abbrev pub set_of_lines : List (List ℕ) → Result NumberedSet SetFault
set_of_lines [] = bad_line 1 Unended
set_of_lines (line ∷ []) = bad_line 1 Unended
set_of_lines (line ∷ below ∷ rest) = set_in (format_of line) (below ∷ rest)

-- the set of a signature file, or its first bad line
abbrev pub set_of : List ℕ → Result NumberedSet SetFault
set_of file = set_of_lines (pieces_of 10 file)
