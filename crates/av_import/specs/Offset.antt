-- The places at which a match may begin, as an offset tells them.
use Rattle.std.specs.Prelude.{ℕ, ◌+◌, ◌==◌, ◌&&◌, ◌||◌, Bool, true, false, nat_lt, nat_eq, List, [], ◌∷◌, Option, None, Some, Result, Ok, Err, codes, if◌then◌else◌}
use Rattle.std.specs.List.{starts_with}
use Rattle.std.specs.Str.{bytes_eq}
use Rattle.av_base.specs.Decimal.{is_digit}
use Rattle.av_base.specs.Line.{pieces_of}
use Rattle.av_sigset.specs.Set.{widest}
use Rattle.av_sigset.specs.declared.signature.Span.{Span}
use Rattle.av_sigset.specs.declared.signature.TheConstants.{MAX_PLACE}
use Rattle.av_import.specs.Number.{number_of}
use Rattle.av_import.specs.declared.why.Why.{Why}
use Rattle.av_import.specs.declared.why.Why.TheVariants.{OffsetNumber, Counted, Far}

-- behind some digits, of which one or more were seen, stands a plus
unfoldable pub has_plus : Bool → List ℕ → Bool
has_plus seen [] = false
has_plus seen (b ∷ bs) = if is_digit b then has_plus true bs else seen && b == 43

-- the first is a digit
abbrev pub begins_with_digit : List ℕ → Bool
begins_with_digit [] = false
begins_with_digit (b ∷ bs) = is_digit b

-- S, digits and a plus count from a section; SE and a digit bind to one
abbrev pub has_section : List ℕ → Bool
has_section [] = false
has_section (b ∷ []) = false
has_section (b ∷ c ∷ bs) = b == 83 && (if c == 69 then begins_with_digit bs else has_plus false (c ∷ bs))

-- the file's end, its entry, its last section, its version's text, or a section
abbrev pub is_counted : List ℕ → Bool
is_counted offset =
    starts_with nat_eq offset (codes "EOF-") || starts_with nat_eq offset (codes "EP+") || starts_with nat_eq offset (codes "EP-")
    || starts_with nat_eq offset (codes "SL+") || starts_with nat_eq offset (codes "VI") || has_section offset

-- from a place to one that is so much further, where that is in front of 1,048,575, which as a last place is no bound
abbrev pub span_from : Option ℕ → Option ℕ → Result Span Why
span_from None shift = Err OffsetNumber
span_from (Some low) None = Err OffsetNumber
span_from (Some low) (Some shift) =
    if nat_lt (low + shift) MAX_PLACE then Ok (record { low = low; high = low + shift }) else Err Far

-- one number is a place, and two with a comma a place and how much further
abbrev pub span_in : List (List ℕ) → Result Span Why
span_in [] = Err OffsetNumber
span_in (low ∷ []) = span_from (number_of low) (Some 0)
span_in (low ∷ shift ∷ []) = span_from (number_of low) (number_of shift)
span_in (low ∷ shift ∷ other ∷ more) = Err OffsetNumber

-- the places of an offset; a star is each of them
abbrev pub span_of : List ℕ → Result Span Why
span_of offset =
    if bytes_eq offset (codes "*") then Ok widest else if is_counted offset then Err Counted else span_in (pieces_of 44 offset)
