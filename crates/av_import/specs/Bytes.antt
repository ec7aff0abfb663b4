-- The bytes of a pattern, in hexadecimal digits.
use Rattle.std.specs.Prelude.{ℕ, Bool, ◌||◌, ◌==◌, nat_le, List, length, Result, Ok, Err, if◌then◌else◌}
use Rattle.std.specs.List.{list_all, list_any}
use Rattle.hex.specs.Hex.{decode_of, is_hex_digit}
use Rattle.hex.specs.declared.error.FromHexError.{FromHexError}
use Rattle.av_sigset.specs.declared.signature.TheConstants.{MAX_PATTERN}
use Rattle.av_import.specs.declared.why.Why.{Why}
use Rattle.av_import.specs.declared.why.Why.TheVariants.{NoBytes, Wildcards, NotHexadecimal, HalfByte, TooLong}

-- the signs of gaps and alternatives: ? * { } ( ) [ ] ! |
abbrev pub is_wildcard : ℕ → Bool
is_wildcard b = b == 63 || b == 42 || b == 123 || b == 125 || b == 40 || b == 41 || b == 91 || b == 93 || b == 33 || b == 124

-- what is wrong with text that isn't digits alone
abbrev pub fault_of_other : List ℕ → Why
fault_of_other text = if list_any is_wildcard text then Wildcards else NotHexadecimal

-- digits that aren't pairs end with half a byte; a pattern has 64 bytes at most
abbrev pub fitting : Result (List ℕ) FromHexError → Result (List ℕ) Why
fitting (Err e) = Err HalfByte
fitting (Ok bytes) = if nat_le (length bytes) MAX_PATTERN then Ok bytes else Err TooLong

-- the bytes that hexadecimal text spells, or why it spells no pattern
abbrev pub bytes_of : List ℕ → Result (List ℕ) Why
bytes_of text =
    if length text == 0 then Err NoBytes
    else if list_all is_hex_digit text then fitting (decode_of text)
    else Err (fault_of_other text)
