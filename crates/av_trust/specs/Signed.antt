-- A signed file: one line with the code of all bytes behind it, and then these as they are.
use Rattle.std.specs.Prelude.{ℕ, List, ◌∷◌, ◌++◌, ◌&&◌, ◌==◌, Bool, nat_lt, slice_index, not, codes, drop, length, take, Result, Ok, Err, if◌then◌else◌}
use Rattle.std.specs.Str.{bytes_eq}
use Rattle.hex.specs.Hex.{encode_lower}
use Rattle.av_trust.specs.Hmac.{hmac}
use Rattle.av_trust.specs.declared.trust.TrustFault.{TrustFault}
use Rattle.av_trust.specs.declared.trust.TrustFault.TheVariants.{NotSigned, BadLine, OtherKey}

-- the code of a text under a key, as 64 hexadecimal digits of lower case
unfoldable pub code_digits : List ℕ → List ℕ → List ℕ
code_digits key text = encode_lower (hmac key text)

-- a text, signed with a key
unfoldable pub signed : List ℕ → List ℕ → List ℕ
signed key text = codes "avsigned 1 " ++ (code_digits key text ++ 10 ∷ text)

-- a file begins with these bytes
abbrev pub begins : List ℕ → List ℕ → Bool
begins first file = bytes_eq (take (length first) file) first

-- its first line has 75 bytes, and begins as that of a signed file does
abbrev pub has_line : List ℕ → Bool
has_line file = begins (codes "avsigned 1 ") file && (nat_lt 75 (length file) && slice_index file 75 == 10)

-- it has the code of the bytes behind it
abbrev pub is_coded : List ℕ → List ℕ → Bool
is_coded key file = bytes_eq (take 64 (drop 11 file)) (code_digits key (drop 76 file))

-- the text that was signed, or why there is none
unfoldable pub trusted_of : List ℕ → List ℕ → Result (List ℕ) TrustFault
trusted_of key file =
    if not (begins (codes "avsigned") file) then Err NotSigned
    else if not (has_line file) then Err BadLine
    else if is_coded key file then Ok (drop 76 file)
    else Err OtherKey
