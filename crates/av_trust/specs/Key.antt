-- Which bytes are a key.
use Rattle.std.specs.Prelude.{ℕ, List, length, nat_lt, Result, Ok, Err, if◌then◌else◌}
use Rattle.av_trust.specs.declared.key.KeyFault.{KeyFault}
use Rattle.av_trust.specs.declared.key.KeyFault.TheVariants.{TooShort, TooLong}

-- 32 to 64 bytes
abbrev pub key_of : List ℕ → Result (List ℕ) KeyFault
key_of bytes =
    if nat_lt (length bytes) 32 then Err TooShort
    else if nat_lt 64 (length bytes) then Err TooLong
    else Ok bytes
