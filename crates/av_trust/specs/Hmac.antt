-- HMAC-SHA-256 (RFC 2104, with FIPS 180-4's SHA-256) as a function on lists of bytes.
use Rattle.std.specs.Prelude.{ℕ, ◌-◌, List, ◌++◌, length, map, nat_lt, replicate, bit_xor, if◌then◌else◌}
use Rattle.sha2.specs.Sha256.{sha256}

-- a key of a block at most, with zeros behind it
abbrev pub block_of : List ℕ → List ℕ
block_of key = key ++ replicate (64 - length key) 0

-- each byte with the bits of a mask turned
abbrev pub masked : ℕ → List ℕ → List ℕ
masked mask bytes = map (λ b. bit_xor b mask) bytes

-- the code of a text under a key of a block at most
unfoldable pub keyed : List ℕ → List ℕ → List ℕ
keyed key text = sha256 (masked 0x5c (block_of key) ++ sha256 (masked 0x36 (block_of key) ++ text))

-- the code of a text under a key: a key of more than a block stands for its digest
abbrev pub hmac : List ℕ → List ℕ → List ℕ
hmac key text = if nat_lt 64 (length key) then keyed (sha256 key) text else keyed key text
