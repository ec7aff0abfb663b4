-- Names, made of those that other products give.
use Rattle.std.specs.Prelude.{ℕ, ◌+◌, ◌-◌, ◌==◌, Bool, nat_le, List, [], ◌∷◌, ◌++◌, zero, suc, length, map, take, drop, decimal, if◌then◌else◌}
use Rattle.std.specs.List.{list_any}
use Rattle.std.specs.Str.{bytes_eq}
use Rattle.av_sigset.specs.Judge.{is_name_byte}
use Rattle.av_sigset.specs.declared.line.TheConstants.{MAX_NAME}
use Rattle.av_sigset.specs.declared.signature.Signature.{Signature}
use Rattle.av_import.specs.declared.name.TheConstants.{TRIES}

-- a sign that a name can't have becomes `_`
abbrev pub sign_of : ℕ → ℕ
sign_of b = if is_name_byte b then b else 95

-- of more than 32 signs the first 15 and the last 16 stay, with a dot between
abbrev pub shortened : List ℕ → List ℕ
shortened [] = 95 ∷ []
shortened (b ∷ raw) =
    if nat_le (length (b ∷ raw)) MAX_NAME then b ∷ raw
    else take 15 (b ∷ raw) ++ 46 ∷ drop (length (b ∷ raw) - 16) (b ∷ raw)

-- a name of 1 to 32 signs
abbrev pub sign_name : List ℕ → List ℕ
sign_name raw = map sign_of (shortened raw)

-- the same name again: with a dot and a number from 2 on, before which its end gives way
unfoldable pub numbered : List ℕ → ℕ → List ℕ
numbered name number = if number == 1 then name else take (MAX_NAME - (length (decimal number) + 1)) name ++ 46 ∷ decimal number

-- a signature has this name
abbrev pub is_taken : List Signature → List ℕ → Bool
is_taken before name = list_any (λ s. bytes_eq s.name name) before

-- the first that is free of so many numbers, from one on
unfoldable pub free_from : ℕ → ℕ → List ℕ → List Signature → List ℕ
free_from zero number name before = numbered name number
free_from (suc more) number name before =
    if is_taken before (numbered name number) then free_from more (number + 1) name before else numbered name number

-- the first free name; of these numbers one is always free
abbrev pub free_name : List Signature → List ℕ → List ℕ
free_name before raw = free_from TRIES 1 (sign_name raw) before
