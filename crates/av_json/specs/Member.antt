-- Objects and their members, as tokens.
use Rattle.std.specs.Prelude.{ℕ, ◌≡◌, List, [], ◌∷◌, ◌++◌, Result, OnOk, decimal, if◌then◌else◌}
use Rattle.std.specs.Str.{is_utf8}
use Rattle.hex.specs.Hex.{encode_lower}
use Rattle.json.specs.Token.{Token, begin_object, end_object, key, string, number}
use Rattle.json.specs.Written.{Written}
use Rattle.av_json.specs.declared.member.Member.{Member}
use Rattle.av_json.specs.declared.member.Member.TheVariants.{Text, Number}

-- a member that is a text
unfoldable pub text_tokens : List ℕ → List ℕ → List Token
text_tokens name text = key name ∷ string text ∷ []

-- a member that is a number, of all its digits
unfoldable pub number_tokens : List ℕ → ℕ → List Token
number_tokens name n = key name ∷ number (decimal n) ∷ []

-- a member
abbrev pub member_tokens : Member → List Token
member_tokens (Text name text) = text_tokens name.now text.now
member_tokens (Number name n) = number_tokens name.now n

-- bytes as a text where they are one, and else by their digits under another name
unfoldable pub named_tokens : List ℕ → List ℕ → List ℕ → List Token
named_tokens name digits_name bytes =
    if is_utf8 bytes then text_tokens name bytes else text_tokens digits_name (encode_lower bytes)

-- tokens one behind the other
abbrev pub joined : List (List Token) → List Token
joined [] = []
joined (ts ∷ tss) = ts ++ joined tss

-- an object of members
unfoldable pub object_tokens : List (List Token) → List Token
object_tokens members = begin_object ∷ (joined members ++ end_object ∷ [])

-- these tokens were put behind the others, or the call failed; what stands before them stays
abbrev pub Puts : {E : Type 0} → Result (Unit {0}) E → Written → Written → List Token → Type 0
Puts r old new ts = (new.before ≡ old.before) × OnOk r (new.tokens ≡ old.tokens ++ ts)
