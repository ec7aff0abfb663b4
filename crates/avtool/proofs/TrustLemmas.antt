-- What is read by a key is of a file that is taken by it.
use Rattle.std.proofs.Common.{ℕ, ◌≡◌, List, Option, Result, Ok, Err, IfOk}
use Rattle.av_program.specs.Sets.{IsTrustFor}
use Rattle.av_sets.specs.Sets.{IsTextOf, IsTrusted}
use Rattle.av_sigset.specs.Judge.{set_of}
use Rattle.av_sigset.specs.Set.{NumberedSet}
use Rattle.av_trust.specs.declared.trust.Trust.{Trust}
use Rattle.avtool_words.specs.declared.request.Sign.{Sign}
use Rattle.avtool.specs.Sign.{IsSignedSet, IsSignedText}

-- a set that such a text spells is trusted
pub trusted_by : {E : Type 0} (trust : Trust) (text : List ℕ) (r : Result NumberedSet E) → (content : Option (List ℕ)) × IsTextOf trust content text
    → IfOk r (λ set. set_of text ≡ Ok set) → IfOk r (IsTrusted trust)
trusted_by trust text (Ok set) of spelt = record { content = of.0; spelt_by = record { text = text; taken = of.1; spelt_by = spelt } }
trusted_by trust text (Err e) of spelt = tt

-- such a text, signed anew
pub signed_by : {A E : Type 0} (items : A → List ℕ) (asked : Sign) (trust : Trust) (text : List ℕ) (r : Result A E) → IsTrustFor asked.trust trust
    → (content : Option (List ℕ)) × IsTextOf trust content text → IfOk r (λ file. IsSignedText text (items file)) → IfOk r (λ file. IsSignedSet asked (items file))
signed_by items asked trust text (Ok file) by of signed = record { trust = trust; trust_for = by; content = of.0; text = text; taken = of.1; signed_text = signed }
signed_by items asked trust text (Err e) by of signed = tt
