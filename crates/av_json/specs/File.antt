-- The objects of files that were scanned, and of files that were opened.
use Rattle.std.specs.Prelude.{ℕ, List, [], ◌∷◌, codes}
use Rattle.json.specs.Token.{Token}
use Rattle.av_base.specs.declared.verdict.Verdict.{Verdict}
use Rattle.av_base.specs.declared.verdict.Verdict.TheVariants.{Clean, Infected}
use Rattle.av_json.specs.Cause.{cause_members}
use Rattle.av_json.specs.Member.{named_tokens, number_tokens, object_tokens, text_tokens}
use Rattle.av_pend.specs.declared.answer.Answer.{Answer}
use Rattle.av_pend.specs.declared.answer.Answer.TheVariants.{Granted, Unscanned, Denied}

-- an object of a file: its name, and what was found
abbrev pub named_object : List ℕ → List (List Token) → List Token
named_object file members = object_tokens (named_tokens (codes "file") (codes "file_hex") file ∷ members)

-- the object of a file that was scanned under the set of a version, with the name of the signature that ends first
abbrev pub file_tokens : List ℕ → ℕ → Verdict → List ℕ → List Token
file_tokens file version Clean name =
    named_object file (text_tokens (codes "verdict") (codes "clean") ∷ number_tokens (codes "version") version ∷ [])
file_tokens file version (Infected index end_at) name =
    named_object file
    (text_tokens (codes "verdict") (codes "infected") ∷ number_tokens (codes "version") version
    ∷ number_tokens (codes "index") index ∷ named_tokens (codes "name") (codes "name_hex") name
    ∷ number_tokens (codes "end") end_at ∷ [])

-- the object of a file that was opened, by what its open was told
abbrev pub opened_tokens : List ℕ → Answer → List Token
opened_tokens file (Granted open_id least stream generation version) =
    named_object file
    (text_tokens (codes "answer") (codes "granted") ∷ number_tokens (codes "generation") generation
    ∷ number_tokens (codes "version") version ∷ [])
opened_tokens file (Unscanned open_id stream generation cause) =
    named_object file
    (text_tokens (codes "answer") (codes "unscanned") ∷ number_tokens (codes "generation") generation ∷ cause_members cause)
opened_tokens file (Denied open_id cause) =
    named_object file (text_tokens (codes "answer") (codes "denied") ∷ cause_members cause)
