-- What is written of a signature file that is signed.
use Rattle.std.specs.Prelude.{ℕ, ◌≡◌, ◌<◌, ◌⊎◌, List, length, Option, Ok}
use Rattle.av_base.specs.Device.{AppendsPrefix}
use Rattle.av_program.specs.Sets.{IsTrustFor}
use Rattle.av_sets.specs.Sets.{IsTextOf}
use Rattle.av_sigset.specs.Judge.{set_of}
use Rattle.av_sigset.specs.Set.{NumberedSet}
use Rattle.av_status.specs.declared.status.Status.{Status}
use Rattle.av_status.specs.declared.status.Status.TheVariants.{Device}
use Rattle.av_trust.specs.Signed.{signed}
use Rattle.av_trust.specs.declared.trust.Trust.{Trust}
use Rattle.avtool_words.specs.declared.request.Sign.{Sign}

-- this text, which spells a set with signatures, signed with a key
pub record IsSignedText (text file : List ℕ) : Type 0 where
  pub key : List ℕ
  pub set : NumberedSet
  pub spelt_by : set_of text ≡ Ok set
  pub some : 0 < length set.signatures
  pub signs : file ≡ signed key text

-- the text of a signature file, signed anew. The file was signed if a key of old was asked for, and was not if none was
pub record IsSignedSet (asked : Sign) (file : List ℕ) : Type 0 where
  pub trust : Trust
  pub trust_for : IsTrustFor asked.trust trust
  pub content : Option (List ℕ)
  pub text : List ℕ
  pub taken : IsTextOf trust content text
  pub signed_text : IsSignedText text file

-- a fault leaves standard output as it was, or with a front of such a file if a write failed
abbrev pub LeavesSigned : Sign → Status → Option (List ℕ) → Option (List ℕ) → Type 0
LeavesSigned asked status old new =
    (new ≡ old) ⊎ ((status ≡ Device) × ((file : List ℕ) × IsSignedSet asked file × AppendsPrefix old new file))
