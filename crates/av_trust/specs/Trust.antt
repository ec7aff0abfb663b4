-- Which signature files are taken.
use Rattle.std.specs.Prelude.{ℕ, List, codes, Option, None, Some, Result, Ok, Err, if◌then◌else◌}
use Rattle.std.specs.Borrow.{Bor}
use Rattle.av_trust.specs.Signed.{begins, trusted_of}
use Rattle.av_trust.specs.declared.trust.Trust.{Trust}
use Rattle.av_trust.specs.declared.trust.Trust.TheVariants.{Unsigned, Signed}
use Rattle.av_trust.specs.declared.trust.TrustFault.{TrustFault}
use Rattle.av_trust.specs.declared.trust.TrustFault.TheVariants.{NoKey}

-- only what was signed with a key is taken, where there is one
abbrev pub trust_by : Option (Bor (List ℕ)) → Trust
trust_by None = Unsigned
trust_by (Some key) = Signed key

-- the text of a file that is taken, or why it is not: the file as it is, where it is not signed and need not be, or what was signed
abbrev pub text_by : Trust → List ℕ → Result (List ℕ) TrustFault
text_by Unsigned file = if begins (codes "avsigned") file then Err NoKey else Ok file
text_by (Signed key) file = trusted_of key.now file
