-- What is said to be clean.
use Rattle.std.proofs.Common.{◌≡◌, Bool, true, false, cond, refl, ap}
use Rattle.std.specs.Prelude.{Ok, Err}
use Rattle.av_asks.specs.declared.large_answer.LargeCause.{LargeCause}
use Rattle.av_asks.specs.declared.large_answer.LargeCause.TheVariants as large_cause
use Rattle.av_base.specs.Cause.{number_of}
use Rattle.av_base.specs.declared.cause.Cause.{Cause}
use Rattle.av_clamd.specs.declared.reply.Spoken.{Spoken}
use Rattle.av_clamd.specs.declared.reply.Spoken.TheVariants as spoken
use Rattle.av_client.specs.Again.{cause_of}
use Rattle.av_client.specs.declared.reply.Reply.TheVariants.{Open, Large}
use Rattle.av_files.specs.Opened.{is_infection}
use Rattle.av_pend.specs.declared.answer.Answer.{Answer}
use Rattle.av_pend.specs.declared.answer.Answer.TheVariants.{Granted, Unscanned, Denied}
use Rattle.av_paths.specs.Course.{is_clean}
use Rattle.av_paths.specs.Verdict.{IsCleanByGrant, IsGrant, IsStreamCleanByGrant, spoken_denied, spoken_large, spoken_open}

denied_not : (b : Bool) (n : Cause) → is_clean (cond b spoken.Infected (spoken.NoVerdict (number_of n))) ≡ false
denied_not true n = refl
denied_not false n = refl

large_not : (c : LargeCause) → is_clean (spoken_large c) ≡ false
large_not large_cause.AskAgain = refl
large_not large_cause.TooLarge = refl
large_not large_cause.GivenUp = refl
large_not large_cause.NoParts = refl

not_clean : {P : Type 0} (s : Spoken) → is_clean s ≡ false → s ≡ spoken.Clean → P
not_clean s dirty e = let clean : is_clean s ≡ true = ap is_clean e in absurd cc

open_granted : (answer : Answer) → spoken_open answer ≡ spoken.Clean → IsGrant (Ok (Open answer))
open_granted (Granted number least stream generation version) e = (Granted number least stream generation version, refl, refl)
open_granted (Denied number cause) e = not_clean (spoken_denied cause) (denied_not (is_infection cause) cause) e
open_granted (Unscanned number stream generation cause) e = not_clean (spoken.NoVerdict (number_of cause)) refl e

pub clean_by_grant : IsCleanByGrant
clean_by_grant (Ok (Open answer)) e = open_granted answer e
clean_by_grant (Ok (Large answer)) e = not_clean _ refl e
clean_by_grant (Err fault) e = not_clean _ refl e

pub stream_clean_by_grant : IsStreamCleanByGrant
stream_clean_by_grant (Ok (Open answer)) e = open_granted answer e
stream_clean_by_grant (Ok (Large answer)) e = not_clean (spoken_large (cause_of answer)) (large_not (cause_of answer)) e
stream_clean_by_grant (Err fault) e = not_clean _ refl e
