-- What a client is told by what a guard replied.
use Rattle.std.specs.Prelude.{◌≡◌, true, Result, Ok, Err, if◌then◌else◌}
use Rattle.av_asks.specs.LargeAnswers.{cause_number}
use Rattle.av_asks.specs.declared.large_answer.LargeCause.{LargeCause}
use Rattle.av_asks.specs.declared.large_answer.LargeCause.TheVariants as large_cause
use Rattle.av_base.specs.Cause.{number_of}
use Rattle.av_base.specs.declared.cause.Cause.{Cause}
use Rattle.av_clamd.specs.declared.reply.Failing.{Failing}
use Rattle.av_clamd.specs.declared.reply.Failing.TheVariants.{Unreadable, NoAnswer, NoMemory}
use Rattle.av_clamd.specs.declared.reply.Spoken.{Spoken}
use Rattle.av_clamd.specs.declared.reply.Spoken.TheVariants as spoken
use Rattle.av_client.specs.Again.{cause_of}
use Rattle.av_client.specs.declared.asking.AskingFault.{AskingFault}
use Rattle.av_client.specs.declared.asking.AskingFault.TheVariants as asking
use Rattle.av_client.specs.declared.reply.Reply.{Reply}
use Rattle.av_client.specs.declared.reply.Reply.TheVariants.{Open, Large}
use Rattle.av_files.specs.Opened.{is_granted, is_infection}
use Rattle.av_pend.specs.declared.answer.Answer.{Answer}
use Rattle.av_pend.specs.declared.answer.Answer.TheVariants.{Granted, Unscanned, Denied}

-- a file that was kept out: a signature occurs, or nobody judged it
abbrev pub spoken_denied : Cause → Spoken
spoken_denied cause = if is_infection cause then spoken.Infected else spoken.NoVerdict (number_of cause)

-- what an open was told
abbrev pub spoken_open : Answer → Spoken
spoken_open (Granted number least stream generation version) = spoken.Clean
spoken_open (Denied number cause) = spoken_denied cause
spoken_open (Unscanned number stream generation cause) = spoken.NoVerdict (number_of cause)

-- why nothing came of asking
abbrev pub failing_of : AskingFault → Failing
failing_of asking.TooLarge = Unreadable
failing_of asking.Unread = Unreadable
failing_of asking.Memory = NoMemory
failing_of asking.Lost = NoAnswer

-- a file about which a guard replied so, or about which nothing came of asking
abbrev pub spoken_of : Result Reply AskingFault → Spoken
spoken_of (Ok (Open answer)) = spoken_open answer
spoken_of (Ok (Large answer)) = spoken.NoVerdict (cause_number (cause_of answer))
spoken_of (Err fault) = spoken.Failed (failing_of fault)

-- a content in parts that was not judged
abbrev pub spoken_large : LargeCause → Spoken
spoken_large large_cause.AskAgain = spoken.NoVerdict (cause_number large_cause.AskAgain)
spoken_large large_cause.TooLarge = spoken.TooLarge
spoken_large large_cause.GivenUp = spoken.NoVerdict (cause_number large_cause.GivenUp)
spoken_large large_cause.NoParts = spoken.NoVerdict (cause_number large_cause.NoParts)

-- the same of a content that a client sent
abbrev pub spoken_of_stream : Result Reply AskingFault → Spoken
spoken_of_stream (Ok (Open answer)) = spoken_open answer
spoken_of_stream (Ok (Large answer)) = spoken_large (cause_of answer)
spoken_of_stream (Err fault) = spoken.Failed (failing_of fault)

-- a guard granted it
abbrev pub IsGrant : Result Reply AskingFault → Type 0
IsGrant asked = (answer : Answer) × (asked ≡ Ok (Open answer)) × (is_granted answer ≡ true)

-- `OK` is said of what a guard granted, and of nothing else
abbrev pub IsCleanByGrant : Type 0
IsCleanByGrant = (asked : Result Reply AskingFault) → spoken_of asked ≡ spoken.Clean → IsGrant asked

abbrev pub IsStreamCleanByGrant : Type 0
IsStreamCleanByGrant = (asked : Result Reply AskingFault) → spoken_of_stream asked ≡ spoken.Clean → IsGrant asked
