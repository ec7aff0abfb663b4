-- What is told of a content that could not be judged, and of one that came in parts.
use Rattle.av_asks.specs.declared.large_answer.LargeCause.{LargeCause}
use Rattle.av_asks.specs.declared.large_answer.LargeCause.TheVariants.{AskAgain, TooLarge, GivenUp, NoParts}
use Rattle.av_base.specs.declared.cause.Cause.{Cause}
use Rattle.av_base.specs.declared.mode.Mode.{Mode}
use Rattle.av_base.specs.declared.mode.Mode.TheVariants.{FailClosed, FailOpen}
use Rattle.av_guard.specs.declared.answered.Answered.{Answered}
use Rattle.av_guard.specs.declared.answered.Answered.TheVariants as answered
use Rattle.av_large.specs.declared.answer.Answer.{Answer}
use Rattle.av_large.specs.declared.answer.Answer.TheVariants.{Granted, Infected, Unjudged, Lacks}
use Rattle.av_peers.specs.declared.told.LargeTold.{LargeTold}
use Rattle.av_peers.specs.declared.told.LargeTold.TheVariants as told

-- it is denied, or let through without a verdict: it is granted under no mode
abbrev pub unjudged : Mode → Cause → Answered
unjudged FailClosed cause = answered.Denied cause
unjudged FailOpen cause = answered.Unscanned 2 cause

-- a content in parts that was not judged: one that is too large, or that no service takes, is let through where the mode lets through
-- what can't be judged; one that is to be asked about again, or was given up, never is
abbrev pub lacking : Mode → LargeCause → LargeTold
lacking FailClosed cause = told.Denied cause
lacking FailOpen AskAgain = told.Denied AskAgain
lacking FailOpen GivenUp = told.Denied GivenUp
lacking FailOpen TooLarge = told.Unscanned TooLarge
lacking FailOpen NoParts = told.Unscanned NoParts

-- what is told of a content in parts: it is granted where it was judged clean, and under no mode else
abbrev pub large_told : Mode → Answer → LargeTold
large_told mode (Granted version) = told.Answered (answered.Granted 2 version)
large_told mode (Infected version index end) = told.Answered (answered.Infected version index end)
large_told mode (Unjudged cause) = told.Answered (unjudged mode cause)
large_told mode (Lacks cause) = lacking mode cause
