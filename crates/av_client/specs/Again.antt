-- When a content is asked about again.
use Rattle.std.specs.Prelude.{◌&&◌, Bool, false, true, nat_lt, if◌then◌else◌, Option, None, Some}
use Rattle.av_asks.specs.declared.content_answer.ContentAnswer.{ContentAnswer}
use Rattle.av_asks.specs.declared.content_answer.ContentAnswer.TheVariants as content_answer
use Rattle.av_asks.specs.declared.large_answer.LargeAnswer.{LargeAnswer}
use Rattle.av_asks.specs.declared.large_answer.LargeAnswer.TheVariants.{Denied, Unscanned}
use Rattle.av_asks.specs.declared.large_answer.LargeCause.{LargeCause}
use Rattle.av_asks.specs.declared.large_answer.LargeCause.TheVariants.{AskAgain, TooLarge, GivenUp, NoParts}
use Rattle.av_client.specs.declared.again.Chance.{Chance}
use Rattle.av_client.specs.declared.again.Way.{Way}
use Rattle.av_client.specs.declared.again.Way.TheVariants.{One, Parts}
use Rattle.av_client.specs.declared.reply.Reply.{Reply}
use Rattle.av_client.specs.declared.reply.Reply.TheVariants.{Open, Large}

-- why a content in parts was not judged
abbrev pub cause_of : LargeAnswer → LargeCause
cause_of (Denied tag cause) = cause
cause_of (Unscanned tag generation cause) = cause

-- a content was given up
abbrev pub gives_up : LargeCause → Bool
gives_up AskAgain = false
gives_up TooLarge = false
gives_up GivenUp = true
gives_up NoParts = false

-- a reply says so, and nothing more
abbrev pub is_given_up : Reply → Bool
is_given_up (Open a) = false
is_given_up (Large a) = gives_up (cause_of a)

-- a small content whose service takes no parts is asked about as one
abbrev pub way_after : LargeCause → Bool → Option Way
way_after AskAgain is_small = Some Parts
way_after TooLarge is_small = None
way_after GivenUp is_small = Some Parts
way_after NoParts is_small = if is_small then Some One else None

-- up to three times, where it can be had again
abbrev pub next_way_of : Reply → Chance → Option Way
next_way_of (Open a) chance = None
next_way_of (Large a) chance = if chance.is_kept && nat_lt chance.tries 3 then way_after (cause_of a) chance.is_small else None

-- whether contents in parts are taken, as the last answer says that tells so
abbrev pub takes_parts : LargeCause → Bool
takes_parts AskAgain = true
takes_parts TooLarge = true
takes_parts GivenUp = true
takes_parts NoParts = false

abbrev pub taken_after : ContentAnswer → Bool → Bool
taken_after (content_answer.Open a) before = before
taken_after (content_answer.Large a) before = takes_parts (cause_of a)
