-- Causes in words.
use Rattle.std.specs.Prelude.{ℕ, List, [], ◌∷◌, codes}
use Rattle.json.specs.Token.{Token}
use Rattle.av_base.specs.Cause.{number_of}
use Rattle.av_base.specs.declared.cause.Cause.{Cause}
use Rattle.av_base.specs.declared.cause.Cause.TheVariants as cause
use Rattle.av_json.specs.Member.{number_tokens, text_tokens}

-- a cause in words
abbrev pub why_of : Cause → List ℕ
why_of cause.NoStream = codes "no stream"
why_of cause.Infected = codes "infected"
why_of cause.NotConnected = codes "not connected"
why_of cause.Busy = codes "busy"
why_of cause.TimedOut = codes "timed out"
why_of cause.PortDisconnected = codes "service lost"
why_of cause.ScanFailed = codes "scan failed"
why_of cause.Unsettled = codes "unsettled"
why_of cause.StreamRemoved = codes "removed"
why_of cause.FilterRestart = codes "filter restarted"

-- a cause by its number and in words
abbrev pub cause_members : Cause → List (List Token)
cause_members cause = number_tokens (codes "cause") (number_of cause) ∷ text_tokens (codes "why") (why_of cause) ∷ []
