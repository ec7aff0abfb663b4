-- How many asks there were, and how they were answered.
use Rattle.std.specs.Prelude.{ℕ, ◌+◌, min}
use Rattle.av_base.specs.declared.cause.Cause.{Cause}
use Rattle.av_base.specs.declared.cause.Cause.TheVariants.{NoStream, Infected, NotConnected, Busy, TimedOut, PortDisconnected, ScanFailed, Unsettled, StreamRemoved, FilterRestart}
use Rattle.av_health.specs.declared.counts.Counts.{Counts}
use Rattle.av_log.specs.declared.entry.Judged.{Judged}
use Rattle.av_log.specs.declared.entry.Judged.TheVariants as judged

-- so many more, up to the greatest number
abbrev pub more : ℕ → ℕ → ℕ
more count n = min (n + count) 18_446_744_073_709_551_615

-- a content is asked about
abbrev pub asked : Counts → Counts
asked c = record c { asks = more 1 c.asks }

-- an answer that nobody judged counts as late where its time was up
abbrev pub timed_out : Cause → Counts → Counts
timed_out TimedOut c = record c { timeouts = more 1 c.timeouts }
timed_out NoStream c = c
timed_out Infected c = c
timed_out NotConnected c = c
timed_out Busy c = c
timed_out PortDisconnected c = c
timed_out ScanFailed c = c
timed_out Unsettled c = c
timed_out StreamRemoved c = c
timed_out FilterRestart c = c

-- an answer is told: an infected content is denied
abbrev pub told : Judged → Counts → Counts
told (judged.Granted version) c = record c { grants = more 1 c.grants }
told (judged.Infected version signature end) c = record c { denials = more 1 c.denials }
told (judged.Denied cause) c = timed_out cause (record c { denials = more 1 c.denials })
told (judged.Unscanned cause) c = timed_out cause (record c { unscanned = more 1 c.unscanned })
told (judged.LargeDenied cause) c = record c { denials = more 1 c.denials }
told (judged.LargeUnscanned cause) c = record c { unscanned = more 1 c.unscanned }

-- so many lines were dropped
abbrev pub dropped : ℕ → Counts → Counts
dropped lines c = record c { dropped_lines = more lines c.dropped_lines }
