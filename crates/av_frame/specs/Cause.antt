use Rattle.std.specs.Prelude.{ℕ, ◌==◌, Option, None, Some, if◌then◌else◌}
use Rattle.av_frame.specs.declared.cause.NoChunkCause.{NoChunkCause}
use Rattle.av_frame.specs.declared.cause.NoChunkCause.TheVariants.{NoQuestion, PastEnd}
use Rattle.av_frame.specs.declared.cause.FailCause.{FailCause}
use Rattle.av_frame.specs.declared.cause.FailCause.TheVariants.{JobsFull, PastLength}

-- the number of a cause for sending no chunk
abbrev pub no_chunk_number : NoChunkCause → ℕ
no_chunk_number NoQuestion = 1
no_chunk_number PastEnd = 2

-- the cause of a number
abbrev pub no_chunk_cause : ℕ → Option NoChunkCause
no_chunk_cause n = if n == 1 then Some NoQuestion else (if n == 2 then Some PastEnd else None)

-- the number of a cause for which a scan failed
abbrev pub fail_number : FailCause → ℕ
fail_number JobsFull = 1
fail_number PastLength = 2

-- the cause of a number
abbrev pub fail_cause : ℕ → Option FailCause
fail_cause n = if n == 1 then Some JobsFull else (if n == 2 then Some PastLength else None)
