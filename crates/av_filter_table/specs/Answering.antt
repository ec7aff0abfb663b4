-- What opens are answered with.
use Rattle.std.specs.Prelude.{ℕ, ◌≤◌, List, [], map, Option, None, Some}
use Rattle.std.specs.List.{AllByRecursion}
use Rattle.av_base.specs.declared.cause.Cause.{Cause}
use Rattle.av_base.specs.declared.cause.Cause.TheVariants as cause
use Rattle.av_base.specs.declared.verdict.Verdict.{Verdict}
use Rattle.av_base.specs.declared.verdict.Verdict.TheVariants.{Clean, Infected}
use Rattle.av_filter_table.specs.declared.pended.Pended.{Pended}
use Rattle.av_filter_table.specs.Table.{Table}
use Rattle.av_pend.specs.Pend.{granted, denied, refused}
use Rattle.av_pend.specs.Waiting.{Waiting}
use Rattle.av_pend.specs.declared.answer.Answer.{Answer}
use Rattle.av_store.specs.Rows.{stream_at}
use Rattle.av_store.specs.Store.{Store}
use Rattle.av_store.specs.declared.stream.Stream.{Stream}

-- the present generation and bytes of a stream; 0 and none where it is not there
abbrev pub stream_generation : Option Stream → ℕ
stream_generation None = 0
stream_generation (Some x) = x.generation

-- the bytes of a stream, none where there is no stream
abbrev pub stream_bytes : Option Stream → List ℕ
stream_bytes None = []
stream_bytes (Some x) = x.bytes

-- the present generation of a stream, by its number
abbrev pub present_generation : Store → ℕ → ℕ
present_generation v s = stream_generation (stream_at s v.streams)

-- the present bytes of a stream, by its number
abbrev pub present_bytes : Store → ℕ → List ℕ
present_bytes v s = stream_bytes (stream_at s v.streams)

-- what an open gets by a verdict
abbrev pub judged : Verdict → ℕ → ℕ → Waiting → Answer
judged Clean generation version p = granted generation version p
judged (Infected index end_at) generation version p = denied cause.Infected p

-- what the opens of a question get by its verdict
abbrev pub all_judged : Verdict → ℕ → ℕ → List Pended → List Answer
all_judged r generation version ps = map (λ p. judged r generation version p.held) ps

-- a version is new enough to judge these opens
abbrev pub MayJudge : ℕ → List Pended → Type 0
MayJudge version ps = AllByRecursion (λ p. p.held.least ≤ version) ps

-- what an open gets that can't be judged, at the present generation of its stream
abbrev pub refused_now : Table → Store → Cause → Pended → Answer
refused_now t v cause p = refused t.mode (present_generation v p.held.stream) cause p.held

-- opens that can't be judged, for one cause
abbrev pub by_mode : Table → Store → Cause → List Pended → List Answer
by_mode t v cause ps = map (refused_now t v cause) ps
