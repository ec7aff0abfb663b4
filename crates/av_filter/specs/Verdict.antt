-- What is known of a stream's content.
use Rattle.std.specs.Prelude.{ℕ, Option, Some, None}
use Rattle.av_base.specs.declared.verdict.Verdict.{Verdict}
use Rattle.av_context.specs.declared.context_state.ContextState.{ContextState}
use Rattle.av_context.specs.declared.context_state.ContextState.TheVariants.{Modified, Scanning, Judged}

-- the verdict of a context, with its version
abbrev pub verdict_in : ContextState → Option (ℕ × Verdict)
verdict_in Modified = None
verdict_in (Scanning id) = None
verdict_in (Judged version verdict) = Some (version, verdict)

-- the same of a stream's context, where it has one
abbrev pub verdict_of : Option ContextState → Option (ℕ × Verdict)
verdict_of None = None
verdict_of (Some c) = verdict_in c
