-- How a question ends that no verdict and no single cause answers: what its opens are told, and what is known of its stream.
use Rattle.std.specs.Prelude.{nat_le, List, map, Option, None, Some, if◌then◌else◌}
use Rattle.av_base.specs.declared.cause.Cause.TheVariants.{StreamRemoved}
use Rattle.av_base.specs.declared.cause.Cause.TheVariants as cause
use Rattle.av_base.specs.declared.mode.Mode.{Mode}
use Rattle.av_context.specs.declared.context_state.ContextState.{ContextState}
use Rattle.av_context.specs.declared.context_state.ContextState.TheVariants.{Modified}
use Rattle.av_filter.specs.declared.ending.Ending.{Ending}
use Rattle.av_filter.specs.declared.ending.Ending.TheVariants.{Removed, Unsettled}
use Rattle.av_filter_table.specs.Answering.{present_generation}
use Rattle.av_filter_table.specs.declared.pended.Pended.{Pended}
use Rattle.av_filter_table.specs.Table.{Table}
use Rattle.av_pend.specs.Pend.{denied, refused}
use Rattle.av_pend.specs.Waiting.{Waiting}
use Rattle.av_pend.specs.declared.answer.Answer.{Answer}
use Rattle.av_store.specs.Store.{Store}

-- what an open is told
abbrev pub answer_of : Mode → Store → Ending → Waiting → Answer
answer_of mode v Removed w = denied StreamRemoved w
answer_of mode v Unsettled w =
    refused mode (present_generation v w.stream) (if nat_le 8 w.rescans then cause.Unsettled else cause.Busy) w

-- the same of an open as the table has it, and of several in their order
abbrev pub told : Table → Store → Ending → Pended → Answer
told t v ending p = answer_of t.mode v ending p.held

-- the answers to these opens at the end of their question
abbrev pub all_told : Table → Store → Ending → List Pended → List Answer
all_told t v ending ps = map (told t v ending) ps

-- the context of its stream
abbrev pub context_after : Ending → Option ContextState
context_after Removed = None
context_after Unsettled = Some Modified
