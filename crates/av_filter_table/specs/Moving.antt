-- The opens of a question come to wait for another one: those with no rescan left go out.
use Rattle.std.specs.Prelude.{ℕ, Bool, not, ◌&&◌, List, map, filter, if◌then◌else◌}
use Rattle.av_base.specs.declared.cause.Cause.{Cause}
use Rattle.av_base.specs.declared.mode.Mode.{Mode}
use Rattle.av_filter_table.specs.Chains.{is_of, is_spent, once_more}
use Rattle.av_filter_table.specs.Answering.{present_generation}
use Rattle.av_pend.specs.Pend.{refused}
use Rattle.av_pend.specs.Waiting.{Waiting}
use Rattle.av_pend.specs.declared.answer.Answer.{Answer}
use Rattle.av_store.specs.Store.{Store}

-- it waits for this question, with no rescan left
abbrev pub is_over : ℕ → ℕ × Waiting → Bool
is_over n x = is_of n x && is_spent x

-- those of this question with no rescan left
abbrev pub overs : ℕ → List (ℕ × Waiting) → List (ℕ × Waiting)
overs n xs = filter (is_over n) xs

-- an open of the old question waits for the new one, and has seen one rescan more; any other stays
abbrev pub moved : ℕ → ℕ → ℕ × Waiting → ℕ × Waiting
moved old new x = if is_of old x then (new, once_more x.1) else x

-- the opens once those of the old question have moved or gone
abbrev pub moved_all : ℕ → ℕ → List (ℕ × Waiting) → List (ℕ × Waiting)
moved_all old new xs = map (moved old new) (filter (λ x. not (is_over old x)) xs)

-- an open that can't be judged, at the present generation of its stream
abbrev pub refusal : Mode → Store → Cause → ℕ × Waiting → Answer
refusal mode v cause x = refused mode (present_generation v x.1.stream) cause x.1

-- opens that can't be judged, for one cause
abbrev pub refusals : Mode → Store → Cause → List (ℕ × Waiting) → List Answer
refusals mode v cause xs = map (refusal mode v cause) xs
