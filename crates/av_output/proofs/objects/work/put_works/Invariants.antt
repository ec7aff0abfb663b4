use Rattle.std.proofs.Common.{◌≡◌, ◌+◌, ◌++◌, take}
use Rattle.av_output.specs.Objects.Messages.{work_tokens}
use Rattle.av_output.specs.Text.Messages.{placed}
use Rattle.av_output.proofs.objects.work.put_works.Given as goal

-- the objects of the work so far were put
abbrev pub invariant-loop-index : goal.invariant-loop-index
invariant-loop-index l =
    (l.line.before ≡ l.initial.line.before)
    × (l.line.tokens ≡ l.initial.line.tokens ++ placed work_tokens (l.from + 1) (take l.index l.work-items))
