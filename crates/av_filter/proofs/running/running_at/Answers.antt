use Rattle.std.proofs.Common.{◌<◌, ◌^◌, arith}
use Rattle.av_base.specs.MessageId.{same_id}
use Rattle.av_filter.proofs.ReadyLemmas.{running}
use Rattle.av_filter.proofs.running.running_at.Goals as goal

pub returns-clause-runs : goal.returns-clause-runs
returns-clause-runs c =
    let t = c.args.table.now in
    let small : t.boot < 2 ^ 64 = omega arith in
    let last : t.sequence < 2 ^ 64 = omega arith in
    running t (λ q. same_id q.id c.args.id) _ c.boot-boot.ensures.orderly c.boot-boot.ensures.mounted small last c.question_at.ensures
