use Rattle.std.proofs.Common.{◌<◌, ◌^◌, ◌==◌, arith}
use Rattle.av_filter.proofs.ReadyLemmas.{running, of_stream}
use Rattle.av_filter.proofs.running.running_of.Goals as goal

pub returns-clause-runs : goal.returns-clause-runs
returns-clause-runs c =
    let t = c.args.table.now in
    let small : t.boot < 2 ^ 64 = omega arith in
    let last : t.sequence < 2 ^ 64 = omega arith in
    running t (λ q. q.stream == c.args.stream) _ c.boot-boot.ensures.orderly c.boot-boot.ensures.mounted small last c.question_of.ensures

pub returns-clause-stream : goal.returns-clause-stream
returns-clause-stream c = of_stream c.args.table.now.questions c.args.stream _ c.question_of.ensures
