use Rattle.std.proofs.Common.{◌≡◌}
use Rattle.av_filter.proofs.ReadyLemmas.{its_own}
use Rattle.av_filter_table.specs.Asking.{asked_again}
use Rattle.av_filter.proofs.asking_again.ask_anew.Goals as goal

pub returns-clause-table : goal.returns-clause-table
returns-clause-table c =
    let t = c.args.table.now in
    its_own t c.args.question.now (λ q. c.ask_again.new.self ≡ asked_again t c.args.volume.now c.args.port q) c.requires.runs c.ask_again.ensures.table
