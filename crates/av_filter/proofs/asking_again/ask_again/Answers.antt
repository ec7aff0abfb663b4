use Rattle.std.proofs.Common.{◌++◌, [], ap, ◌∙◌}
use Rattle.av_filter.proofs.AgainLemmas.{reacts_behind}
use Rattle.av_filter.proofs.ReadyLemmas.{stream_there}
use Rattle.av_filter.specs.Again.{again}
use Rattle.av_filter.proofs.asking_again.ask_again.Goals as goal

pub ask_or_close-requires-clause-there : goal.ask_or_close-requires-clause-there
ask_or_close-requires-clause-there c = stream_there c.args.table.now c.args.volume.now c.args.question.now c.requires.fits c.requires.runs

pub returns : goal.returns
returns c =
    let t = c.args.table.now in
    let v = c.args.volume.now in
    let q = c.args.question.now in
    reacts_behind c.gives.result t c.ask_or_close.new.table v q _
    (ap (λ xs. xs.items) c.gives.ensures.answers ∙ c.ask_or_close.ensures.answers ∙ ap (λ xs. xs ++ (again t v q []).answers) c.in_ok-answers.ensures.empty)
    (ap (λ ms. ms.items) c.gives.ensures.messages ∙ c.ask_or_close.ensures.messages ∙ ap (λ ms. ms ++ (again t v q []).messages) c.in_ok-messages.ensures.items)
    c.gives.ensures.note c.ask_or_close.ensures.table
