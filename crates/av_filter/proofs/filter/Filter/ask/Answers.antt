use Rattle.std.proofs.Common.{Some, sym, subst}
use Rattle.av_filter.specs.Asking.{Calls, event_called}
use Rattle.av_filter.proofs.AskLemmas.{created}
use Rattle.av_filter.proofs.filter.Filter.ask.Goals as goal

pub returns-in-Ok : goal.returns-in-Ok
returns-in-Ok c =
    let t = c.args.self.now in
    let v = c.args.volume.now in
    subst (λ k. Calls t v t c.create.new.self (event_called k) (Some c.quiet.result)) (sym c.in-Create.is)
    (created c.quiet.result t v c.create.new.self c.in-Create.name.now c.in-Ok.field-0 c.in-Ok.ensures c.quiet.ensures.answers c.quiet.ensures.messages c.quiet.ensures.note)
