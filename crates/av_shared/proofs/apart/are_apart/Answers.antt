use Rattle.std.proofs.Common.{◌≡◌, ◌∙◌, ◌&&◌, IsTrue, rules}
use Rattle.std.specs.List.{list_all}
use Rattle.std.specs.Option.{option_copied}
use Rattle.av_filter.specs.Audit.{FilterEntry}
use Rattle.av_service.specs.Audit.{ServiceEntry}
use Rattle.av_shared.proofs.ApartLemmas.{one_history}
use Rattle.av_shared.specs.Apart.{hears_nothing, takes_nothing}
use Rattle.av_shared.specs.History.{events_of}
use Rattle.av_shared.proofs.apart.are_apart.Goals as goal

pub returns-then-heard_nothing-clause-history : goal.returns-then-heard_nothing-clause-history
returns-then-heard_nothing-clause-history c = λ took.
    let heard : IsTrue c.heard_nothing.result = search rules in
    let gate : list_all (λ (x : FilterEntry). hears_nothing x.event) c.args.gate.now.events.items ≡ c.heard_nothing.result = search rules in
    let desks : (list_all (λ (x : ServiceEntry). takes_nothing x.call) c.args.desk.now.events.items && list_all (λ (x : ServiceEntry). takes_nothing x.call) (events_of (option_copied c.args.spare))) ≡ c.both_took_nothing.result = search rules in
    one_history c.args.gate.now c.args.desk.now (option_copied c.args.spare) (λ i. (gate ∙ heard) i && (desks ∙ took) i)
