use Rattle.std.proofs.Common.{ap, refl, sym, ◌∙◌}
use Rattle.av_turns.specs.Counts.{kept_of}
use Rattle.av_turns.proofs.CountsLemmas.{still_counted}
use Rattle.av_turns.proofs.turns.Turns.parsed_command.Goals as goal

pub invariant_of-self-2 : goal.invariant_of-self-2
invariant_of-self-2 c =
    still_counted c.put.result c.self.inside.clients c.put.new.self c.self.inside.most_clients c.args.client c.self.inside.smalls.asks c.self.inside.larges.asks c.in-Some.counts c.said.result c.self.invariant (sym c.get.ensures.value ∙ c.in-Some.is)
    (ap kept_of c.said.ensures.value ∙ refl) c.put.ensures.ok c.put.ensures.err c.put.ensures.count
