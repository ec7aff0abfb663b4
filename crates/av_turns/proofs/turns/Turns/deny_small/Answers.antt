use Rattle.std.proofs.Common.{sym, ◌∙◌}
use Rattle.av_turns.specs.Turns.{standing_of}
use Rattle.av_turns.proofs.CountsLemmas.{put_is_ok, small_leaves}
use Rattle.av_turns.proofs.turns.Turns.deny_small.Goals as goal

pub invariant_of-self-2 : goal.invariant_of-self-2
invariant_of-self-2 c =
    small_leaves c.self.inside.clients c.put.new.self c.self.inside.most_clients c.args.client c.self.inside.smalls.asks c.pull.new.self.asks c.self.inside.larges.asks c.in_ok-counts.counts c.small_left.result (standing_of c.in-Some.standing) c.in_ok-front.front c.self.invariant
    (sym c.get.ensures.value ∙ c.in_ok-counts.was) c.small_left.ensures.value (put_is_ok _ c.put.result c.ok.result c.in_ok-ok.field-0 c.ok.ensures.value c.in_ok-ok.was c.put.ensures.ok)
    c.in_ok-front.ensures.some.0 c.in_ok-front.ensures.some.1 c.in-Some.ensures.some.1.ask c.in-Some.ensures.some.1.others c.put.ensures.count
