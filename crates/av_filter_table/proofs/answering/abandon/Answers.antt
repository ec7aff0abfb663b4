use Rattle.std.proofs.Common.{◌≡◌, ◌+◌, length, arith, ap, ◌∙◌}
use Rattle.av_filter_table.proofs.answering.abandon.Goals as goal

pub denied-smaller : goal.denied-smaller
denied-smaller c =
    let fewer : length c.denied.table.pended ≡ length c.pop_open.new.self.pended + 1 = ap length c.in-Some.ensures.some.1 ∙ omega arith in
    omega arith
