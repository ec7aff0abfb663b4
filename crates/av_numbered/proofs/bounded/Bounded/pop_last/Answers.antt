use Rattle.std.proofs.Common.{◌≡◌, suc, length, arith}
use Rattle.av_numbered.proofs.BoundedLemmas.{last-out}
use Rattle.av_numbered.proofs.bounded.Bounded.pop_last.Goals as goal

pub returns-clause-some : goal.returns-clause-some
returns-clause-some g c =
    let last : suc c.in_ok-last.last ≡ length c.args.self.now = let count = c.len.ensures.len in let last = c.in_ok-last.ensures in omega arith in
    last-out c.args.self.now c.take_at.new.self c.in_ok-last.last c.take_at.result.0 (c.take_at.result.1, c.take_at.result.2) c.len.ensures.ascend last c.take_at.ensures.value c.take_at.ensures.puts
