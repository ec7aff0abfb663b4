use Rattle.std.proofs.Common.{◌≡◌, length}
use Rattle.av_pool.specs.Channel.{IsLike}
use Rattle.av_pool.specs.Crew.{IsFresh}
use Rattle.av_pool.proofs.crew.Crew.add_workers.Given as goal

abbrev pub invariant-loop : goal.invariant-loop
invariant-loop g l = IsFresh l.self × (length l.self.workers.items ≡ l.counter) × IsLike l.initial.self.work_pass l.self.work_pass × IsLike l.initial.self.done_pass l.self.done_pass
