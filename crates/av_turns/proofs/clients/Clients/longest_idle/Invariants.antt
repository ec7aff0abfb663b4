use Rattle.std.proofs.Common.{◌≡◌, None}
use Rattle.av_turns.specs.Clients.{longest_from}
use Rattle.av_turns.proofs.clients.Clients.longest_idle.Given as goal

abbrev pub invariant-loop-number : goal.invariant-loop-number
invariant-loop-number l = longest_from l.longest l.number-iterator ≡ longest_from None l.self.clients
