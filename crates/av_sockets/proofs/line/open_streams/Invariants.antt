use Rattle.std.proofs.Common.{◌≡◌, []}
use Rattle.av_sockets.specs.Run.{LeadsOn}
use Rattle.av_sockets.proofs.line.open_streams.Given as goal

-- the parts so far led there, and nothing waits to go out
abbrev pub invariant-parts : goal.invariant-parts
invariant-parts g l = record {
  led : LeadsOn l.initial.mount l.initial.answers.items l.mount l.answers.items;
  idle : l.exchange.outgoing ≡ [];
}
