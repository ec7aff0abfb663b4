use Rattle.std.proofs.Common.{rules}
use Rattle.av_peers.proofs.client.next_said.Goals as goal

pub returns-in-Ok : goal.returns-in-Ok
returns-in-Ok c = (c.in-Ok.field-0.said, c.thing_of.ensures, search rules, search rules, search rules)
