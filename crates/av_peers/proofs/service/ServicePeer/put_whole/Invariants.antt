use Rattle.std.proofs.Common.{◌≡◌, ◌++◌, [], length, None}
use Rattle.std.specs.List.{flat_map}
use Rattle.av_frame.specs.Spelling.{frame}
use Rattle.av_peers.specs.Service.{unheard}
use Rattle.av_peers.proofs.service.ServicePeer.put_whole.Given as goal

-- the messages so far were taken off
abbrev pub invariant-messages : goal.invariant-messages
invariant-messages l =
    (l.fn.messages.items ≡ [] → unheard l.fn.self ≡ flat_map frame l.messages.items ++ l.self.feed.rest)
    × (l.self ≡ record l.fn.self { feed = l.self.feed; greeting = None })

abbrev pub decreases-messages : goal.decreases-messages
decreases-messages l = length l.self.feed.rest
