use Rattle.av_engines.proofs.WatchingLemmas.{amid_event}
use Rattle.av_engines.proofs.watching.receive.Goals as goal

pub returns-clause-amid : goal.returns-clause-amid
returns-clause-amid c = amid_event _ c.in_ok-out.out _ _ _ _ _ _ _ c.in_ok-out.ensures.event c.make_room.ensures.answers c.give.ensures.answers
