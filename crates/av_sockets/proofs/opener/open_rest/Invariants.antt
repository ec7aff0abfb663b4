use Rattle.av_sockets.specs.Run.{LeadsOn}
use Rattle.av_sockets.proofs.opener.open_rest.Given as goal

-- the opens so far led there
abbrev pub invariant-streams : goal.invariant-streams
invariant-streams l = LeadsOn l.initial.mount l.initial.answers.items l.mount l.answers.items
