use Rattle.av_sockets.specs.Run.{LeadsLate}
use Rattle.av_sockets.proofs.opener.remove_all.Given as goal

-- what was taken away so far led there
abbrev pub invariant-streams : goal.invariant-streams
invariant-streams l = LeadsLate l.initial.mount l.mount
