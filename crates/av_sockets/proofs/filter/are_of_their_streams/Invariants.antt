use Rattle.std.proofs.Common.{take}
use Rattle.av_sockets.specs.Run.{AreOfTheirStreams, IsContentIn}
use Rattle.av_sockets.proofs.filter.are_of_their_streams.Given as goal

-- the lines so far are of their streams
abbrev pub invariant-files : goal.invariant-files
invariant-files l = AreOfTheirStreams (IsContentIn l.volume.streams) l.volume (take l.line-index l.opened)
