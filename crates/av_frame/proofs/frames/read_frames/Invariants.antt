use Rattle.std.proofs.Common.{◌≡◌, ◌++◌, false, drop}
use Rattle.std.specs.Prelude.{None}
use Rattle.std.specs.List.{flat_map, AllByRecursion}
use Rattle.av_frame.specs.Message.{IsLetter}
use Rattle.av_frame.specs.Spelling.{frame}
use Rattle.av_frame.specs.Frames.{Ends, joined}
use Rattle.av_frame.proofs.frames.read_frames.Given as goal

-- the messages, what the feed holds and what is to come are the whole stream
abbrev pub invariant-pieces : goal.invariant-pieces
invariant-pieces l = record {
  bytes : (flat_map frame l.messages.items ++ l.feed.rest) ++ joined (drop l.piece-index l.pieces) ≡ joined l.pieces;
  in_range : AllByRecursion IsLetter l.messages.items;
  ends : Ends l.feed.rest None;
  sound : l.feed.broken ≡ false;
}
