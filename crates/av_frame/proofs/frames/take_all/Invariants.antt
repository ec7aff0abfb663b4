use Rattle.std.proofs.Common.{◌≡◌, ◌++◌, false, length}
use Rattle.std.specs.List.{flat_map, AllByRecursion}
use Rattle.av_frame.specs.Message.{IsLetter}
use Rattle.av_frame.specs.Spelling.{frame}
use Rattle.av_frame.proofs.frames.take_all.Given as goal

-- what was taken and what is left are what was there
abbrev pub invariant-messages : goal.invariant-messages
invariant-messages l = record {
  bytes : flat_map frame l.messages.items ++ l.feed.rest ≡ flat_map frame l.fn.messages.items ++ l.fn.feed.rest;
  in_range : AllByRecursion IsLetter l.fn.messages.items → AllByRecursion IsLetter l.messages.items;
  sound : l.feed.broken ≡ false;
}

abbrev pub decreases-messages : goal.decreases-messages
decreases-messages l = length l.feed.rest
