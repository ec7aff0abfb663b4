use Rattle.std.proofs.Common.{◌≡◌, ◌++◌, take, length}
use Rattle.std.specs.List.{flat_map}
use Rattle.av_frame.specs.Spelling.{frame}
use Rattle.av_engines.proofs.outgoing.Outgoing.put.Given as goal

-- the frames of the messages so far stand behind what was there
abbrev pub invariant-messages : goal.invariant-messages
invariant-messages l = (l.self-inside.buffer.items ≡ l.fn.self ++ flat_map frame (take l.message-index l.messages)) × (l.before ≡ length l.fn.self)
