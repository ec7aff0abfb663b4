use Rattle.std.proofs.Common.{◌≡◌, ◌++◌, take, length}
use Rattle.av_parts.specs.Serving.{frames_of}
use Rattle.av_parts.proofs.side.put_words.Given as goal

-- the frames of the words so far stand behind what was there
abbrev pub invariant-words : goal.invariant-words
invariant-words l = (l.waits.items ≡ l.fn.waits.items ++ frames_of (take l.word-index l.words)) × (l.before ≡ length l.fn.waits.items)
