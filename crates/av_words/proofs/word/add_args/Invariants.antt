use Rattle.std.proofs.Common.{◌≡◌, ◌+◌, length}
use Rattle.av_words.proofs.word.add_args.Given as goal

-- one argument more for each word so far
abbrev pub invariant-words : goal.invariant-words
invariant-words l = length l.args.items ≡ length l.initial.args.items + l.word-index
