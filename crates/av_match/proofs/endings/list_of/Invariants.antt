use Rattle.std.proofs.Common.{◌≡◌, ◌++◌, drop}
use Rattle.av_match.specs.Endings.{endings_from}
use Rattle.av_match.proofs.endings.list_of.Given as goal

-- those listed and those among the patterns left are all
abbrev pub invariant-loop-index : goal.invariant-loop-index
invariant-loop-index l = l.list.items ++ endings_from l.index (drop l.index l.patterns) l.word ≡ endings_from 0 l.patterns l.word
