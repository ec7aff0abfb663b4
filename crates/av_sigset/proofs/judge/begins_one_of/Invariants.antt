use Rattle.std.proofs.Common.{◌≡◌, ◌-◌, take}
use Rattle.std.specs.List.{list_any}
use Rattle.std.specs.Str.{bytes_eq}
use Rattle.av_base.specs.Line.{pieces_of}
use Rattle.av_sigset.specs.Judge.{first_word}
use Rattle.av_sigset.proofs.judge.begins_one_of.Given as goal

-- the lines left decide
abbrev pub invariant-loop-passed : goal.invariant-loop-passed
invariant-loop-passed l =
    list_any (λ line. bytes_eq (first_word line) l.name) (take (l.count - l.passed) (pieces_of 10 l.rest))
    ≡ list_any (λ line. bytes_eq (first_word line) l.name) (take l.count (pieces_of 10 l.lines))
