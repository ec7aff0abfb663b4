use Rattle.std.proofs.Common.{◌≡◌, take}
use Rattle.avguard.specs.Ask.{answered}
use Rattle.avguard.proofs.ask.told_of.Given as goal

-- the files of the names so far, where they have an answer
abbrev pub invariant-names : goal.invariant-names
invariant-names l = l.told.items ≡ answered (take l.place l.names) l.answers
