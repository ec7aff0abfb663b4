use Rattle.std.proofs.Common.{◌≡◌, drop}
use Rattle.avguard.specs.Told.{tally_told}
use Rattle.avguard.proofs.told.count_told.Given as goal

-- the files so far and those that are left are all of them
abbrev pub invariant-loop-file : goal.invariant-loop-file
invariant-loop-file l = tally_told l.tally (drop l.file-index l.told) ≡ tally_told l.initial.tally l.told
