use Rattle.std.proofs.Common.{◌≡◌, drop}
use Rattle.av_files.specs.Opened.{tally_from}
use Rattle.av_files.proofs.opened.count_opened.Given as goal

-- the files so far and those that are left are all of them
abbrev pub invariant-loop-file : goal.invariant-loop-file
invariant-loop-file l = tally_from l.tally (drop l.file-index l.opened) ≡ tally_from l.initial.tally l.opened
