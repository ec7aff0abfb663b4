use Rattle.std.proofs.Common.{◌≡◌, drop}
use Rattle.av_files.specs.Scan.{tally_from, tally_of}
use Rattle.av_files.proofs.scan.tally_of.Given as goal

-- the files so far and those that are left are all of them
abbrev pub invariant-loop-file : goal.invariant-loop-file
invariant-loop-file l = tally_from l.tally (drop l.file-index l.scanned) ≡ tally_of l.scanned
