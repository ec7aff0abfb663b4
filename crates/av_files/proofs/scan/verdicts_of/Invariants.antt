use Rattle.std.proofs.Common.{◌≡◌, map, take, Some}
use Rattle.av_files.specs.Scan.{scanned_of}
use Rattle.av_files.proofs.scan.verdicts_of.Given as goal

-- each file so far was scanned
abbrev pub invariant-loop-file : goal.invariant-loop-file
invariant-loop-file g l = map (λ s. Some s) l.scanned.items ≡ map (scanned_of l.scanner) (take l.file-index l.files)
