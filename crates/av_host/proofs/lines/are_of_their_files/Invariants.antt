use Rattle.std.proofs.Common.{take}
use Rattle.av_host.specs.Lines.{AreOfTheirFiles}
use Rattle.av_host.proofs.lines.are_of_their_files.Given as goal

abbrev pub invariant-files : goal.invariant-files
invariant-files l = AreOfTheirFiles l.volume l.other (take l.line-index l.opened)
