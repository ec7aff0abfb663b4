use Rattle.std.proofs.Common.{take}
use Rattle.av_host.specs.Lines.{AreDeniedRight}
use Rattle.av_host.proofs.lines.are_denied_right.Given as goal

abbrev pub invariant-files : goal.invariant-files
invariant-files l = AreDeniedRight l.volume l.signatures (take l.line-index l.opened)
