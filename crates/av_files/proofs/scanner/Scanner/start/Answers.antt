use Rattle.std.proofs.Common.{◌∙◌, ap, subst, sym}
use Rattle.av_match.specs.Scanning.{IsScan}
use Rattle.av_files.specs.Findings.{compiled_of}
use Rattle.av_files.proofs.scanner.Scanner.start.Goals as goal

pub returns : goal.returns
returns c = c.start.ensures.scan (compiled_of c.args.self.now) (sym (c.version.ensures.version ∙ ap (λ set. set.version) c.self.view_is))
