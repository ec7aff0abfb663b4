use Rattle.std.proofs.Common.{ap, subst}
use Rattle.av_match.specs.Scanning.{AreSolid}
use Rattle.av_sigset.specs.Set.{patterns_of}
use Rattle.av_files.specs.Findings.{compiled_of}
use Rattle.av_files.proofs.scanner.Scanner.end.Goals as goal

pub returns : goal.returns
returns c = λ bytes content was.
    let solid = subst (λ set. AreSolid (patterns_of set.signatures)) c.self.view_is c.version-version.ensures.set.ranges.lengths in
    c.end.ensures.verdict (compiled_of c.args.self.now) bytes content was solid
