use Rattle.std.proofs.Common.{[], arith, length, subst, sym}
use Rattle.av_match.specs.Scanning.{AreSolid, Compiled, IsScan}
use Rattle.av_sigset.specs.Set.{patterns_of}
use Rattle.av_files.proofs.scanner.judge.Goals as goal

pub returns : goal.returns
returns c =
    let bytes = length c.args.content.now in
    let set : Compiled = record { version = c.args.set.now.version; patterns = patterns_of c.args.set.now.signatures } in
    let solid : AreSolid set.patterns = c.version.ensures.set.ranges.lengths in
    let begun : IsScan set bytes [] c.start-scan.result = c.start-scan.ensures.scan set (sym c.version.ensures.version) in
    let fed = c.feed.ensures.scan bytes [] (subst (λ a. IsScan a bytes [] c.start-scan.result) (sym c.requires) begun) (omega arith) in
    c.end.ensures.verdict set bytes c.args.content.now (subst (λ a. IsScan a bytes c.args.content.now c.feed.new.self) c.requires fed) solid
