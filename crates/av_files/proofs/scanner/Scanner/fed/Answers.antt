use Rattle.std.proofs.Common.{◌≡◌, ◌∙◌, ◌++◌, ap, subst, sym}
use Rattle.av_match.specs.Scanning.{Compiled, IsScan}
use Rattle.av_files.specs.Findings.{compiled_of}
use Rattle.av_files.proofs.scanner.Scanner.fed.Goals as goal

pub returns : goal.returns
returns c = λ bytes content was room.
    let same : c.self.inside.automaton ≡ compiled_of c.args.self.now = c.self.invariant ∙ ap compiled_of c.self.view_is in
    subst (λ a. IsScan a bytes (content ++ c.args.piece.now) c.feed.new.self) same
    (c.feed.ensures.scan bytes content (subst (λ a. IsScan a bytes content c.args.scan) (sym same) was) room)
