use Rattle.av_host.proofs.LineLemmas.{true_lines}
use Rattle.av_host.proofs.host.are_shown.Goals as goal

pub returns : goal.returns
returns g c = λ yes.
    true_lines c.args.closed.now.gate c.args.signatures.now c.args.volume.now c.args.opened.now (c.in_ok-is_shown.ensures c.if-not-branch.false) c.requires.given (c.are_of_their_files.ensures yes) (c.are_denied_right.ensures c.if-not-are_denied_right.false)
