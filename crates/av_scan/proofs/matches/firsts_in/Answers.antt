use Rattle.std.proofs.lemmas.Result.{IfOk-weaker}
use Rattle.av_scan.proofs.MatchLemmas.{of_known}
use Rattle.av_scan.proofs.matches.firsts_in.Goals as goal

pub returns : goal.returns
returns c = IfOk-weaker c.scan_pieces.result _ _ (λ found are. of_known c.args.content.now c.args.scanners.now _ found.items are) c.scan_pieces.ensures.findings
