use Rattle.av_scan.proofs.EndLemmas.{counts_failed, flush_failed}
use Rattle.av_scan.proofs.ending.end_well.Goals as goal

pub returns-in-Err : goal.returns-in-Err
returns-in-Err g c =
    counts_failed c.args.wishes c.args.tally c.args.left_out _ _ c.line_failed.result c.args.tally.worst c.or_graver.result c.in-Err.ensures c.line_failed.ensures c.or_graver.ensures

pub returns-then-is_err : goal.returns-then-is_err
returns-then-is_err g c =
    flush_failed c.args.wishes c.args.tally c.args.left_out _ (g.W.Write.contents c.print_counts.new.out) _ c.device_failed.result c.args.tally.worst c.or_graver-then-is_err.result c.in_default.ensures c.flush.ensures.bytes c.device_failed.ensures c.or_graver-then-is_err.ensures
