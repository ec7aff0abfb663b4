use Rattle.std.proofs.Common.{◌≡◌, rules}
use Rattle.av_filter.proofs.FilterLemmas.{mounts}
use Rattle.av_filter_table.specs.Table.{mounted}
use Rattle.av_filter.proofs.filter.Filter.mount.Goals as goal

pub invariant_of-result : goal.invariant_of-result
invariant_of-result c =
    let is : c.in_ok-table.table ≡ mounted c.args.mode c.args.limits c.mount_next.new.volume.boot = search rules in
    (mounts c.in_ok-table.table c.mount_next.new.volume c.args.mode c.args.limits is).kept

pub returns-clause-fits : goal.returns-clause-fits
returns-clause-fits c =
    let is : c.in_ok-table.table ≡ mounted c.args.mode c.args.limits c.mount_next.new.volume.boot = search rules in
    (mounts c.in_ok-table.table c.mount_next.new.volume c.args.mode c.args.limits is).fits
