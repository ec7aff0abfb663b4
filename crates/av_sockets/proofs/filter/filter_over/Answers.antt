use Rattle.std.proofs.Common.{subst}
use Rattle.av_sockets.proofs.GroupLemmas.{groups_told}
use Rattle.av_sockets.specs.Filter.{AreToldSoFar}
use Rattle.av_status.specs.Tally.{no_files}
use Rattle.av_sockets.proofs.filter.filter_over.Goals as goal

pub returns-in-Ok-clause-so_far : goal.returns-in-Ok-clause-so_far
returns-in-Ok-clause-so_far g c =
    let has = g.F.Contents.has_content c.args.named.now.files.now in
    let old = g.W.Write.contents c.args.out.now in
    let new = g.W.Write.contents c.open_all.new.out in
    subst (λ m. AreToldSoFar has c.args.wishes no_files old m c.args.named.now.names.now new) c.requires.first
    (subst (λ t. AreToldSoFar has c.args.wishes t old c.args.opener.now.mount c.args.named.now.names.now new) c.new-tally.ensures
    (groups_told has c.args.wishes c.new-tally.result old c.args.opener.now.mount c.args.named.now.names.now c.open_all.new.tally new c.open_all.new.opener.mount c.in-Ok.ensures.told))
