use Rattle.std.proofs.Common.{subst}
use Rattle.av_host.specs.Groups.{AreTrueSoFar}
use Rattle.av_host.proofs.PartLemmas.{groups_told}
use Rattle.av_host.proofs.groups.host_groups.Goals as goal

pub returns-in-Ok-clause-so_far : goal.returns-in-Ok-clause-so_far
returns-in-Ok-clause-so_far g c =
    let has = g.F.Contents.has_content c.args.files.now in
    let set = c.args.host.now.signatures.now in
    let old = g.W.Write.contents c.args.out.now in
    let new = g.W.Write.contents c.open_groups.new.out in
    subst (λ tally. AreTrueSoFar has set c.args.host.now.crew.openers c.args.names.now c.args.host.now.wishes tally old new) c.new-tally.ensures
    (groups_told has set c.args.host.now.crew.openers c.args.names.now c.args.host.now.wishes c.new-tally.result old c.open_groups.new.tally new c.in-Ok.ended c.in-Ok.ensures.told)
