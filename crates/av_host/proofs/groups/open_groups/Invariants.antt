use Rattle.std.proofs.Common.{◌-◌, ◌≤◌, length, take}
use Rattle.av_host.specs.Groups.{AreInGroups}
use Rattle.av_status.specs.declared.status.Status.TheVariants.{Done}
use Rattle.av_host.proofs.groups.open_groups.Given as goal

-- the files so far were opened in groups that ended well
abbrev pub invariant-groups : goal.invariant-groups
invariant-groups g l = record {
  within : l.done ≤ length l.names;
  told : AreInGroups (g.F.Contents.has_content l.files) l.host.signatures.now l.host.crew.openers l.host.wishes l.fn.tally (g.W.Write.contents l.fn.out) (take l.done l.names) l.tally (g.W.Write.contents l.out) Done;
}

abbrev pub decreases-groups : goal.decreases-groups
decreases-groups g l = length l.names - l.done
