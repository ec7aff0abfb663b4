use Rattle.std.proofs.Common.{◌≡◌, ◌≢◌, ◌≤◌, ◌+◌, arith, length, rules}
use Rattle.av_status.specs.declared.status.Status.TheVariants.{Done}
use Rattle.av_host.specs.Groups.{nothing}
use Rattle.av_host.proofs.GroupLemmas.{at_end, at_fault, goes_on}
use Rattle.av_host.proofs.PartLemmas.{none_more, on_err, part_of_rest}
use Rattle.av_host.proofs.groups.open_groups.Goals as goal

pub groups-init : goal.groups-init
groups-init g c = record { within = omega arith; told = nothing }

pub groups-preserved : goal.groups-preserved
groups-preserved g c =
    let well : c.in_ok-ended.ended ≡ Done = search rules in
    let within : c.groups.done + c.in_ok-volume.count ≤ length c.args.names.now = search rules in
    record { within = within; told = goes_on _ _ _ _ _ _ _ _ _ _ _ _ _ _ _ well c.groups.invariant.told c.in_ok-volume.ensures.files c.in_ok-ended.ensures.told }

pub returns-then-ne-clause-told : goal.returns-then-ne-clause-told
returns-then-ne-clause-told g c =
    let failed : c.in_ok-ended.ended ≢ Done = search rules in
    at_fault _ _ _ _ _ _ _ _ _ _ _ _ _ _ _ failed c.groups.invariant.told c.in_ok-volume.ensures.files c.in_ok-ended.ensures.told

pub returns-clause-told : goal.returns-clause-told
returns-clause-told g c = at_end _ _ _ _ _ _ _ _ _ _ (omega (arith, c.groups-test.false)) c.groups.invariant.told

pub returns-in_default-clause-so_far : goal.returns-in_default-clause-so_far
returns-in_default-clause-so_far g c =
    none_more (g.F.Contents.has_content c.args.files.now) c.args.host.now.signatures.now c.args.host.now.crew.openers c.args.names.now c.args.host.now.wishes c.args.tally.now (g.W.Write.contents c.args.out.now) 0 c.args.tally.now (g.W.Write.contents c.args.out.now) nothing

pub returns-in_err-volume-clause-so_far : goal.returns-in_err-volume-clause-so_far
returns-in_err-volume-clause-so_far g c = on_err c.from_residual.result
    (none_more (g.F.Contents.has_content c.args.files.now) c.args.host.now.signatures.now c.args.host.now.crew.openers c.args.names.now c.args.host.now.wishes c.args.tally.now (g.W.Write.contents c.args.out.now) c.groups.done c.groups.tally (g.W.Write.contents c.groups.out) c.groups.invariant.told)

pub returns-in_err-ended-clause-so_far : goal.returns-in_err-ended-clause-so_far
returns-in_err-ended-clause-so_far g c = on_err c.from_residual-in_err-ended.result
    (part_of_rest (g.F.Contents.has_content c.args.files.now) c.args.host.now.signatures.now c.args.host.now.crew.openers c.args.names.now c.args.host.now.wishes c.args.tally.now (g.W.Write.contents c.args.out.now) c.groups.done c.in_ok-volume.count c.groups.tally (g.W.Write.contents c.groups.out) (g.W.Write.contents c.host_group.new.out) c.in_ok-volume.volume
    c.groups.invariant.told c.in_ok-volume.ensures.files c.in_err-ended.ensures.part)
