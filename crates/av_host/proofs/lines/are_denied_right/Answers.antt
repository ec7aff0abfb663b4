use Rattle.std.proofs.Common.{subst}
use Rattle.std.proofs.lemmas.List.{take_all}
use Rattle.av_files.specs.declared.opened.Opened.{Opened}
use Rattle.av_files.proofs.EachLemmas.{each_next}
use Rattle.av_host.specs.Lines.{AreDeniedRight, IsDeniedRight}
use Rattle.av_host.proofs.lines.are_denied_right.Goals as goal

pub files-preserved : goal.files-preserved
files-preserved c =
    each_next (λ (o : Opened). IsDeniedRight c.args.volume.now c.args.signatures.now o.name.now o.answer) c.args.opened.now c.files.line-index c.line-item.result c.files-test.true c.line-item.is c.files.invariant (c.is_denied_right.ensures c.if-not-is_denied_right.false)

pub returns : goal.returns
returns c = λ yes. subst (AreDeniedRight c.args.volume.now c.args.signatures.now) (take_all c.files.line-index c.args.opened.now c.files-test.false) c.files.invariant
