use Rattle.std.proofs.Common.{subst}
use Rattle.std.proofs.lemmas.List.{take_all}
use Rattle.av_files.specs.declared.opened.Opened.{Opened}
use Rattle.av_files.proofs.EachLemmas.{each_next}
use Rattle.av_host.specs.Lines.{AreOfTheirFiles, IsOfItsFile}
use Rattle.av_host.proofs.lines.are_of_their_files.Goals as goal

pub files-preserved : goal.files-preserved
files-preserved c =
    each_next (λ (o : Opened). IsOfItsFile c.args.volume.now c.args.other.now o.name.now o.answer) c.args.opened.now c.files.line-index c.line-item.result c.files-test.true c.line-item.is c.files.invariant (c.is_of_its_file.ensures c.if-not-is_of_its_file.false)

pub returns : goal.returns
returns c = λ yes. subst (AreOfTheirFiles c.args.volume.now c.args.other.now) (take_all c.files.line-index c.args.opened.now c.files-test.false) c.files.invariant
