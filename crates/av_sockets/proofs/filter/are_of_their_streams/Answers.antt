use Rattle.std.proofs.Common.{subst}
use Rattle.std.proofs.lemmas.List.{take_all}
use Rattle.av_files.proofs.EachLemmas.{each_next}
use Rattle.av_files.specs.declared.opened.Opened.{Opened}
use Rattle.av_sockets.specs.Run.{AreOfTheirStreams, IsContentIn, IsOfItsStream}
use Rattle.av_sockets.proofs.filter.are_of_their_streams.Goals as goal

pub files-preserved : goal.files-preserved
files-preserved c =
    each_next (λ (o : Opened). IsOfItsStream (IsContentIn c.args.volume.now.streams) c.args.volume.now o.name.now o.answer) c.args.opened.now c.files.line-index c.line-item.result c.files-test.true c.line-item.is c.files.invariant (c.is_of_its_stream.ensures c.if-not-is_of_its_stream.false)

pub returns : goal.returns
returns c = λ yes. subst (AreOfTheirStreams (IsContentIn c.args.volume.now.streams) c.args.volume.now) (take_all c.files.line-index c.args.opened.now c.files-test.false) c.files.invariant
