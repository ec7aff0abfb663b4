use Rattle.av_paths.proofs.ToldLemmas.{folder_told}
use Rattle.av_paths.proofs.files.answer_folder.Goals as goal

pub returns : goal.returns
returns g c = folder_told c.tell_folder.result c.args.named.number c.args.named.end c.args.named.path.now _ _ c.tell_folder.ensures
