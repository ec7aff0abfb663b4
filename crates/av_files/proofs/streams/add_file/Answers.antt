use Rattle.std.proofs.Common.{rules}
use Rattle.std.specs.Option.{option_copied}
use Rattle.av_files.proofs.VolumeLemmas.{adds_file}
use Rattle.av_files.specs.Streams.{HasFile}
use Rattle.av_files.proofs.streams.add_file.Goals as goal

pub returns-in-Ok-clause-added : goal.returns-in-Ok-clause-added
returns-in-Ok-clause-added g c =
    let file : HasFile c.args.volume.now c.add_stream.new.volume c.args.file.name.now (option_copied c.args.file.content) = search rules in
    adds_file _ _ _ (option_copied c.args.file.content) file
