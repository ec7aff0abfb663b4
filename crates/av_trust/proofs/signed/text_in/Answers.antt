use Rattle.std.proofs.lemmas.List.{take_rest}
use Rattle.av_trust.proofs.signed.text_in.Goals as goal

pub returns : goal.returns
returns c = take_rest c.args.file.now 76
