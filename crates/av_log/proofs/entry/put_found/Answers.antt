use Rattle.std.proofs.Common.{◌∷◌, [], codes}
use Rattle.av_log.specs.Entry.{name_items}
use Rattle.av_log.specs.Words.{Number}
use Rattle.av_log.proofs.WordsLemmas.{put_then}
use Rattle.av_log.proofs.entry.put_found.Goals as goal

pub returns : goal.returns
returns c =
    put_then c.put_name.result _ _ _ (Number (codes "signature") c.args.signature ∷ []) (name_items c.args.name) c.in_ok-put_number.ensures c.put_name.ensures
