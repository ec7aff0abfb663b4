use Rattle.std.proofs.Common.{sym, ◌∙◌, ap}
use Rattle.av_parts.proofs.HearLemmas.{words_stopped}
use Rattle.av_parts.proofs.word_reader.WordReader.hear.Goals as goal

pub returns-in-Some-clause-fault : goal.returns-in-Some-clause-fault
returns-in-Some-clause-fault c =
    let is = ap (λ r. r.fault) (sym c.self.view_is) ∙ c.in-Some.is in
    (words_stopped c.args.piece.now c.args.self.now c.in-Some.fault is, is)
