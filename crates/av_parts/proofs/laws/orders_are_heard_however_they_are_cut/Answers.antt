use Rattle.av_parts.specs.Heard
use Rattle.av_parts.proofs.HearLemmas.{cut_anywhere}
use Rattle.av_parts.proofs.JudgeLemmas.{brings_bytewise}
use Rattle.av_parts.proofs.laws.orders_are_heard_however_they_are_cut.Goals as goal

pub returns-clause-cut : goal.returns-clause-cut
returns-clause-cut c = cut_anywhere Heard.step

pub returns-clause-bytes : goal.returns-clause-bytes
returns-clause-bytes c = brings_bytewise
