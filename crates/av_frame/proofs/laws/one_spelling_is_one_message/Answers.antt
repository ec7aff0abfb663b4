use Rattle.av_frame.proofs.LawLemmas.{has_one_spelling, spells_one_message}
use Rattle.av_frame.proofs.laws.one_spelling_is_one_message.Goals as goal

pub returns-clause-spelling : goal.returns-clause-spelling
returns-clause-spelling c = has_one_spelling

pub returns-clause-message : goal.returns-clause-message
returns-clause-message c = spells_one_message
