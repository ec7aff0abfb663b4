use Rattle.av_parts.proofs.ReadLemmas.{keeps_little}
use Rattle.av_parts.proofs.ReadWordLemmas.{keeps_few_words}
use Rattle.av_parts.proofs.laws.little_is_kept.Goals as goal

pub returns-clause-orders : goal.returns-clause-orders
returns-clause-orders c = keeps_little

pub returns-clause-words : goal.returns-clause-words
returns-clause-words c = keeps_few_words
