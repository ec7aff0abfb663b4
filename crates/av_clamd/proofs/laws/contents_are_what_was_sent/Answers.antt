use Rattle.av_clamd.proofs.WholeLemmas.{asks_about_the_whole, parts_are_the_whole}
use Rattle.av_clamd.proofs.laws.contents_are_what_was_sent.Goals as goal

pub returns-clause-whole : goal.returns-clause-whole
returns-clause-whole c = asks_about_the_whole

pub returns-clause-parts : goal.returns-clause-parts
returns-clause-parts c = parts_are_the_whole
