use Rattle.av_asks.proofs.ContentReadLemmas.{asks_read, begins_read, ends_read, parts_read, watches_read}
use Rattle.av_asks.proofs.laws.contents_are_read_back.Goals as goal

pub returns-clause-begins : goal.returns-clause-begins
returns-clause-begins c = begins_read

pub returns-clause-parts : goal.returns-clause-parts
returns-clause-parts c = parts_read

pub returns-clause-ends : goal.returns-clause-ends
returns-clause-ends c = ends_read

pub returns-clause-asks : goal.returns-clause-asks
returns-clause-asks c = asks_read

pub returns-clause-watches : goal.returns-clause-watches
returns-clause-watches c = watches_read
