use Rattle.av_asks.specs.ContentAnswers.{content_answer_front}
use Rattle.av_asks.proofs.ContentAnswerLemmas.{sized, steady}
use Rattle.av_asks.proofs.StreamLemmas.{fault_stays, gives_one_thing, gives_something, goes_on}
use Rattle.av_asks.proofs.laws.content_answers_come_however_they_are_cut.Goals as goal

pub returns-clause-something : goal.returns-clause-something
returns-clause-something c = gives_something content_answer_front sized

pub returns-clause-one_thing : goal.returns-clause-one_thing
returns-clause-one_thing c = gives_one_thing content_answer_front

pub returns-clause-goes_on : goal.returns-clause-goes_on
returns-clause-goes_on c = goes_on content_answer_front steady sized

pub returns-clause-fault : goal.returns-clause-fault
returns-clause-fault c = fault_stays content_answer_front steady sized
