use Rattle.av_frame.proofs.LawLemmas.{spells_one_list, frames_go_on, fault_stays}
use Rattle.av_frame.proofs.laws.bytes_spell_one_list.Goals as goal

pub returns-clause-list : goal.returns-clause-list
returns-clause-list c = spells_one_list

pub returns-clause-go_on : goal.returns-clause-go_on
returns-clause-go_on c = frames_go_on

pub returns-clause-fault : goal.returns-clause-fault
returns-clause-fault c = fault_stays
