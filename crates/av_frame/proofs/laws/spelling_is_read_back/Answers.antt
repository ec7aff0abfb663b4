use Rattle.av_frame.proofs.LawLemmas.{is_read_back, reads_spellings}
use Rattle.av_frame.proofs.laws.spelling_is_read_back.Goals as goal

pub returns-clause-read_back : goal.returns-clause-read_back
returns-clause-read_back c = is_read_back

pub returns-clause-exactly : goal.returns-clause-exactly
returns-clause-exactly c = reads_spellings
