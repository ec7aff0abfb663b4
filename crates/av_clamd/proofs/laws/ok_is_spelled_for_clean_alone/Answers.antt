use Rattle.av_clamd.proofs.ReplyLemmas.{ok_for_clean_alone, path_ok_for_clean_alone}
use Rattle.av_clamd.proofs.laws.ok_is_spelled_for_clean_alone.Goals as goal

pub returns-clause-stream : goal.returns-clause-stream
returns-clause-stream c = ok_for_clean_alone

pub returns-clause-path : goal.returns-clause-path
returns-clause-path c = path_ok_for_clean_alone
