use Rattle.av_paths.proofs.ToldLemmas.{folder_granted}
use Rattle.av_paths.proofs.VerdictLemmas.{clean_by_grant, stream_clean_by_grant}
use Rattle.av_paths.proofs.verdict.clean_is_granted.Goals as goal

pub returns-clause-path : goal.returns-clause-path
returns-clause-path c = clean_by_grant

pub returns-clause-stream : goal.returns-clause-stream
returns-clause-stream c = stream_clean_by_grant

pub returns-clause-folder : goal.returns-clause-folder
returns-clause-folder c = folder_granted
