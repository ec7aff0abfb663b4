use Rattle.av_sockets.proofs.ContentLemmas.{own_stream}
use Rattle.av_sockets.proofs.filter.is_stream_of.Goals as goal

pub returns-then-is_named : goal.returns-then-is_named
returns-then-is_named c = λ yes. own_stream _ _ _ _ c.last_created-of_files.ensures.files (c.is_named.ensures c.if-is_named.true) (c.is_of_generation.ensures yes)
