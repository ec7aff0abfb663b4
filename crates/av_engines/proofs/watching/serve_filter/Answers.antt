use Rattle.av_engines.proofs.WatchingLemmas.{nothing_begun, watches_to}
use Rattle.av_engines.proofs.watching.serve_filter.Goals as goal

pub returns-in-Ok-clause-watches : goal.returns-in-Ok-clause-watches
returns-in-Ok-clause-watches g c = watches_to _ _ _ _ _ _ _ _ _ _ _ _ _ _ _ c.new-tally.ensures.at_once c.in-Ok.ensures.0 c.serve.ensures.watches

pub returns-in-Err-clause-watches : goal.returns-in-Err-clause-watches
returns-in-Err-clause-watches g c = rw (c.of.ensures.end, c.of.ensures.answers) (nothing_begun _ _ _ _ _ _ _ c.new-tally.ensures.answers)
