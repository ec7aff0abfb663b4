use Rattle.av_sigset.specs.Publication.{publication_of}
use Rattle.av_shared.proofs.StillLemmas.{named_alone}
use Rattle.av_shared.proofs.works.has_own_works.Goals as goal

pub finishes_own-requires-clause-published : goal.finishes_own-requires-clause-published
finishes_own-requires-clause-published g c κs within = named_alone c.args.audit.now c.args.automaton.now (publication_of c.args.set.now) c.requires.built c.requires.opened
