use Rattle.avguard.proofs.AskLemmas.{none_asked}
use Rattle.avguard.proofs.ask.ask_names.Goals as goal

pub returns-clause-so_far : goal.returns-clause-so_far
returns-clause-so_far g c = none_asked _ _
