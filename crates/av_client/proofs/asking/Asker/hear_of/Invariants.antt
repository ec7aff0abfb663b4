use Rattle.av_client.specs.Asking.{Hears, IsOwedEach}
use Rattle.av_client.proofs.asking.Asker.hear_of.Given as goal

-- what is heard adds answers alone, and each content without an answer is owed one
abbrev pub invariant-pieces : goal.invariant-pieces
invariant-pieces g l =
    Hears l.initial.self.answers.items l.self.answers.items
    × (IsOwedEach l.initial.self.owed l.initial.self.answers.items → IsOwedEach l.self.owed l.self.answers.items)
