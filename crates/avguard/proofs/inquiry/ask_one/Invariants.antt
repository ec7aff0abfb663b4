use Rattle.std.proofs.Common.{◌≡◌, ◌+◌, length}
use Rattle.av_client.specs.Asking.{AreAtTheirTags, IsOwedEach}
use Rattle.avguard.proofs.inquiry.ask_one.Given as goal

-- the file has one place, each answer stands at the place of its tag, as before, and each content without an answer is owed one
abbrev pub invariant-tries : goal.invariant-tries
invariant-tries g l =
    (length l.asker.answers.items ≡ length l.fn.asker.answers.items + 1)
    × (AreAtTheirTags l.fn.asker.answers.items → AreAtTheirTags l.asker.answers.items)
    × (IsOwedEach l.fn.asker.owed l.fn.asker.answers.items → IsOwedEach l.asker.owed l.asker.answers.items)
