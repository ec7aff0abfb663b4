use Rattle.std.proofs.Common.{◌≡◌, length, map, take}
use Rattle.av_client.specs.Asking.{AreAtTheirTags, IsOwedEach}
use Rattle.av_status.specs.declared.status.Status.TheVariants.{Done}
use Rattle.avguard.specs.Ask.{names_found}
use Rattle.av_status.specs.Status.{IsAsGrave}
use Rattle.avguard.proofs.ask.ask_each.Given as goal

-- each answer stands at the place of its tag, as before; and if nothing went wrong each file so far was asked about
abbrev pub invariant-files : goal.invariant-files
invariant-files g l =
    (AreAtTheirTags l.initial.asker.answers.items → AreAtTheirTags l.asker.answers.items)
    × (IsOwedEach l.initial.asker.owed l.initial.asker.answers.items → IsOwedEach l.asker.owed l.asker.answers.items)
    × IsAsGrave l.finds.missed l.ended
    × (l.ended ≡ Done → (map (λ n. n.now) l.names.items ≡ names_found (take l.done l.files)) × (length l.asker.answers.items ≡ length l.names.items))
