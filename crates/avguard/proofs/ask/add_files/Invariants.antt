use Rattle.std.proofs.Common.{◌≡◌, ◌++◌, false, map, take}
use Rattle.avguard.specs.Ask.{names_found}
use Rattle.av_status.specs.Status.{IsAsGrave}
use Rattle.avguard.proofs.ask.add_files.Given as goal

-- the files of the names so far were added, where no folder stands for those below it
abbrev pub invariant-names : goal.invariant-names
invariant-names g l =
    IsAsGrave l.initial.finds.missed l.finds.missed
    × (l.asking.asked.now.finding.is_recursive ≡ false
    → (names_found l.finds.files.items ≡ names_found l.initial.finds.files.items ++ map (λ n. n.now) (take l.name-index l.names)) × (l.finds.missed ≡ l.initial.finds.missed))
