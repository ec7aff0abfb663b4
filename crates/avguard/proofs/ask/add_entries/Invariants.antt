use Rattle.av_status.specs.Status.{IsAsGrave}
use Rattle.avguard.proofs.ask.add_entries.Given as goal

-- what went wrong before is not forgotten
abbrev pub invariant-entries : goal.invariant-entries
invariant-entries g l = IsAsGrave l.initial.finds.missed l.finds.missed
