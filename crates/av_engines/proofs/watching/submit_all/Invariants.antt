use Rattle.std.proofs.Common.{◌≡◌, ◌+◌, take}
use Rattle.av_engines.specs.FilterEnd.{Puts}
use Rattle.av_engines.specs.Watching.{all_happened, opens_of, unled}
use Rattle.av_engines.proofs.watching.submit_all.Given as goal

-- the opens so far were submitted
abbrev pub invariant-opens : goal.invariant-opens
invariant-opens l = record {
  puts : Puts (all_happened (unled l.initial.mounted.table l.initial.mounted.volume l.initial.tally.answers.items) (opens_of (take l.stream-index l.opens))) l.mounted.table l.mounted.volume l.tally.answers.items l.initial.outgoing l.outgoing;
  taken : l.mounted.volume.opens ≡ l.initial.mounted.volume.opens + l.stream-index;
  first : l.tally.first ≡ l.initial.tally.first;
  submitted : l.tally.submitted ≡ l.initial.tally.submitted;
}
