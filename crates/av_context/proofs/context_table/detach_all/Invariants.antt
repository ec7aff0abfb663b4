use Rattle.std.proofs.Common.{◌≡◌, ℕ}
use Rattle.std.specs.BTreeMap.{btree_map_len}
use Rattle.std.specs.Option.{option_and_then}
use Rattle.av_context.specs.Context.{loosened}
use Rattle.av_context.specs.Contexts.{at, all_detached, AreCounted, attachments_to}
use Rattle.av_context.proofs.context_table.detach_all.Given as goal

-- to end those that are left ends all, and what is left is counted
abbrev pub invariant-attachments : goal.invariant-attachments
invariant-attachments l = record {
  all : all_detached l.attachments.entries l.rows ≡ all_detached l.initial.attachments.entries l.initial.rows;
  counted : AreCounted l.rows (attachments_to l.attachments.entries);
  each : (k : ℕ) → option_and_then loosened (at l.rows k) ≡ option_and_then loosened (at l.initial.rows k);
}

abbrev pub decreases-attachments : goal.decreases-attachments
decreases-attachments l = btree_map_len l.attachments
