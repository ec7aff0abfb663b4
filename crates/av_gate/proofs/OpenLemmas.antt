-- Each open's note has its number, whatever it is answered.
use Rattle.std.proofs.Common.{◌≡◌, ℕ, ◌+◌, Ok, refl, ap, ◌∙◌}
use Rattle.av_filter.proofs.RowLemmas.{open_row}
use Rattle.av_filter.specs.Conduct.{Opens, filter_step}
use Rattle.av_filter.specs.Opening.{opened, taken}
use Rattle.av_filter.specs.Rows
use Rattle.av_filter.specs.Rows.{OpenRow}
use Rattle.av_filter.specs.Reaction.{Reaction}
use Rattle.av_filter.specs.declared.note.Note.TheVariants.{Submitted}
use Rattle.av_filter_table.specs.Table.{Table, raised}
use Rattle.av_gate.proofs.BookLemmas.{told}
use Rattle.av_gate.specs.Book.{Book, happens, state_of}
use Rattle.av_gate.specs.declared.settled.Settled.{Settled}
use Rattle.av_store.specs.Store.{Store}

abbrev Numbered : ℕ → Reaction → Type 0
Numbered n r = r.note ≡ Submitted n

open_numbered : {t : Table} {v : Store} {s least : ℕ} {r : Reaction} → OpenRow t v s least r → Numbered v.opens r
open_numbered (Rows.no_stream at) = refl
open_numbered _ = refl

pub numbered : (t : Table) (v : Store) (s least : ℕ) → Numbered (v.opens + 1) (filter_step t v (Opens s least))
unfolding filter_step opened
numbered t v s least = open_numbered (open_row (raised least t) (taken v) s least _ refl)

-- so has what the caller is told of it
pub told_number : (b : Book) (s least : ℕ) (r : Settled) (new : Book) → happens b (Opens s least) ≡ Ok (r, new) → r.note ≡ Submitted ((state_of b).volume.opens + 1)
told_number b s least r new is = ap (λ (x : Settled). x.note) (told b (Opens s least) r new is) ∙ numbered (state_of b).table (state_of b).volume s least
