-- What is kept once a content is stored.
use Rattle.std.proofs.Common.{◌≡◌, ℕ, ◌+◌, List, length, ap, ◌∙◌}
use Rattle.av_filter.specs.Storing.{IsStored, stream_with}
use Rattle.av_filter_table.specs.Table.{Table}
use Rattle.av_guard.proofs.SumLemmas.{count_more, sum_more}
use Rattle.av_guard.specs.Asking.{bytes_in, bytes_kept}
use Rattle.av_store.specs.Store.{Store}

-- the counts of it
pub more_count : (t t' : Table) (v v' : Store) (name c : List ℕ) → IsStored t v name c t' v' → length v'.streams ≡ length v.streams + 1
more_count t t' v v' name c is = ap length is.streams ∙ count_more v.streams (v.last + 1, stream_with name c)

pub more_bytes : (t t' : Table) (v v' : Store) (name c : List ℕ) → IsStored t v name c t' v' → bytes_kept v' ≡ bytes_kept v + length c
more_bytes t t' v v' name c is = ap bytes_in is.streams ∙ sum_more v.streams (v.last + 1, stream_with name c)
