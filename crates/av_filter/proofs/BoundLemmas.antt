-- Every event leaves the streams of a volume in their ranges.
use Rattle.std.proofs.Common.{◌≡◌, ℕ, [], None, refl, sym, subst}
use Rattle.av_filter.proofs.FitLemmas.{accepted}
use Rattle.av_filter.proofs.RowLemmas.{again_row, again_volume, row_of}
use Rattle.av_filter.specs.Bounds.{KeepsBounds}
use Rattle.av_filter.specs.Changing.{changed_volume}
use Rattle.av_filter.specs.Conduct.{FilterEvent, Opens, Changes, Restarts, booted, filter_refusal, filter_step, loses_all, moves, restarts}
use Rattle.av_filter.specs.Opening.{taken}
use Rattle.av_filter.specs.Reaction.{Reaction}
use Rattle.av_filter.specs.Rows
use Rattle.av_filter.specs.Rows.{OpenRow, Row}
use Rattle.av_filter_table.specs.Table.{Table}
use Rattle.av_store.proofs.BoundLemmas.{change_in}
use Rattle.av_store.specs.Bounds.{AreInBounds}
use Rattle.av_store.specs.Store.{Store}

-- the volume after an event: an open takes a number, a change is made, a restart counts a boot, and nothing else changes it
abbrev pub volume_after : Store → FilterEvent → Store
volume_after v (Opens s least) = taken v
volume_after v (Changes c) = changed_volume v c
volume_after v Restarts = booted v
volume_after v _ = v

-- a row leaves it so
open_stays : {t : Table} {v : Store} {s least : ℕ} {r : Reaction} → OpenRow t v s least r → r.volume ≡ v
open_stays (Rows.no_stream at) = refl
open_stays _ = refl

row_leads : {t : Table} {v : Store} {e : FilterEvent} {r : Reaction} → Row t v e r → r.volume ≡ volume_after v e
unfolding loses_all moves restarts
row_leads (Rows.opens s least r row) = open_stays row
row_leads {t} (Rows.outdated c s q is at) = again_volume (again_row _ t _ q _)
row_leads {t} (Rows.stale port id version r q at old) = again_volume (again_row _ t _ q [])
row_leads _ = refl

pub leads_to : (t : Table) (v : Store) (e : FilterEvent) → (filter_step t v e).volume ≡ volume_after v e
leads_to t v e = row_leads (row_of t v e)

in_after : (t : Table) (v : Store) (e : FilterEvent) → AreInBounds v → filter_refusal t v e ≡ None → AreInBounds (volume_after v e)
unfolding filter_refusal
in_after t v (Opens s least) a ok = record { limits = a.limits; streams = a.streams }
in_after t v (Changes c) a ok = change_in v (changed_volume v c) c a (accepted v c ok)
in_after t v Restarts a ok = record { limits = a.limits; streams = a.streams }
in_after t v _ a ok = a

event_in : (t : Table) (v : Store) (e : FilterEvent) → AreInBounds v → filter_refusal t v e ≡ None → AreInBounds (filter_step t v e).volume
event_in t v e a ok = subst AreInBounds (sym (leads_to t v e)) (in_after t v e a ok)

pub keeps_bounds : KeepsBounds
keeps_bounds = record { starts = λ number limits ok. record { limits = ok; streams = tt }; events = event_in }
