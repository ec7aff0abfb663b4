-- What a filter is asked, and what becomes of it.
use Rattle.std.specs.Prelude.{◌≡◌, Option, None, Some}
use Rattle.av_filter.specs.Call.{Reacts}
use Rattle.av_filter.specs.Conduct.{FilterEvent, Opens, Changes, CleansUp, Receives, TimesOut, Disconnects, Restarts, filter_refusal, filter_step}
use Rattle.av_filter.specs.declared.call.FilterCall.{FilterCall}
use Rattle.av_filter.specs.declared.call.FilterCall.TheVariants as call
use Rattle.av_filter.specs.declared.out.Out.{Out}
use Rattle.av_filter_table.specs.Table.{Table}
use Rattle.av_store.specs.Files as change
use Rattle.av_store.specs.Store.{Store}

-- the event of the filter that a call is
abbrev pub event_called : FilterCall → FilterEvent
event_called (call.Create name) = Changes (change.Create name.now)
event_called (call.Write s offset bytes) = Changes (change.Write s offset bytes.now)
event_called (call.Cut s n) = Changes (change.Cut s n)
event_called (call.Remove s) = Changes (change.Remove s)
event_called (call.Open s least) = Opens s least
event_called (call.Cleanup s) = CleansUp s
event_called (call.Receive m) = Receives m.now
event_called (call.Timeout seq) = TimesOut seq
event_called (call.Disconnect port) = Disconnects port
event_called call.Restart = Restarts

-- the filter reacted as it is to, or nothing has changed
abbrev pub Calls : Table → Store → Table → Store → FilterEvent → Option Out → Type 0
Calls t v t' v' f None = (t' ≡ t) × (v' ≡ v)
Calls t v t' v' f (Some out) = (filter_refusal t v f ≡ None) × Reacts out t' v' (filter_step t v f)
