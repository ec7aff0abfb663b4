-- Calls of a gate, as the filter's conduct has them.
use Rattle.std.specs.Prelude.{ℕ, List}
use Rattle.av_filter.specs.Conduct.{FilterEvent, Opens, Changes, CleansUp, Receives, TimesOut, Disconnects}
use Rattle.av_gate.specs.Book.{stream_of}
use Rattle.av_gate.specs.declared.call.Call.{Call}
use Rattle.av_gate.specs.declared.call.Call.TheVariants as call
use Rattle.av_store.specs.Files.{Write}
use Rattle.av_store.specs.Store.{Store}

-- the event of the filter that a call is, with its stream's number
abbrev pub event_at : {S : Type 0} → (S → ℕ) → Call S → FilterEvent
event_at number (call.Open s least) = Opens (number s) least
event_at number (call.Write s offset bytes) = Changes (Write (number s) offset bytes)
event_at number (call.Cleanup s) = CleansUp (number s)
event_at number (call.Receive m) = Receives m
event_at number (call.Timeout seq) = TimesOut seq
event_at number (call.Disconnect port) = Disconnects port

-- of a call that tells the number
abbrev pub event_of : Call ℕ → FilterEvent
event_of c = event_at (λ s. s) c

-- of a call that tells a name, which is read in this volume
abbrev pub event_called : Store → Call (List ℕ) → FilterEvent
event_called v c = event_at (stream_of v) c
