-- The filter over a stream of frames at port One, port Two not connected: what it sends and answers as messages come. The opens are
-- submitted right after the first message that leaves it connected; further opens of a stream that goes on also at once.
use Rattle.std.specs.Prelude.{ℕ, ◌&&◌, ◌==◌, Bool, true, false, not, nat_lt, List, [], ◌∷◌, ◌++◌, length, map, if◌then◌else◌}
use Rattle.std.specs.List.{count_by, flat_map}
use Rattle.av_base.specs.Port.{same_port}
use Rattle.av_base.specs.declared.port.Port.TheVariants.{One}
use Rattle.av_filter.specs.Conduct.{FilterEvent, Opens, Receives, filter_step}
use Rattle.av_filter.specs.Reaction.{Reaction}
use Rattle.av_filter_table.specs.Ports.{is_open}
use Rattle.av_filter_table.specs.Table.{Table}
use Rattle.av_frame.specs.Message.{Letter}
use Rattle.av_frame.specs.Spelling.{frame}
use Rattle.av_pend.specs.declared.answer.Answer.{Answer}
use Rattle.av_pend.specs.Pend.{open_of}
use Rattle.av_store.specs.Store.{Store}

-- where events led a filter and its volume, and what it sent and answered meanwhile
pub record Led : Type 0 where
  pub table : Table
  pub volume : Store
  pub sent : List Letter
  pub answers : List Answer

-- the filter after one more event
abbrev pub gone_on : Led → Reaction → Led
gone_on w r = record { table = r.table; volume = r.volume; sent = w.sent ++ r.messages; answers = w.answers ++ r.answers }

-- where an event leads an engine
abbrev pub happened : Led → FilterEvent → Led
happened w e = gone_on w (filter_step w.table w.volume e)

-- events happen in turn
abbrev pub all_happened : Led → List FilterEvent → Led
all_happened w [] = w
all_happened w (e ∷ es) = all_happened (happened w e) es

-- the opens of these streams, which want no version
abbrev pub opens_of : List ℕ → List FilterEvent
opens_of streams = map (λ s. Opens s 0) streams

-- the engine between two messages: where the filter is, and whether the opens were submitted
pub record Standing : Type 0 where
  pub led : Led
  pub submitted : Bool

-- the filter is connected, so that the opens are submitted where they weren't, or it isn't
abbrev pub joined : List ℕ → Bool → Led → Standing
joined opens submitted w =
    if is_open One w.table.connected && not submitted then record { led = all_happened w (opens_of opens); submitted = true }
    else record { led = w; submitted = submitted }

-- the opens that are submitted there
abbrev pub due : List ℕ → Bool → Table → List FilterEvent
due opens submitted t = if is_open One t.connected && not submitted then opens_of opens else []

-- a message comes; one of the other port is passed over
abbrev pub heard : List ℕ → Standing → Letter → Standing
heard opens s m = if same_port m.port One then joined opens s.submitted (happened s.led (Receives m)) else s

-- what a message of this port brings: it comes, and where it is the first that leaves the filter connected the opens are submitted
abbrev pub events_of : List ℕ → Standing → Letter → List FilterEvent
events_of opens s m =
    if same_port m.port One then Receives m ∷ due opens s.submitted (happened s.led (Receives m)).table else []

-- how many answers are to opens of a later number than this one
abbrev pub later : ℕ → List Answer → ℕ
later first answers = count_by (λ a. nat_lt first (open_of a)) answers

-- so many opens behind this number are answered
abbrev pub is_done : ℕ → ℕ → Standing → Bool
is_done first count s = later first s.led.answers == count

-- messages come in turn, as long as opens are left to be answered
abbrev pub heard_all : List ℕ → ℕ → Standing → List Letter → Standing
heard_all opens first s [] = s
heard_all opens first s (m ∷ ms) = if is_done first (length opens) s then s else heard_all opens first (heard opens s m) ms

-- a filter of which nothing was sent or answered yet, and no open is submitted
abbrev pub unled : Table → Store → List Answer → Led
unled t v answers = record { table = t; volume = v; sent = []; answers = answers }

-- an engine with these answers, and whether its opens were submitted
abbrev pub standing : Table → Store → List Answer → Bool → Standing
standing t v answers submitted = record { led = unled t v answers; submitted = submitted }

-- an engine before any message: its opens are submitted where that may be at once and the filter is connected
abbrev pub begun : Bool → List ℕ → Led → Standing
begun at_once opens w = if at_once then joined opens false w else record { led = w; submitted = false }

-- where messages lead it
abbrev pub run_from : Bool → Table → Store → List ℕ → List Letter → Standing
run_from at_once t v opens ms = heard_all opens v.opens (begun at_once opens (unled t v [])) ms

-- what is written meanwhile
abbrev pub text_from : Bool → Table → Store → List ℕ → List Letter → List ℕ
text_from at_once t v opens ms = flat_map frame (run_from at_once t v opens ms).led.sent

-- where messages lead an engine whose opens wait for a message that leaves the filter connected, and what it writes
abbrev pub filter_run : Table → Store → List ℕ → List Letter → Standing
filter_run = run_from false

abbrev pub filter_text : Table → Store → List ℕ → List Letter → List ℕ
filter_text = text_from false

-- the same of further opens, which are submitted at once where the filter is connected
abbrev pub further_run : Table → Store → List ℕ → List Letter → Standing
further_run = run_from true
