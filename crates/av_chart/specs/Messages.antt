-- Which messages are drawn, and how.
use Rattle.std.specs.Prelude.{ℕ, ◌+◌, ◌-◌, ◌==◌, ◌&&◌, ◌||◌, Bool, false, not, nat_le, nat_lt, List, [], ◌++◌, Option, None, Some, is_some, slice_get, map, vec_len, if◌then◌else◌}
use Rattle.std.specs.List.{list_any}
use Rattle.av_base.specs.Part.{spelt}
use Rattle.av_frame.specs.Message.{Letter}
use Rattle.av_output.specs.Text.Messages.{placed}
use Rattle.av_history.specs.World.{WorldState}
use Rattle.av_chart.specs.Arrow.{arrival_text, arrival_words, arrives_at, cut_text, leaves_at, leaving_text, lost_text, manner_of, near_text}
use Rattle.av_chart.specs.Number.{capped}
use Rattle.av_chart.specs.Place.{shows}
use Rattle.av_chart.specs.Row.{late_of, spanned}
use Rattle.av_chart.specs.Words.{message_label, message_title}
use Rattle.av_chart.specs.declared.happened.Arrival.{Arrival}
use Rattle.av_chart.specs.declared.happened.Happened.{Happened}
use Rattle.av_chart.specs.declared.happened.Sent.{Sent}
use Rattle.av_chart.specs.declared.happened.Span.{Span}
use Rattle.av_chart.specs.declared.happened.Step.{Step}
use Rattle.av_output.specs.declared.message.Direction.{Direction}
use Rattle.av_output.specs.declared.message.Direction.TheVariants.{Down, Up}
use Rattle.av_chart.specs.declared.picture.Picture.{Picture}
use Rattle.av_chart.specs.declared.picture.messages.Manner.{Manner}
use Rattle.av_chart.specs.declared.spot.Spot.{Spot}

-- the messages of a way, as what happened has them, and as the world does
abbrev pub sent_on : Happened → Direction → List Sent
sent_on h Down = h.down.items
sent_on h Up = h.up.items

abbrev pub bodies_on : WorldState → Direction → List Letter
bodies_on w Down = w.down
bodies_on w Up = w.up

-- whether a step is shown
abbrev pub shown_at : Picture → ℕ → Bool
shown_at p step = shows p.places.now step

-- whether a message is sent or arrives in the picture
abbrev pub is_shown : Picture → Sent → Bool
is_shown p s = shown_at p s.at.step || list_any (shown_at p) s.arrivals.items

-- this arrival, where one arrow shows it: at most 8 steps behind its message, both shown
abbrev pub near_from : Picture → Sent → Option ℕ → Option ℕ
near_from p s None = None
near_from p s (Some first) =
    if shown_at p s.at.step && shown_at p first && nat_le (first - s.at.step) 8 then Some first else None

-- the first arrival of a message, where one arrow shows it
abbrev pub near_arrival : Picture → Sent → Option ℕ
near_arrival p s = near_from p s (slice_get s.arrivals.items 0)

-- whether an arrival brings nothing any more
abbrev pub arrival_spent : Option Arrival → Bool
arrival_spent None = false
arrival_spent (Some a) = a.is_spent

abbrev pub step_spent : Option Step → Bool
step_spent None = false
step_spent (Some s) = arrival_spent s.arrival

-- how the arrival in a step is drawn
abbrev pub manner_at : Picture → ℕ → Bool → Manner
manner_at p at again = manner_of (step_spent (slice_get p.happened.now.steps.items at)) again

-- how much lower than its line a message leaves its lane
abbrev pub step_late : Option Step → ℕ
step_late None = 0
step_late (Some s) = late_of s

-- the spot at which a message leaves
abbrev pub left_at : Picture → Direction → Sent → Spot
left_at p way s = leaves_at p.places.now way s.at (step_late (slice_get p.happened.now.steps.items s.at.step))

-- the line of a message that leaves, by the arrival that one arrow shows, and how often it arrives
abbrev pub leaving_line : Picture → Direction → List ℕ → Spot → Option ℕ → ℕ → List ℕ
leaving_line p way words from (Some at) arrivals = near_text way (manner_at p at false) from (arrives_at p.places.now way at)
leaving_line p way words from None arrivals = if arrivals == 0 then lost_text way words from else cut_text way from

-- a message that leaves, with its words and its title
unfoldable pub departure_text : Picture → Direction → Sent → List ℕ → List ℕ → List ℕ
departure_text p way s words title =
    leaving_line p way words (left_at p way s) (near_arrival p s) (vec_len s.arrivals)
    ++ leaving_text way (left_at p way s) title words

-- an arrival of its own
unfoldable pub arrival_at : Picture → Direction → List ℕ → ℕ → Bool → List ℕ
arrival_at p way words at again =
    arrival_text way (manner_at p at again) (arrives_at p.places.now way at) (arrival_words again words)

-- the arrival at k of a message, unless it is not shown, or its arrow stands already
abbrev pub arrival_shown : Picture → Direction → Sent → List ℕ → ℕ → ℕ → List ℕ
arrival_shown p way s words k at =
    if shown_at p at && (nat_lt 0 k || not (is_some (near_arrival p s))) then arrival_at p way words at (nat_lt 0 k) else []

abbrev pub arrivals_text : Picture → Direction → Sent → List ℕ → List ℕ
arrivals_text p way s words = placed (arrival_shown p way s words) 0 s.arrivals.items

-- where a message leaves, if that is shown
abbrev pub departure_shown : Picture → Direction → Sent → List ℕ → List ℕ → List ℕ
departure_shown p way s words title = if shown_at p s.at.step then departure_text p way s words title else []

-- a message with its words and its title: where it leaves, and its arrivals
unfoldable pub sent_text : Picture → Direction → Sent → List ℕ → List ℕ → List ℕ
sent_text p way s words title = departure_shown p way s words title ++ arrivals_text p way s words

-- the message at a place, where the world has it
abbrev pub message_text : Picture → Direction → Sent → ℕ → Option Letter → List ℕ
message_text p way s k None = []
message_text p way s k (Some m) = sent_text p way s (message_label way (capped (k + 1)) m) (message_title p.world.now way k)

-- the message at a place, where it is shown
abbrev pub message_shown : Picture → Direction → ℕ → Sent → List ℕ
message_shown p way k s = if is_shown p s then message_text p way s k (slice_get (bodies_on p.world.now way) k) else []

-- the messages of one way that a step sent
abbrev pub message_at : Picture → Direction → Span → ℕ → Sent → List ℕ
message_at p way span k s = message_shown p way (capped (span.from + k)) s

unfoldable pub step_messages : Picture → Direction → Span → List ℕ
step_messages p way span = placed (message_at p way span) 0 (spanned span (sent_on p.happened.now way))

-- those of both
unfoldable pub sent_by_step : Picture → Step → List ℕ
sent_by_step p s = step_messages p Down s.down ++ step_messages p Up s.up

-- the messages, as they were sent
unfoldable pub messages_text : Picture → List ℕ
messages_text p = spelt (map (sent_by_step p) p.happened.now.steps.items)
