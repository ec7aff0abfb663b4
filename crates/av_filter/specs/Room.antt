-- How much an event gives out at most.
use Rattle.std.specs.Prelude.{ℕ, length}
use Rattle.av_filter.specs.Conduct.{FilterEvent, Disconnects}
use Rattle.av_filter_table.specs.Table.{Table}

-- messages: where a port is lost one for each question, else two
abbrev pub most_messages : Table → FilterEvent → ℕ
most_messages t (Disconnects port) = length t.questions
most_messages t _ = 2
