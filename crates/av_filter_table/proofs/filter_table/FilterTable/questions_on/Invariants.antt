use Rattle.std.proofs.Common.{◌≡◌, take}
use Rattle.av_filter_table.specs.FilterTable.{questions_of}
use Rattle.av_filter_table.specs.Table.{on_port}
use Rattle.av_filter_table.proofs.filter_table.FilterTable.questions_on.Given as goal

-- those of the port are found, as far as the walk came
abbrev pub invariant-questions : goal.invariant-questions
invariant-questions l = l.found.items ≡ on_port l.port (take l.place (questions_of l.self-inside.boot l.self-inside.questions))
