-- What is drawn, why no picture was, and the status.
use Rattle.std.specs.Prelude.{ℕ, ◌≡◌, List, Option, IfSome, unwrap_or}
use Rattle.std.specs.Path.{path_file_name}
use Rattle.av_chart.specs.Chart.{IsTrueOf, Leaves}
use Rattle.av_chart.specs.declared.fault.ChartFault.{ChartFault}
use Rattle.av_chart.specs.declared.fault.ChartFault.TheVariants as fault
use Rattle.av_chart.specs.declared.chart.Lines.{Lines}
use Rattle.av_status.specs.declared.status.Status.{Status}
use Rattle.av_status.specs.declared.status.Status.TheVariants.{Refused, Memory, Device}
use Rattle.avtool_words.specs.declared.request.Chart.{Chart}

-- the title of the picture of a script in the file of this path: its last component
abbrev pub title_of : List ℕ → List ℕ
title_of path = unwrap_or (path_file_name path) path

-- the lines that are to be drawn
abbrev pub lines_for : Chart → Lines
lines_for asked = record { from = asked.from; to = asked.to }

-- the status for a script of which no picture was drawn
abbrev pub status_of : ChartFault → Status
status_of fault.Read = Device
status_of fault.Write = Device
status_of fault.TooLong = Refused
status_of (fault.BadScript line) = Refused
status_of fault.NoLines = Refused
status_of fault.NoMemory = Memory

-- a fault of the script that was read, its status, and what it leaves
pub record IsFaultOf (lines : Lines) (title : List ℕ) (script old new : Option (List ℕ)) (status : Status) : Type 0 where
  pub why : ChartFault
  pub told : status ≡ status_of why
  pub true_of : IfSome script (IsTrueOf lines why)
  pub leaves : Leaves script lines title old new why
