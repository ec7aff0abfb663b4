use Rattle.std.specs.Prelude.{ℕ}
use Rattle.av_sigset.specs.declared.fault.SetFaultKind.{SetFaultKind}
use Rattle.av_sigset.specs.declared.fault.SetFaultKind.TheVariants.{Header, Version, Name, Hex, Length, Duplicate, TooMany, Unended, Range}

-- the number of a kind of fault
abbrev pub number_of : SetFaultKind → ℕ
number_of Header = 1
number_of Version = 2
number_of Name = 3
number_of Hex = 4
number_of Length = 5
number_of Duplicate = 6
number_of TooMany = 7
number_of Unended = 8
number_of Range = 9
