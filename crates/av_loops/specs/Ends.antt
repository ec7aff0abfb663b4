-- How the loops round a gate and a desk end.
use Rattle.std.specs.Prelude.{◌≡◌, ◌⊎◌}
use Rattle.av_frame.specs.declared.end.End.{End}
use Rattle.av_frame.specs.declared.end.End.TheVariants.{Done, ReadFault}

-- an end that no reader gives, and not a good one
abbrev pub IsUnread : End → Type 0
IsUnread Done = ⊥
IsUnread ReadFault = ⊥
IsUnread _ = Unit {0}

-- this end, or one that what follows it gives
abbrev pub EndsSo : End → End → Type 0
EndsSo would end = (end ≡ would) ⊎ IsUnread end
