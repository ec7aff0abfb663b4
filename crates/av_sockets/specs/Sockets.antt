-- Why two programs do not meet at a socket.
use Rattle.std.specs.Prelude.{◌≡◌, ◌⊎◌}
use Rattle.av_sockets.specs.declared.fault.SocketFault.{SocketFault}
use Rattle.av_sockets.specs.declared.fault.SocketFault.TheVariants.{CannotListen, FilterLost, InUse, Leftover, NoFilter, NoService, NotASocket, NotAllowed}

-- its file can't be made, or put in its place
abbrev pub IsUnmade : SocketFault → Type 0
IsUnmade fault =
    (fault ≡ CannotListen) ⊎ ((fault ≡ InUse) ⊎ ((fault ≡ NotASocket) ⊎ ((fault ≡ NotAllowed) ⊎ (fault ≡ Leftover))))

-- the same, or nobody came in time
abbrev pub IsUnmet : SocketFault → Type 0
IsUnmet fault = IsUnmade fault ⊎ (fault ≡ NoService)

-- nobody listened in time, one may not be reached, or was lost at once
abbrev pub IsUnjoined : SocketFault → Type 0
IsUnjoined fault = (fault ≡ NotAllowed) ⊎ ((fault ≡ NoFilter) ⊎ (fault ≡ FilterLost))
