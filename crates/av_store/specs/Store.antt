use Rattle.std.specs.Prelude.{ℕ, ◌+◌, ◌-◌, ◌^◌, ◌==◌, ◌&&◌, ◌||◌, Bool, not, List, [], ◌∷◌, ◌++◌, length, Option, None, Some, Result, Ok, Err, is_some, nat_le, if◌then◌else◌}
use Rattle.std.specs.List.{list_all}
use Rattle.av_base.specs.declared.limits.LimitValues.{LimitValues}
use Rattle.av_store.specs.declared.stream.Stream.{Stream}
use Rattle.av_store.specs.declared.fault.StoreFault.{StoreFault}
use Rattle.av_store.specs.declared.fault.StoreFault.TheVariants.{BadName, Exists, Full, NoStream}
use Rattle.av_store.specs.declared.fault.BootSpent.{BootSpent}
use Rattle.av_store.specs.declared.fault.OpensSpent.{OpensSpent}
use Rattle.av_store.specs.Content.{new_stream, written, cut_to, bytes_read}
use Rattle.av_store.specs.Rows.{Streams, stream_at, number_named, replaced, without}
use Rattle.av_base.specs.Refused.{map_ok}

-- A volume: its number, the boots and open numbers given, the last stream number given, its limits, and the streams that are
-- there.
pub record Store : Type 0 where
  pub number : ℕ
  pub boot : ℕ
  pub opens : ℕ
  pub last : ℕ
  pub limits : LimitValues
  pub streams : Streams

-- the greatest number of eight bytes
abbrev pub greatest : ℕ
greatest = 2 ^ 64 - 1

-- a volume without streams, before its first boot
abbrev pub empty_store : ℕ → LimitValues → Store
empty_store number limits = record { number = number; boot = 0; opens = 0; last = 0; limits = limits; streams = [] }

-- all bytes are printable and none is a space
abbrev pub is_printable : List ℕ → Bool
is_printable name = list_all (λ b. nat_le 33 b && nat_le b 126) name

-- 1 to 255 bytes, each from 33 to 126
abbrev pub is_name : List ℕ → Bool
is_name name = nat_le 1 (length name) && nat_le (length name) 255 && is_printable name

-- a new stream, by the next number
abbrev pub create_of : Store → List ℕ → Result (ℕ × Store) StoreFault
create_of v name =
    if not (is_name name) then Err BadName else
    (if is_some (number_named name v.streams) then Err Exists else
    (if nat_le v.limits.streams (length v.streams) || nat_le greatest v.last then Err Full else
    Ok (v.last + 1, record v { streams = v.streams ++ (v.last + 1, new_stream name) ∷ []; last = v.last + 1 })))

-- a step on the stream of a number, which there may not be
abbrev pub on_stream : {A : Type 0} → Option Stream → (Stream → Result A StoreFault) → Result A StoreFault
on_stream None step = Err NoStream
on_stream (Some s) step = step s

-- the streams with what a step left at this number
abbrev pub put_stream : Streams → ℕ → Result Stream StoreFault → Result Streams StoreFault
put_stream ss id left = map_ok (λ s. replaced id s ss) left

-- the streams after a step on one of them
abbrev pub stepped : Streams → ℕ → (Stream → Result Stream StoreFault) → Result Streams StoreFault
stepped ss id step = put_stream ss id (on_stream (stream_at id ss) step)

-- the volume with these streams
abbrev pub with_streams : Store → Result Streams StoreFault → Result Store StoreFault
with_streams v streams = map_ok (λ ss. record v { streams = ss }) streams

-- a write to a stream
abbrev pub write_of : Store → ℕ → ℕ → List ℕ → Result Store StoreFault
write_of v id offset bytes = with_streams v (stepped v.streams id (written v.limits offset bytes))

-- a stream cut to a length
abbrev pub cut_of : Store → ℕ → ℕ → Result Store StoreFault
cut_of v id n = with_streams v (stepped v.streams id (cut_to v.limits n))

-- the streams without this one
abbrev pub removed : Streams → ℕ → Result Streams StoreFault
removed ss id = if is_some (stream_at id ss) then Ok (without id ss) else Err NoStream

-- a stream is removed
abbrev pub remove_of : Store → ℕ → Result Store StoreFault
remove_of v id = with_streams v (removed v.streams id)

-- bytes of a stream
abbrev pub read_of : Store → ℕ → ℕ → ℕ → Result (List ℕ) StoreFault
read_of v id offset count = on_stream (stream_at id v.streams) (bytes_read offset count)

-- the next boot of a volume
abbrev pub mount_of : Store → Result (ℕ × Store) BootSpent
mount_of v = if v.boot == greatest then Err (record {}) else Ok (v.boot + 1, record v { boot = v.boot + 1 })

-- the next open number of a volume
abbrev pub open_number_of : Store → Result (ℕ × Store) OpensSpent
open_number_of v = if v.opens == greatest then Err (record {}) else Ok (v.opens + 1, record v { opens = v.opens + 1 })
