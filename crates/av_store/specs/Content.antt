use Rattle.std.specs.Prelude.{ℕ, ◌+◌, List, [], length, take, drop, Result, Ok, Err, nat_lt, nat_le, if◌then◌else◌}
use Rattle.av_base.specs.declared.limits.LimitValues.{LimitValues}
use Rattle.av_base.specs.Overwrite.{overwritten}
use Rattle.av_store.specs.declared.stream.Stream.{Stream}
use Rattle.av_store.specs.declared.fault.StoreFault.{StoreFault}
use Rattle.av_store.specs.declared.fault.StoreFault.TheVariants.{Hole, TooLarge, GenerationSpent}

-- a stream as it is made
abbrev pub new_stream : List ℕ → Stream
new_stream name = record { name = name; generation = 1; bytes = [] }

-- a stream after a write, or its fault
abbrev pub written : LimitValues → ℕ → List ℕ → Stream → Result Stream StoreFault
written limits offset bytes s =
    if nat_lt (length s.bytes) offset then Err Hole else
    (if nat_lt limits.length (offset + length bytes) then Err TooLarge else
    (if nat_le limits.generation s.generation then Err GenerationSpent else
    Ok (record s { generation = s.generation + 1; bytes = overwritten s.bytes offset bytes })))

-- a stream cut to a length, or its fault
abbrev pub cut_to : LimitValues → ℕ → Stream → Result Stream StoreFault
cut_to limits n s =
    if nat_lt (length s.bytes) n then Err Hole else
    (if nat_le limits.generation s.generation then Err GenerationSpent else
    Ok (record s { generation = s.generation + 1; bytes = take n s.bytes }))

-- the bytes of a stream from offset on, at most count
abbrev pub bytes_read : ℕ → ℕ → Stream → Result (List ℕ) StoreFault
bytes_read offset count s = if nat_lt (length s.bytes) offset then Err Hole else Ok (take count (drop offset s.bytes))
