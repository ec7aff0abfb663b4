use Rattle.std.proofs.Common.{◌≡◌, ◌++◌, map, take}
use Rattle.av_import.specs.Name.{sign_of}
use Rattle.av_import.proofs.name.push_signs.Given as goal

-- the signs so far were put
abbrev pub invariant-loop-byte : goal.invariant-loop-byte
invariant-loop-byte l = l.name.items ≡ l.initial.name.items ++ map sign_of (take l.byte-index l.raw)
