use Rattle.std.proofs.Common.{◌≡◌, ◌≤◌, take}
use Rattle.av_sigset.specs.Set.{byte_count, patterns_of}
use Rattle.av_import.specs.Import.{AreFit}
use Rattle.av_import.proofs.import.bytes_in.Given as goal

-- those so far fit, and have so many bytes
abbrev pub invariant-loop-signature : goal.invariant-loop-signature
invariant-loop-signature l =
    AreFit (take l.signature-index l.given) × (l.bytes ≡ byte_count (patterns_of (take l.signature-index l.given))) × (l.bytes ≤ 16384)
