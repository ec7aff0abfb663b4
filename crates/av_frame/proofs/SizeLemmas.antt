-- How many bytes a message's spelling has.
use Rattle.std.proofs.Common.{◌≡◌, length, refl, arith}
use Rattle.av_base.specs.declared.verdict.Verdict.TheVariants.{Clean, Infected}
use Rattle.av_frame.specs.declared.outcome.Outcome.TheVariants.{Judged, Failed}
use Rattle.av_frame.specs.declared.message.Body.{Body}
use Rattle.av_frame.specs.declared.message.Body.TheVariants.{Scan, Chunk, NoChunk, Abort, Hello, Read, Reply, Updated}
use Rattle.av_base.specs.declared.port.Port.{Port}
use Rattle.av_frame.specs.Message.{Letter}
use Rattle.av_frame.specs.Spelling.{spelled_at, spelling, size_of, field8, field4}

length-spelled : (port : Port) (m : Body) → length (spelled_at port m) ≡ size_of m
unfolding field8 field4
length-spelled port (Scan id stream generation size) = refl
length-spelled port (Chunk id offset bytes) = omega arith
length-spelled port (NoChunk id offset cause) = refl
length-spelled port (Abort id) = refl
length-spelled port (Hello volume version) = refl
length-spelled port (Read id offset count) = refl
length-spelled port (Reply id (Judged version Clean)) = refl
length-spelled port (Reply id (Judged version (Infected index end_at))) = refl
length-spelled port (Reply id (Failed cause)) = refl
length-spelled port (Updated version) = refl

pub length-spelling : (m : Letter) → length (spelling m) ≡ size_of m.body
length-spelling m = length-spelled m.port m.body
