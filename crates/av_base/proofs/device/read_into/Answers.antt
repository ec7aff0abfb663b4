use Rattle.std.proofs.Common.{◌-◌, drop, length, arith, length-drop, length-take-le}
use borrow.Rule.Slice.PartMut.{same_len_mid}
use Rattle.av_base.proofs.DeviceLemmas.{Consumes-into}
use Rattle.av_base.proofs.device.read_into.Goals as goal

pub reads-preserved : goal.reads-preserved
reads-preserved g c =
    let rest = length c.reads.buffer - c.reads.count in
    let same = same_len_mid c.reads.count rest c.reads.buffer c.read.new.buf c.read.auto.buf in
    let got = length-take-le rest (drop c.reads.count c.reads.buffer) (omega (arith, length-drop c.reads.count c.reads.buffer)) in
    let read = c.in-Ok.ensures.bound in
    let front = c.reads.invariant in (
      Consumes-into _ _ _ c.reads.count c.in-Ok.more rest c.reads.buffer c.read.new.buf front.1 (omega (arith, read)) front.0 c.in-Ok.ensures.bytes.0,
      omega (arith, read, same, got, c.read.auto.buf, front),
      omega (arith, same, front),
    )
