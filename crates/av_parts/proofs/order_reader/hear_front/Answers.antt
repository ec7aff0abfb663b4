use Rattle.av_parts.proofs.HearLemmas.{orders_end}
use Rattle.av_parts.proofs.order_reader.hear_front.Goals as goal

pub returns-in-Err-clause-fault : goal.returns-in-Err-clause-fault
returns-in-Err-clause-fault c =
    orders_end c.args.piece.now c.bytes.taken c.bytes.reader c.args.reader.now c.front_byte.new.self c.in-Err.fault c.bytes-test.true c.bytes.invariant.1 c.in-Err.ensures.fault.0 c.in-Err.ensures.fault.1
