use Rattle.av_log.proofs.OrderLemmas.{counted, order}
use Rattle.av_log.proofs.laws.lines_keep_their_order.Goals as goal

pub returns-clause-order : goal.returns-clause-order
returns-clause-order c = order

pub returns-clause-counted : goal.returns-clause-counted
returns-clause-counted c = counted
