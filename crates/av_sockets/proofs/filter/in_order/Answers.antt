use Rattle.std.proofs.Common.{rules}
use Rattle.std.proofs.lemmas.List.Sorted.{IsNonDecreasingBy-from_sort_by_key}
use Rattle.av_pend.specs.Pend.{open_of}
use Rattle.av_sockets.proofs.filter.in_order.Goals as goal

pub returns-clause-ascending : goal.returns-clause-ascending
returns-clause-ascending c = IsNonDecreasingBy-from_sort_by_key open_of _ c.sort_unstable_by_key.ensures.sorted (λ a r q k. search rules)
