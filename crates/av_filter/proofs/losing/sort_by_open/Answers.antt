use Rattle.std.proofs.Common.{rules}
use Rattle.std.proofs.lemmas.List.Sorted.{IsNonDecreasingBy-from_sort_by_key}
use Rattle.av_pend.specs.Pend.{open_of}
use Rattle.av_filter.proofs.losing.sort_by_open.Goals as goal

pub returns-clause-sorted : goal.returns-clause-sorted
returns-clause-sorted c = IsNonDecreasingBy-from_sort_by_key open_of _ c.sort_unstable_by_key.ensures.sorted (λ a r q k. search rules)
