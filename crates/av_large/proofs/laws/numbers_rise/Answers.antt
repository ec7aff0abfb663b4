use Rattle.av_large.proofs.FollowLemmas.{nothing_follows}
use Rattle.av_large.proofs.NumberLemmas.{numbers_rise}
use Rattle.av_large.proofs.laws.numbers_rise.Goals as goal

pub returns-clause-rise : goal.returns-clause-rise
returns-clause-rise c = numbers_rise

pub returns-clause-follow : goal.returns-clause-follow
returns-clause-follow c = nothing_follows
