use Rattle.av_large.proofs.FloorLemmas.{words_grant_at_the_floor}
use Rattle.av_large.proofs.laws.words_grant_at_the_floor.Goals as goal

pub returns : goal.returns
returns c = words_grant_at_the_floor
