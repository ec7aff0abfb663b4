use Rattle.av_promise.proofs.RangeLemmas.{literally}
use Rattle.av_promise.proofs.ranges.ranges_are_literal.Goals as goal

pub returns : goal.returns
returns c = λ ps text all short. literally ps text _ all short (c.verdict_is_least.ensures ps text)
