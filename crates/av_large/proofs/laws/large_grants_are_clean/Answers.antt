use Rattle.av_large.proofs.JudgedLemmas.{judged_grants_are_clean}
use Rattle.av_large.proofs.PromiseLemmas.{grants_are_clean, judges_say_right}
use Rattle.av_large.proofs.laws.large_grants_are_clean.Goals as goal

pub returns-clause-grants : goal.returns-clause-grants
returns-clause-grants c = grants_are_clean

pub returns-clause-judges : goal.returns-clause-judges
returns-clause-judges c = judges_say_right

pub returns-clause-together : goal.returns-clause-together
returns-clause-together c = judged_grants_are_clean
