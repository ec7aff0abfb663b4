use Rattle.std.proofs.Common.{◌≡◌, true, subst, sym}
use Rattle.av_turns.specs.Times.{has}
use Rattle.av_turns.proofs.TimesLemmas.{not_later}
use Rattle.av_turns.proofs.times.Times.first.Goals as goal

pub returns-clause-least : goal.returns-clause-least
returns-clause-least c = λ q time here.
    not_later c.in-Some.first.now.0 c.in-Some.first.now.1 time q (c.in-Some.ensures.least (time, q) (subst (λ keys. has time q keys ≡ true) (sym c.self.view_is) here))
