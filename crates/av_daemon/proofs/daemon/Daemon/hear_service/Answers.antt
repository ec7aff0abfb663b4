use Rattle.std.proofs.Common.{sym, subst}
use Rattle.av_daemon.specs.Hearing.{MoreIsHeard}
use Rattle.av_daemon.proofs.HearingLemmas.{heard_same, heard_set}
use Rattle.av_daemon.proofs.daemon.Daemon.hear_service.Goals as goal

pub returns-then-not-goes_on : goal.returns-then-not-goes_on
returns-then-not-goes_on g c =
    subst (λ n. MoreIsHeard n c.args.self.now.services.entries (c.get_mut.follows.lender c.in-Some.service.now).entries) c.connection_of.ensures.number
    (heard_same c.connection_of.result _ _ c.in-Some.service.now (sym c.in-Some.ensures.value) (c.get_mut.follows.holds c.in-Some.service.now).0)

pub returns : goal.returns
returns g c =
    subst (λ n. MoreIsHeard n c.args.self.now.services.entries (c.get_mut.follows.lender c.hear.new.self).entries) c.connection_of.ensures.number
    (heard_set c.connection_of.result _ _ c.in-Some.service.now c.hear.new.self _ (sym c.in-Some.ensures.value) (c.get_mut.follows.holds c.hear.new.self).0
    c.hear.ensures.greeting c.hear.ensures.rest.2)
