use Rattle.std.proofs.Common.{sym, subst}
use Rattle.av_parts.proofs.CourseLemmas.{on_ok}
use Rattle.av_daemon.specs.Hearing.{MoreIsHeard}
use Rattle.av_daemon.proofs.HearingLemmas.{heard_more}
use Rattle.av_daemon.proofs.daemon.Daemon.hear_guest.Goals as goal

pub returns-in-Some : goal.returns-in-Some
returns-in-Some g c =
    on_ok c.hear_greeting.result
    (λ more. subst (λ n. MoreIsHeard n c.args.self.now.services.entries (c.get_mut.follows.lender c.hear_greeting.new.self).entries) c.guest_connection.ensures
    (heard_more c.guest_connection.result _ _ c.in-Some.service.now c.hear_greeting.new.self (sym c.in-Some.ensures.value)
    (c.get_mut.follows.holds c.hear_greeting.new.self).0 more)) c.hear_greeting.ensures.more
