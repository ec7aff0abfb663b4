use Rattle.av_parts.proofs.CourseLemmas.{on_ok}
use Rattle.av_daemon.proofs.PassingLemmas.{message_given}
use Rattle.av_daemon.proofs.daemon.Daemon.take_message.Goals as goal

pub returns-then-not-connected : goal.returns-then-not-connected
returns-then-not-connected g c =
    message_given c.args.guard.now c.message.new.self c.tell_newer.new.guard c.settle.new.guard c.lose_service-then-not-connected.new.guard c.args.message.now
    c.in-Ok.ensures.event.state c.in_ok-tell_newer.ensures.guard c.in_ok-settle.ensures.guard (c.args.port, c.in_ok-lose_service-3.ensures)

pub returns : goal.returns
returns g c =
    on_ok c.end_outdated.result
    (message_given c.args.guard.now c.message.new.self c.tell_newer.new.guard c.settle.new.guard c.end_outdated.new.guard c.args.message.now
    c.in-Ok.ensures.event.state c.in_ok-tell_newer.ensures.guard c.in_ok-settle.ensures.guard) c.end_outdated.ensures
