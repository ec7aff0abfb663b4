use Rattle.std.proofs.Common.{sym, subst}
use Rattle.std.specs.Result.{OnOk}
use Rattle.av_parts.proofs.CourseLemmas.{on_ok}
use Rattle.av_daemon.specs.Telling.{IsTaken}
use Rattle.av_daemon.proofs.TellingLemmas.{silent_before}
use Rattle.av_daemon.proofs.daemon.Daemon.take.Goals as goal

pub returns-in-Asked : goal.returns-in-Asked
returns-in-Asked g c =
    subst (λ thing. OnOk c.ask.result (IsTaken c.args.client thing c.args.guard.now c.ask.new.guard c.args.self.now.clients.entries c.ask.new.self.clients.entries)) (sym c.in-Asked.is)
    (on_ok c.ask.result (silent_before _ _ _ _ _ _ _ _ c.keep_note.ensures) c.ask.ensures)
