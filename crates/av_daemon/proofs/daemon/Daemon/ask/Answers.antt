use Rattle.std.proofs.Common.{inl, rules, subst}
use Rattle.av_guard.specs.Asking.{Takes}
use Rattle.av_peers.specs.Clients.{IsSilent}
use Rattle.av_daemon.specs.Telling.{AreTold}
use Rattle.av_daemon.proofs.TellingLemmas.{on_any}
use Rattle.av_daemon.proofs.daemon.Daemon.ask.Goals as goal

pub returns-in_ok-settle-in-Ok : goal.returns-in_ok-settle-in-Ok
returns-in_ok-settle-in-Ok g c =
    let before = c.waits.new.self.clients.entries in
    let takes : Takes c.args.guard.now c.ask.new.self c.in-Ok.given c.args.client c.args.tag c.args.content.items = search rules in
    let silent = subst (λ clients. IsSilent clients.entries before) c.count-goes_on.ensures c.waits.ensures in
    let told : AreTold c.in-Ok.given.told.items before c.settle.new.self.clients.entries = search rules in
    on_any c.count-goes_on.result (inl (record { given = c.in-Ok.given; after = c.ask.new.self; takes = takes; before = before; silent = silent; told = told }))
