use Rattle.std.proofs.Common.{inl, refl, rules}
use Rattle.av_guard.specs.Asking.{Takes}
use Rattle.av_parts.proofs.CourseLemmas.{on_ok}
use Rattle.av_daemon.proofs.daemon.Daemon.ask_standing.Goals as goal

pub returns-in-Ok : goal.returns-in-Ok
returns-in-Ok g c =
    let takes : Takes c.args.guard.now c.ask.new.self c.in-Ok.given c.args.standing.client c.args.standing.tag c.args.standing.content.items = search rules in
    on_ok c.settle.result
    (λ told. inl (record { given = c.in-Ok.given; after = c.ask.new.self; takes = takes; before = c.args.self.now.clients.entries; silent = λ n. refl; told = told })) c.settle.ensures.told
