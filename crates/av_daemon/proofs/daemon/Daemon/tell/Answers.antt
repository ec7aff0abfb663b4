use Rattle.std.proofs.Common.{ℕ, ◌≡◌, ◌∙◌, ap, rules, sym, subst}
use Rattle.av_peers.specs.Clients.{IsTold}
use Rattle.av_peers.proofs.ClientsLemmas.{told_on, told_then_silent}
use Rattle.av_daemon.specs.Telling.{connection_for}
use Rattle.av_daemon.proofs.TellingLemmas.{told_well}
use Rattle.av_daemon.proofs.daemon.Daemon.tell.Goals as goal

pub returns-clause-told : goal.returns-clause-told
returns-clause-told g c =
    let Told = λ (n : ℕ). IsTold n c.args.reply.tag c.args.reply.told c.args.self.now.clients.entries in
    let Tells = Told (connection_for c.args.reply.client) in
    let connection : c.saturating_add-connection.result ≡ connection_for c.args.reply.client = search rules in
    let well = sym c.is_err.ensures.value ∙ c.if-is_err.false in
    let told : Tells c.put_told.new.self.clients.entries =
    subst (λ n. Told n c.put_told.new.self.clients.entries) connection
    (told_well {P = Told c.saturating_add-connection.result c.put_told.new.self.clients.entries} c.in-Some.done well c.in-Some.ensures.told)
    in
    let noted : Tells c.take_note-note.new.self.clients.entries = told_then_silent _ _ _ _ _ _ told c.take_note-note.ensures in
    let recorded : Tells c.record_told.new.self.clients.entries = subst Tells (ap (λ clients. clients.entries) (sym c.record_told.ensures)) noted in
    told_on c.wants_to_send.result _ _ _ _ _ _ recorded c.wants_to_send.ensures.silent
