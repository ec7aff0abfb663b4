use Rattle.std.proofs.Common.{sym, ◌∙◌}
use Rattle.av_guard.proofs.StateLemmas.{let_go_room}
use Rattle.av_guard.proofs.guard.Guard.make_room.Goals as goal

pub returns-in-Idle : goal.returns-in-Idle
returns-in-Idle c =
    let_go_room c.args.self.now c.next_to_go.new.self c.let_go.new.self c.in-Idle.stream c.next_to_go.ensures.same (sym c.is_crowded.ensures ∙ c.if-not-is_crowded.false) c.in-Idle.ensures.idle c.let_go.result c.let_go.ensures
