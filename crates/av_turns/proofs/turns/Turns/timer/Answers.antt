use Rattle.av_turns.specs.Turns.{All}
use Rattle.av_turns.proofs.TurnsLemmas.{deadline, least, least_asked, never, never_asked}
use Rattle.av_turns.proofs.turns.Turns.timer.Goals as goal

pub returns-clause-deadline : goal.returns-clause-deadline
returns-clause-deadline c =
    let s : All = record { clients = c.self.inside.clients; smalls = c.self.inside.smalls; larges = c.self.inside.larges; passed = c.self.inside.passed; may_jump = c.self.inside.may_jump; most = c.self.inside.most_clients; wait = c.self.inside.wait; places = c.self.inside.places; questions = c.self.inside.questions; budget = c.self.inside.budget } in
    rw (c.earlier-2.ensures, c.earlier.ensures, c.time_of-clients.ensures, c.time_of-questions.ensures, ← c.self.view_is)
    (deadline s c.due.result c.first_due-2.result c.first_due.result c.due.ensures c.first_due-2.ensures.whose c.first_due.ensures.whose)

pub returns-clause-some : goal.returns-clause-some
returns-clause-some c =
    rw (c.earlier-2.ensures, c.earlier.ensures, c.time_of-clients.ensures, ← c.self.view_is)
    (least c.due.result c.time_of-questions.result c.first_due.result c.self.inside.clients c.first_due.ensures.some c.first_due.ensures.none)

pub returns-clause-none : goal.returns-clause-none
returns-clause-none c =
    rw (c.earlier-2.ensures, c.earlier.ensures, c.time_of-clients.ensures, ← c.self.view_is)
    (never c.due.result c.time_of-questions.result c.first_due.result c.self.inside.clients c.first_due.ensures.none)

pub returns-clause-question : goal.returns-clause-question
returns-clause-question c =
    rw (c.earlier-2.ensures, c.earlier.ensures, c.time_of-questions.ensures, ← c.self.view_is)
    (least_asked c.due.result c.time_of-clients.result c.first_due-2.result c.self.inside.questions c.first_due-2.ensures.some c.first_due-2.ensures.none)

pub returns-clause-unasked : goal.returns-clause-unasked
returns-clause-unasked c =
    rw (c.earlier-2.ensures, c.earlier.ensures, c.time_of-questions.ensures, ← c.self.view_is)
    (never_asked c.due.result c.time_of-clients.result c.first_due-2.result c.self.inside.questions c.first_due-2.ensures.none)
