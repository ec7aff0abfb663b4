use Rattle.av_turns.proofs.TimesLemmas.{forgets, same_entry}
use Rattle.av_turns.proofs.times.Times.forget.Goals as goal

pub returns-in-Some : goal.returns-in-Some
returns-in-Some c = λ q time. rw (c.in-Some.is, ← c.self.view_is) (forgets _ _ _ _ (c.remove.ensures.updates.0 (time, q)) (same_entry c.in-Some.time c.args.number time q))
