-- An answer as the log has it.
use Rattle.av_guard.specs.declared.answered.Answered.{Answered}
use Rattle.av_guard.specs.declared.answered.Answered.TheVariants.{Granted, Infected, Denied, Unscanned}
use Rattle.av_log.specs.declared.entry.Judged.{Judged}
use Rattle.av_log.specs.declared.entry.Judged.TheVariants as judged
use Rattle.av_peers.specs.declared.told.LargeTold.{LargeTold}
use Rattle.av_peers.specs.declared.told.LargeTold.TheVariants as told

abbrev pub judged_answer : Answered → Judged
judged_answer (Granted generation version) = judged.Granted version
judged_answer (Infected version signature end) = judged.Infected version signature end
judged_answer (Denied c) = judged.Denied c
judged_answer (Unscanned generation c) = judged.Unscanned c

abbrev pub judged_of : LargeTold → Judged
judged_of (told.Answered answer) = judged_answer answer
judged_of (told.Denied c) = judged.LargeDenied c
judged_of (told.Unscanned c) = judged.LargeUnscanned c
