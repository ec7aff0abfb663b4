use Rattle.av_client.specs.Asking.{AreAtTheirTags}
use Rattle.av_paths.proofs.judging.ask_file.Given as goal

-- each answer stands at the place of its tag, as before
abbrev pub invariant-tries : goal.invariant-tries
invariant-tries g l = AreAtTheirTags l.fn.asker.answers.items → AreAtTheirTags l.asker.answers.items
