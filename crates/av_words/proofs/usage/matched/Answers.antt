use Rattle.std.proofs.Common.{map, sym, subst, IfOk}
use Rattle.av_words.specs.Words.{AreOfWords}
use Rattle.av_words.proofs.usage.matched.Goals as goal

pub returns : goal.returns
returns g c = subst (λ command. IfOk c.try_get_matches_from.result (AreOfWords command (map g.S.AsStr.text c.args.words.now))) (sym c.in_ok-command.was) c.try_get_matches_from.ensures.matches
