use Rattle.std.proofs.Common.{arith, sym, ◌∙◌}
use Rattle.av_sigset.proofs.JoinLemmas.{joins}
use Rattle.av_sigset.proofs.read.words_behind.Goals as goal

pub returns-clause-words : goal.returns-clause-words
returns-clause-words c =
    joins c.args.signatures.now c.in-Ok.words.name.now c.in-Ok.words.digits.now c.in-Ok.words.span _ c.in-Ok.ensures.words (sym c.stands_in.ensures ∙ c.if-stands_in.false) (omega arith) (omega (arith, c.requires.total))
