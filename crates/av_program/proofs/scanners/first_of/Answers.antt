use Rattle.std.proofs.Common.{[], ◌∷◌, subst, sym}
use Rattle.av_program.proofs.SetLemmas.{one_set}
use Rattle.av_program.specs.Sets.{AreOf}
use Rattle.av_program.proofs.scanners.first_of.Goals as goal

pub returns-in-Ok-clause-first : goal.returns-in-Ok-clause-first
returns-in-Ok-clause-first g c =
    subst (AreOf c.args.reading.trust c.args.reading.empty_sets (c.args.name.now ∷ [])) (sym c.in-Ok.ensures)
    (one_set _ _ c.in_ok-named.named c.args.name.now c.in_ok-named.ensures.name c.in_ok-named.ensures.trusted c.in_ok-named.ensures.admitted)
