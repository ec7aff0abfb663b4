use Rattle.std.proofs.Common.{rules, ◌≡◌, ◌++◌, [], ◌∷◌, subst, sym}
use Rattle.av_program.proofs.SetLemmas.{one_more}
use Rattle.av_program.specs.Sets.{AreOf}
use Rattle.av_program.proofs.scanners.add_one.Goals as goal

pub returns-clause-added : goal.returns-clause-added
returns-clause-added g c = λ before are.
    let all : c.add.new.self ≡ c.args.scanners.now ++ c.in_ok-named.named ∷ [] = search rules in
    subst (AreOf c.args.reading.trust c.args.reading.empty_sets (before ++ c.args.name.now ∷ [])) (sym all)
    (one_more c.args.reading.trust c.args.reading.empty_sets before c.args.scanners.now c.in_ok-named.named c.args.name.now c.in_ok-named.ensures.name c.in_ok-named.ensures.trusted c.in_ok-named.ensures.admitted are)
