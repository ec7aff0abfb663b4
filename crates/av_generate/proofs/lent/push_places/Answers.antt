use Rattle.std.proofs.Common.{rules, arith, ◌≡◌, ◌<◌, ◌++◌, ◌-◌, ◌+◌, [], ◌∷◌, ap, ◌∙◌}
use Rattle.av_generate.proofs.DrawLemmas.{place_passed}
use Rattle.av_generate.specs.Lent.{places_behind}
use Rattle.av_generate.proofs.lent.push_places.Goals as goal

pub places-preserved : goal.places-preserved
places-preserved c =
    let pushed : c.push.new.self.items ≡ c.places.places.items ++ (c.places.last + 1) ∷ [] = search rules in
    let less : c.args.to - (c.places.last + 1) ≡ c.args.to - c.places.last - 1 = omega arith in
    let some : 0 < c.args.to - c.places.last = omega (arith, c.places-test.true) in
    ap (λ n. c.push.new.self.items ++ places_behind (c.places.last + 1) n) less
    ∙ ap (λ ks. ks ++ places_behind (c.places.last + 1) (c.args.to - c.places.last - 1)) pushed
    ∙ place_passed c.places.places.items c.places.last (c.args.to - c.places.last) some
    ∙ c.places.invariant
