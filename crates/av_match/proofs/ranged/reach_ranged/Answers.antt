use Rattle.std.proofs.Common.{◌≡◌, ◌≤◌, ◌+◌, ◌-◌, length, take, drop, arith, sym, ap, ◌∙◌}
use Rattle.av_match.specs.Ranged.{reach_find}
use Rattle.av_match.proofs.FindLemmas.{ranged_hit, ranged_on}
use Rattle.av_match.proofs.ranged.reach_ranged.Goals as goal

pub returns-in-Hit-clause-reach : goal.returns-in-Hit-clause-reach
returns-in-Hit-clause-reach c =
    let ps = c.args.walk.now.patterns.now in
    let count : c.pieces.start + c.min.result - c.pieces.start ≡ c.min.result = omega arith in
    sym (ranged_hit ps c.args.walk.now.cells.now c.args.fed c.args.chunk.now (reach_find ps c.args.walk.now.cells.now c.args.fed c.args.from 0 c.args.chunk.now) c.pieces.state c.pieces.start c.min.result c.in-Hit.place c.in-Hit.index c.pieces.invariant.whole (ap (λ n. reach_find ps c.args.walk.now.cells.now c.args.fed c.pieces.state c.pieces.start (take n (drop c.pieces.start c.args.chunk.now))) (sym count) ∙ sym c.in-Hit.ensures.reach))

pub pieces-preserved-in-Some : goal.pieces-preserved-in-Some
pieces-preserved-in-Some c =
    let ps = c.args.walk.now.patterns.now in
    let count : c.pieces.start + c.min.result - c.pieces.start ≡ c.min.result = omega arith in
    let room : c.pieces.start + c.min.result ≤ length c.args.chunk.now = omega (arith, c.min.ensures, c.pieces.invariant.within) in
    record {
      within = room;
      inside = c.in-Some.ensures.inside;
      whole = ranged_on ps c.args.walk.now.cells.now c.args.fed c.args.chunk.now (reach_find ps c.args.walk.now.cells.now c.args.fed c.args.from 0 c.args.chunk.now) c.pieces.state c.pieces.start c.min.result c.in-Some.next room c.pieces.invariant.whole (ap (λ n. reach_find ps c.args.walk.now.cells.now c.args.fed c.pieces.state c.pieces.start (take n (drop c.pieces.start c.args.chunk.now))) (sym count) ∙ c.in-Some.ensures.passed);
    }

pub pieces-preserved : goal.pieces-preserved
pieces-preserved c =
    let ps = c.args.walk.now.patterns.now in
    let count : c.pieces.start + c.min.result - c.pieces.start ≡ c.min.result = omega arith in
    let room : c.pieces.start + c.min.result ≤ length c.args.chunk.now = omega (arith, c.min.ensures, c.pieces.invariant.within) in
    record {
      within = room;
      inside = c.walk_on.ensures.inside c.in-Through.next c.in-Through.is;
      whole = ranged_on ps c.args.walk.now.cells.now c.args.fed c.args.chunk.now (reach_find ps c.args.walk.now.cells.now c.args.fed c.args.from 0 c.args.chunk.now) c.pieces.state c.pieces.start c.min.result c.in-Through.next room c.pieces.invariant.whole (ap (λ n. reach_find ps c.args.walk.now.cells.now c.args.fed c.pieces.state c.pieces.start (take n (drop c.pieces.start c.args.chunk.now))) (sym count) ∙ sym c.in-Through.ensures.reach);
    }
