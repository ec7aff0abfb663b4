use Rattle.std.proofs.Common.{rules, ◌≡◌, ◌∙◌, sym, ap, Some, position}
use Rattle.av_merge.proofs.AddLemmas.{clash_here}
use Rattle.av_merge.specs.declared.fault.MergeFault.TheVariants.{Clash}
use Rattle.av_merge.specs.Merge.{clashes}
use Rattle.av_merge.proofs.merger.Merger.clash.Goals as goal

pub returns-in-Some : goal.returns-in-Some
returns-in-Some c =
    let m = c.args.self.now in
    let d = c.index-given-index.result in
    let at : Some c.in-Some.place ≡ position (clashes d) m.signatures = search rules in
    ap (λ n. Some (Clash c.loop-index.index n)) c.origin-earlier.ensures
    ∙ sym (clash_here m c.args.given.now c.loop-index.index c.in-Some.place d c.loop-index-test.true (at ∙ ap (λ s. position (clashes s) m.signatures) c.index-given-index.is))
    ∙ c.loop-index.invariant
