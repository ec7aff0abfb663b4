use Rattle.std.proofs.Common.{◌≡◌, ◌≤◌, ◌+◌, length, take, true, None, Some, arith, ap, subst, ◌∙◌, length-take-le}
use Rattle.av_match.specs.Ranged.{IsHorizon}
use Rattle.av_match.specs.Scanning.{Compiled, is_past, landed}
use Rattle.av_match.specs.declared.cells.Reached.TheVariants.{Through}
use Rattle.av_match.proofs.FindLemmas.{horizon_never, horizon_open, horizon_past}
use Rattle.av_match.proofs.TableLemmas.{any_scan, front_chunk, past_chunk, searching}
use Rattle.av_match.proofs.automaton.Automaton.reach.Goals as goal

pub reach_open-requires-clause-early : goal.reach_open-requires-clause-early
reach_open-requires-clause-early c =
    horizon_never c.args.self.now.patterns (c.args.fed + length c.args.chunk.now) (subst (λ (v : Compiled). IsHorizon v.patterns None) c.self.view_is (subst (IsHorizon c.self.inside.patterns.items) c.in_default.is c.self.invariant.3))

pub returns-in_default-clause-reached : goal.returns-in_default-clause-reached
returns-in_default-clause-reached c = λ s none is_node is_fed some.
    any_scan c.args.self.now.patterns c.args.chunk.now s c.args.node c.args.fed c.reach_open.result none is_node is_fed (λ version total. c.reach_open.ensures.reached version total some)

pub returns-then-left-eq0-clause-reached : goal.returns-then-left-eq0-clause-reached
returns-then-left-eq0-clause-reached c = λ s none is_node is_fed some.
    let ps = c.args.self.now.patterns in
    let far : IsHorizon ps (Some c.in-Some.horizon) = subst (λ (v : Compiled). IsHorizon v.patterns (Some c.in-Some.horizon)) c.self.view_is (subst (IsHorizon c.self.inside.patterns.items) c.in-Some.is c.self.invariant.3) in
    let past : is_past ps (c.args.fed + 1) ≡ true = horizon_past ps c.in-Some.horizon (c.args.fed + 1) far (omega (arith, c.saturating_sub-left.ensures, c.if-left-eq0.true)) in
    any_scan ps c.args.chunk.now s c.args.node c.args.fed (Through c.args.node) none is_node is_fed (λ version total. past_chunk ps c.args.chunk.now version total c.args.fed c.args.node past)

pub reach_open-requires-then-chunk-left-clause-early : goal.reach_open-requires-then-chunk-left-clause-early
reach_open-requires-then-chunk-left-clause-early c =
    let ps = c.args.self.now.patterns in
    let far : IsHorizon ps (Some c.in-Some.horizon) = subst (λ (v : Compiled). IsHorizon v.patterns (Some c.in-Some.horizon)) c.self.view_is (subst (IsHorizon c.self.inside.patterns.items) c.in-Some.is c.self.invariant.3) in
    horizon_open ps c.in-Some.horizon (c.args.fed + length c.args.chunk.now) far (omega (arith, c.saturating_sub-left.ensures, c.if-left-eq0.false)) (omega (arith, c.saturating_sub-left.ensures, c.if-left-eq0.false, c.if-chunk-left.true))

pub returns-then-chunk-left-clause-reached : goal.returns-then-chunk-left-clause-reached
returns-then-chunk-left-clause-reached c = λ s none is_node is_fed some.
    any_scan c.args.self.now.patterns c.args.chunk.now s c.args.node c.args.fed c.reach_open-then-chunk-left.result none is_node is_fed (λ version total. c.reach_open-then-chunk-left.ensures.reached version total some)

pub returns-else-chunk-left-clause-reached : goal.returns-else-chunk-left-clause-reached
returns-else-chunk-left-clause-reached c = λ s none is_node is_fed some.
    let ps = c.args.self.now.patterns in
    let far : IsHorizon ps (Some c.in-Some.horizon) = subst (λ (v : Compiled). IsHorizon v.patterns (Some c.in-Some.horizon)) c.self.view_is (subst (IsHorizon c.self.inside.patterns.items) c.in-Some.is c.self.invariant.3) in
    let left = c.saturating_sub-left.result in
    let within : left ≤ length c.args.chunk.now = omega (arith, c.if-chunk-left.false) in
    let size : length (take left c.args.chunk.now) ≡ left = length-take-le left c.args.chunk.now within in
    let past : is_past ps (c.args.fed + left + 1) ≡ true = horizon_past ps c.in-Some.horizon (c.args.fed + left + 1) far (omega (arith, c.saturating_sub-left.ensures, c.if-left-eq0.false)) in
    any_scan ps c.args.chunk.now s c.args.node c.args.fed c.reach_open-else-chunk-left.result none is_node is_fed (λ version total.
    front_chunk ps c.args.chunk.now version total c.args.fed c.args.node left c.reach_open-else-chunk-left.result within past
    (c.reach_open-else-chunk-left.ensures.reached version total (omega (arith, size, c.if-left-eq0.false)) ∙ ap (λ n. landed (searching version total c.args.fed c.args.node) n c.reach_open-else-chunk-left.result) size))
