use Rattle.std.proofs.Common.{◌≡◌, ◌<◌, length, slice_index, inl, inr, None, Some, arith, sym, ap, ap₂, subst, false, ◌∙◌}
use Rattle.av_match.specs.Ranged.{IsRangedOf, reach_find}
use Rattle.av_match.specs.Reach.{reach}
use Rattle.av_match.specs.Scanning.{Compiled, are_bound, landed, resting, state_words}
use Rattle.av_match.specs.Search.{bytes_of}
use Rattle.av_match.proofs.FindLemmas.{find_chunk, rests_none}
use Rattle.av_match.proofs.ReachLemmas.{outputs_length}
use Rattle.av_match.proofs.RunLemmas.{rests_bound}
use Rattle.av_match.proofs.TableLemmas.{chunk_run, rest_is, rest_same, searching}
use Rattle.av_match.proofs.automaton.Automaton.reach_open.Goals as goal
use Rattle.av_match.proofs.automaton.Automaton.reach_open.Goals.{then-node-walk, else-node-walk}

pub returns-in-None-clause-reached : goal.returns-in-None-clause-reached
returns-in-None-clause-reached c = λ version total some.
    let ps = c.args.self.now.patterns in
    let next = c.tables-tables.result.cells.now in
    let outputs = c.tables-tables.result.outputs.now in
    let auto = c.tables-tables.ensures.of.automaton in
    let node = c.args.node in
    let from = c.rest_of-from.result in
    let free : are_bound ps ≡ false = subst (λ (v : Compiled). IsRangedOf v.patterns None) c.self.view_is (subst (IsRangedOf c.self.inside.patterns.items) c.in-None.is c.self.invariant.2) in
    let same : resting ps node ≡ from =
    elim c.rest_of-from.ensures.rests [
      | inl there ↦ rest_same ps next outputs auto node there.1 there.2 ∙ sym there.0
      | inr none ↦ rest_is ps next outputs auto free node none.1 ∙ sym none.0
    ] in
    let inside : resting ps node < length (state_words ps) = omega (arith, same, c.rest_of-from.ensures.inside, outputs_length (bytes_of ps) next outputs auto) in
    chunk_run ps next outputs auto free c.args.chunk.now version total c.args.fed node c.reach_in_pieces.ensures.bytes some inside (ap (slice_index outputs) same ∙ c.rest_of-from.ensures.silent) c.requires.early
    ∙ ap (landed (searching version total c.args.fed node) (length c.args.chunk.now)) (ap (λ n. reach next outputs n 0 c.args.chunk.now) same ∙ sym c.reach_in_pieces.ensures.reach)

pub returns-after-node-walk-clause-reached : goal.returns-after-node-walk-clause-reached
returns-after-node-walk-clause-reached c = λ version total some.
    let ps = c.args.self.now.patterns in
    let node = c.args.node in
    let kept : IsRangedOf ps (Some c.in-Some.ranged) = subst (λ (v : Compiled). IsRangedOf v.patterns (Some c.in-Some.ranged)) c.self.view_is (subst (IsRangedOf c.self.inside.patterns.items) c.in-Some.is c.self.invariant.2) in
    let items : c.as_slice.result.now ≡ ps = c.as_slice.ensures.value ∙ ap (λ (v : Compiled). v.patterns) c.self.view_is in
    let size : length c.as_slice-in-Some-2.result.now ≡ length (state_words ps) = ap length c.as_slice-in-Some-2.ensures.value ∙ kept.1.ends.size in
    let same : resting ps node ≡ c.if-node-walk.from =
    elim c.if-node-walk.branch [
      | then-node-walk w ↦ rests_bound ps node (omega (arith, w.if-node-walk.true, size)) kept.0 ∙ sym w.from-is
      | else-node-walk w ↦ rests_none ps node (omega (arith, w.if-node-walk.false, size)) ∙ sym w.from-is
    ] in
    let inside : resting ps node < length (state_words ps) =
    elim c.if-node-walk.branch [
      | then-node-walk w ↦ omega (arith, same, w.from-is, w.if-node-walk.true, size)
      | else-node-walk w ↦ omega (arith, same, w.from-is, kept.1.part.some)
    ] in
    find_chunk ps c.in-Some.ranged.cells.items kept.1.part kept.0 c.args.chunk.now version total c.args.fed node c.reach_ranged.ensures.bytes some inside c.requires.early
    ∙ ap (landed (searching version total c.args.fed node) (length c.args.chunk.now))
    (ap₂ (λ n cells. reach_find ps cells c.args.fed n 0 c.args.chunk.now) same (sym c.as_slice-in-Some.ensures.value)
    ∙ ap (λ qs. reach_find qs c.as_slice-in-Some.result.now c.args.fed c.if-node-walk.from 0 c.args.chunk.now) (sym items) ∙ sym c.reach_ranged.ensures.reach)
