use Rattle.std.proofs.Common.{◌≡◌, slice_index, sym, ap, ◌∙◌}
use Rattle.av_match.specs.Scanning.{Compiled}
use Rattle.av_match.specs.Search.{bytes_of}
use Rattle.av_match.proofs.ReachLemmas.{root_silent}
use Rattle.av_match.proofs.automaton.Automaton.tables.Goals as goal

pub returns-clause-of : goal.returns-clause-of
returns-clause-of c =
    let same : bytes_of c.args.self.now.patterns ≡ bytes_of c.self.inside.patterns.items = ap (λ (v : Compiled). bytes_of v.patterns) (sym c.self.view_is) in
    record {
      automaton = rw (same, c.as_slice.ensures.value, c.as_slice-2.ensures.value) c.self.invariant.0;
      skimmer = rw (same, c.as_slice-3.ensures.value, c.as_slice-4.ensures.value, c.as_slice-5.ensures.value) c.self.invariant.1;
    }

pub returns-clause-root : goal.returns-clause-root
returns-clause-root c = ap (λ o. slice_index o 0) c.as_slice-2.ensures.value ∙ root_silent (bytes_of c.self.inside.patterns.items) c.self.inside.next.items c.self.inside.outputs.items c.self.invariant.0
