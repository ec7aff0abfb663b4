use Rattle.std.proofs.Common.{◌≡◌, ◌<◌, length, map, slice_index, arith, sym, ap, ap₂, subst, ◌∙◌}
use Rattle.av_sigset.specs.Set.{patterns_of}
use Rattle.av_match.specs.Part.{AllPatterns, ArePatterns, AtMost, HasAll, IsAutomaton, IsPart, IsSettled, output_of}
use Rattle.av_match.specs.Ranged.{IsHorizon, IsRangedOf}
use Rattle.av_match.specs.Scanning.{Compiled}
use Rattle.av_match.specs.Search.{bytes_of}
use Rattle.av_match.specs.Shifts.{IsSkimmer}
use Rattle.av_match.specs.States.{AreLed, AreOwn, lesser}
use Rattle.av_match.specs.Words.{words_of}
use Rattle.av_match.proofs.GrowLemmas.{has_all, upto_few, upto_most}
use Rattle.av_match.proofs.OutputLemmas.{outputs_are}
use Rattle.av_match.proofs.PartLemmas.{fails_earlier, root_word}
use Rattle.av_match.proofs.TableLemmas.{set_patterns, build_is, solid_patterns}
use Rattle.av_match.proofs.automaton.Automaton.build.Goals as goal

pub trie_of-requires : goal.trie_of-requires
trie_of-requires c =
    let same : c.as_slice.result.now ≡ bytes_of (patterns_of c.args.set.now.signatures) =
    c.as_slice.ensures.value ∙ c.in_ok-bytes.ensures ∙ ap (λ ss. bytes_of (patterns_of ss)) c.signatures-2.ensures.signatures in
    subst ArePatterns (sym same) (set_patterns c.args.set.now c.signatures-2.ensures.set)

pub own_outputs-requires-clause-patterns : goal.own_outputs-requires-clause-patterns
own_outputs-requires-clause-patterns c =
    let same : c.as_slice-4.result.now ≡ bytes_of (patterns_of c.args.set.now.signatures) =
    c.as_slice-4.ensures.value ∙ c.in_ok-bytes.ensures ∙ ap (λ ss. bytes_of (patterns_of ss)) c.signatures-2.ensures.signatures in
    subst ArePatterns (sym same) (set_patterns c.args.set.now c.signatures-2.ensures.set)

pub ranged_of-requires-clause-patterns : goal.ranged_of-requires-clause-patterns
ranged_of-requires-clause-patterns c =
    let found : c.as_slice-7.result.now ≡ patterns_of c.args.set.now.signatures = c.as_slice-7.ensures.value ∙ c.in_ok-patterns.ensures ∙ ap patterns_of c.signatures.ensures.signatures in
    subst (λ qs. ArePatterns (bytes_of qs)) (sym found) (set_patterns c.args.set.now c.signatures.ensures.set)

pub outputs_of-requires-clause-earlier : goal.outputs_of-requires-clause-earlier
outputs_of-requires-clause-earlier c s past l =
    let fails : c.as_slice-12.result.now ≡ c.in_ok-fails.fails.items = c.as_slice-12.ensures.value in
    let size : length c.as_slice-11.result.now ≡ length c.as_slice-2.result.now =
    ap length c.as_slice-11.ensures.value ∙ (c.in_ok-own.ensures.size ∙ ap length (c.as_slice-5.ensures.value ∙ sym c.as_slice-2.ensures.value)) in
    subst (λ fs. slice_index fs s < s) (sym fails) (fails_earlier c.as_slice-2.result.now c.finish.new.next.items c.in_ok-fails.fails.items c.in_ok-fails.ensures.part c.in_ok-fails.ensures.fails s past (omega (arith, size, l)))

pub settle-requires-clause-few : goal.settle-requires-clause-few
settle-requires-clause-few c =
    let ps = bytes_of (patterns_of c.args.set.now.signatures) in
    let same : c.as_slice.result.now ≡ ps = c.as_slice.ensures.value ∙ c.in_ok-bytes.ensures ∙ ap (λ ss. bytes_of (patterns_of ss)) c.signatures-2.ensures.signatures in
    let words : c.as_slice-5.result.now ≡ words_of ps = c.as_slice-5.ensures.value ∙ c.in_ok-trie.ensures.words ∙ ap words_of same in
    let count : length c.as_slice-13.result.now ≡ length c.as_slice-5.result.now =
    ap length c.as_slice-13.ensures.value ∙ (c.in_ok-outputs.ensures.size ∙ (ap length c.as_slice-11.ensures.value ∙ c.in_ok-own.ensures.size)) in
    let few = upto_few 64 ps in
    omega (arith, count, ap length words, few, (set_patterns c.args.set.now c.signatures-2.ensures.set).2)

pub skimmer_of-requires-clause-most : goal.skimmer_of-requires-clause-most
skimmer_of-requires-clause-most c =
    let same : c.as_slice.result.now ≡ bytes_of (patterns_of c.args.set.now.signatures) =
    c.as_slice.ensures.value ∙ c.in_ok-bytes.ensures ∙ ap (λ ss. bytes_of (patterns_of ss)) c.signatures-2.ensures.signatures in
    let words : c.as_slice-15.result.now ≡ words_of (bytes_of (patterns_of c.args.set.now.signatures)) = c.as_slice-15.ensures.value ∙ c.in_ok-trie.ensures.words ∙ ap words_of same in
    subst (λ ws. AtMost ws 64) (sym words) (upto_most 64 (bytes_of (patterns_of c.args.set.now.signatures)))

pub horizon_of-horizon-requires : goal.horizon_of-horizon-requires
horizon_of-horizon-requires c =
    let found : c.as_slice-16.result.now ≡ patterns_of c.args.set.now.signatures = c.as_slice-16.ensures.value ∙ c.in_ok-patterns.ensures ∙ ap patterns_of c.signatures.ensures.signatures in
    subst (λ qs. AllPatterns (bytes_of qs)) (sym found) (set_patterns c.args.set.now c.signatures.ensures.set).1

pub invariant_of-result : goal.invariant_of-result
invariant_of-result c =
    let found : c.in_ok-patterns.patterns.items ≡ patterns_of c.args.set.now.signatures = c.in_ok-patterns.ensures ∙ ap patterns_of c.signatures.ensures.signatures in
    let ps = bytes_of (patterns_of c.args.set.now.signatures) in
    let words = c.as_slice-2.result.now in
    let plain = c.finish.new.next.items in
    let fails = c.in_ok-fails.fails.items in
    let outputs = c.in_ok-outputs.outputs.items in
    let items : c.in_ok-bytes.bytes.items ≡ ps = c.in_ok-bytes.ensures ∙ ap (λ ss. bytes_of (patterns_of ss)) c.signatures-2.ensures.signatures in
    let here : bytes_of c.in_ok-patterns.patterns.items ≡ ps = ap bytes_of found in
    let set : ArePatterns ps = set_patterns c.args.set.now c.signatures.ensures.set in
    let are_words : words ≡ words_of ps = c.as_slice-2.ensures.value ∙ c.in_ok-trie.ensures.words ∙ ap words_of (c.as_slice.ensures.value ∙ items) in
    let part : IsPart words plain (length words) = c.in_ok-fails.ensures.part in
    let own : AreOwn ps words c.in_ok-own.own.items =
    subst (λ ws. AreOwn ps ws c.in_ok-own.own.items) (c.as_slice-5.ensures.value ∙ sym c.as_slice-2.ensures.value) (subst (λ qs. AreOwn qs c.as_slice-5.result.now c.in_ok-own.own.items) (c.as_slice-4.ensures.value ∙ items) c.in_ok-own.ensures) in
    let led : AreLed lesser c.in_ok-own.own.items fails outputs =
    subst (λ os. AreLed lesser os fails outputs) c.as_slice-11.ensures.value (subst (λ fs. AreLed lesser c.as_slice-11.result.now fs outputs) c.as_slice-12.ensures.value c.in_ok-outputs.ensures) in
    let gives : outputs ≡ map (λ w. output_of ps w) words =
    outputs_are ps words c.in_ok-own.own.items fails outputs (subst (HasAll ps) (sym are_words) (has_all ps set.1)) (root_word words plain (length words) part) part.start part.distinct part.some own c.in_ok-fails.ensures.fails
    (fails_earlier words plain fails part c.in_ok-fails.ensures.fails) led in
    let settled : IsSettled plain outputs (length outputs) c.settle.new.next.items = subst (λ o. IsSettled plain o (length o) c.settle.new.next.items) c.as_slice-13.ensures.value c.settle.ensures in (
      subst (λ qs. IsAutomaton qs c.settle.new.next.items outputs) (sym here) (build_is ps words plain c.settle.new.next.items outputs set are_words part gives settled),
      subst (λ qs. IsSkimmer qs c.in_ok-skimmer.skimmer.depths.items c.in_ok-skimmer.skimmer.window c.in_ok-skimmer.skimmer.shifts.items c.in_ok-skimmer.skimmer.shorts.items c.in_ok-skimmer.skimmer.rare) (c.as_slice-14.ensures.value ∙ items ∙ sym here)
          c.in_ok-skimmer.ensures,
      subst (λ qs. IsRangedOf qs c.in_ok-ranged.ranged) c.as_slice-7.ensures.value c.in_ok-ranged.ensures,
      subst (λ qs. IsHorizon qs c.horizon_of-horizon.result) c.as_slice-16.ensures.value c.horizon_of-horizon.ensures,
      solid_patterns c.in_ok-patterns.patterns.items (subst AllPatterns (sym here) set.1),
    )

pub returns : goal.returns
returns c =
    let found : c.in_ok-patterns.patterns.items ≡ patterns_of c.args.set.now.signatures = c.in_ok-patterns.ensures ∙ ap patterns_of c.signatures.ensures.signatures in
    ap₂ {C = Compiled} (λ v ps. record { version = v; patterns = ps }) c.version.ensures.version found
