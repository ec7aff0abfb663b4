use Rattle.std.proofs.Common.{ap, drop, sym, ◌∙◌, ◌≡◌, Some, None}
use Rattle.std.proofs.lemmas.List.{take_rest}
use Rattle.av_json.proofs.ShownLemmas.{shown_end, shown_found, shown_next}
use Rattle.av_json.specs.Shown.{hidden_front}
use Rattle.av_json.proofs.shown.first_hidden.Goals as goal

pub returns-in-Some-clause-within : goal.returns-in-Some-clause-within
returns-in-Some-clause-within c =
    let text = c.args.text.now in
    let at = c.loop-at.at in
    let some : hidden_front (drop at text) ≡ Some c.in-Some.code = ap hidden_front (sym (take_rest text at)) ∙ sym c.hidden_front.ensures.value ∙ c.in-Some.is in
    (shown_found text at c.in-Some.code c.loop-at-test.true some c.loop-at.invariant).0

pub returns-in-Some-clause-found : goal.returns-in-Some-clause-found
returns-in-Some-clause-found c =
    let text = c.args.text.now in
    let at = c.loop-at.at in
    let some : hidden_front (drop at text) ≡ Some c.in-Some.code = ap hidden_front (sym (take_rest text at)) ∙ sym c.hidden_front.ensures.value ∙ c.in-Some.is in
    (shown_found text at c.in-Some.code c.loop-at-test.true some c.loop-at.invariant).1

pub loop-at-preserved : goal.loop-at-preserved
loop-at-preserved c =
    let text = c.args.text.now in
    let at = c.loop-at.at in
    let none : hidden_front (drop at text) ≡ None = ap hidden_front (sym (take_rest text at)) ∙ sym c.hidden_front.ensures.value ∙ c.in_default.is in
    shown_next text at c.loop-at-test.true none c.loop-at.invariant

pub returns-clause-nothing : goal.returns-clause-nothing
returns-clause-nothing c _ = shown_end c.args.text.now c.loop-at.at c.loop-at-test.false c.loop-at.invariant
