use Rattle.std.proofs.Common.{rules, arith, ◌≤◌, ◌∙◌, ap, sym, length, take}
use Rattle.std.proofs.lemmas.List.{length-take-le, take_all}
use Rattle.av_client.proofs.sending.label_of.Goals as goal

-- of a long name there are as many bytes as go along
pub slice_bounds-result-end : goal.slice_bounds-result-end
slice_bounds-result-end c =
    let long : 255 ≤ length c.as_bytes-label.result.now = search rules in
    sym (length-take-le 255 _ long)

pub returns-then-label-gt-MOST_LABEL-clause-short :
    goal.returns-then-label-gt-MOST_LABEL-clause-short
returns-then-label-gt-MOST_LABEL-clause-short c =
    let long : 255 ≤ length c.as_bytes-label.result.now = search rules in
    omega (arith, length-take-le 255 c.as_bytes-label.result.now long)

-- a short name goes along whole
pub returns-else-label-gt-MOST_LABEL-clause-label :
    goal.returns-else-label-gt-MOST_LABEL-clause-label
returns-else-label-gt-MOST_LABEL-clause-label c =
    let few : length c.as_bytes-label.result.now ≤ 255 = search rules in
    sym (take_all 255 _ few) ∙ ap (λ l. take 255 l) c.as_bytes-label.ensures.value
