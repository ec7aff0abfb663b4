use Rattle.std.proofs.Common.{◌≡◌, ◌++◌, ◌∷◌, [], true, false, length, sym, subst, ◌∙◌, ap, arith, cond}
use Rattle.std.proofs.lemmas.List.{append-nil}
use Rattle.av_large.specs.Index.{HasTheirs, is_of, is_one}
use Rattle.av_large.specs.State.{numbers_of, others, theirs}
use Rattle.av_parts.specs.Judge.{at}
use Rattle.av_large.proofs.MapLemmas.{none_left, takes_one}
use Rattle.av_large.proofs.held.take_out.Goals as goal

pub numbers-preserved : goal.numbers-preserved
numbers-preserved c =
    let i = c.numbers.invariant in
    let p = c.in-Some.ensures in
    let client = c.args.client in
    let n = c.in-Some.number in
    let rest = c.pop.new.self in
    let m = c.numbers.contents.entries in
    let contents = c.take_one.ensures.contents in
    let t = takes_one client n rest m c.numbers.dropped.items i.4 (subst (HasTheirs client m) p.0 i.2) (λ k is. p.1 k (subst (λ s. is_one k s ≡ true) (sym p.0) is)) in (
      ap (λ x. x ++ numbers_of (theirs client c.take_one.new.contents.entries)) c.take_one.ensures.dropped ∙ ap (λ x. cond (is_of client (at m n)) (c.numbers.dropped.items ++ n ∷ []) c.numbers.dropped.items ++ numbers_of (theirs client x)) contents ∙ t.0 ∙ i.0,
      ap (others client) contents ∙ t.1 ∙ i.1,
      subst (λ x. HasTheirs client x rest) (sym contents) t.2,
      omega (arith, i.3, c.take_one.ensures.len, c.take_one.ensures.capacity, ap length p.0),
      c.take_one.ensures.ordered,
    )

pub returns-clause-contents : goal.returns-clause-contents
returns-clause-contents c =
    let i = c.numbers.invariant in
    let l = none_left c.args.client c.numbers.contents.entries i.4 (λ k d found its.
    let no : false ≡ true = subst (λ s. is_one k s ≡ true) c.in_default.ensures.0 (i.2 k d found its) in
    let bad : ⊥ = cc in bad) in
    sym l.1 ∙ i.1

pub returns-clause-dropped : goal.returns-clause-dropped
returns-clause-dropped c =
    let i = c.numbers.invariant in
    let l = none_left c.args.client c.numbers.contents.entries i.4 (λ k d found its.
    let no : false ≡ true = subst (λ s. is_one k s ≡ true) c.in_default.ensures.0 (i.2 k d found its) in
    let bad : ⊥ = cc in bad) in
    sym (append-nil c.numbers.dropped.items) ∙ ap (λ t. c.numbers.dropped.items ++ numbers_of t) (sym l.0) ∙ i.0
