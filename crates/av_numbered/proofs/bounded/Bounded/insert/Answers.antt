use Rattle.std.proofs.Common.{◌≡◌, ◌<◌, ◌++◌, ◌∷◌, [], Some, length, sym, ap, subst, ◌∙◌, arith}
use Rattle.std.specs.List.{AllByRecursion}
use Rattle.std.specs.Map.{keys_of}
use Rattle.av_context.specs.Contexts.{PutsAt}
use Rattle.av_numbered.specs.Numbered.{joined, held}
use Rattle.av_numbered.specs.declared.bounded.TheConstants.{MOST_ROWS}
use Rattle.av_numbered.proofs.MapLemmas.{with-end, none-past}
use Rattle.av_numbered.proofs.NumberedLemmas.{keys-view, length-view, inserted-whole, inserted-puts}
use Rattle.av_numbered.proofs.bounded.Bounded.insert.Goals as goal

pub insert_reserved-key-requires : goal.insert_reserved-key-requires
insert_reserved-key-requires g c =
    let few : length c.self.inside.index.items < MOST_ROWS = subst (λ n. n < MOST_ROWS) (ap length (sym c.self.view_is) ∙ length-view c.self.inside.index.items c.self.inside.rows.slots c.self.inside.values.items c.self.invariant.0) c.requires.few in
    let room = c.self.invariant.1 in
    omega arith

pub push_reserved-requires : goal.push_reserved-requires
push_reserved-requires g c =
    let few : length c.self.inside.index.items < MOST_ROWS = subst (λ n. n < MOST_ROWS) (ap length (sym c.self.view_is) ∙ length-view c.self.inside.index.items c.self.inside.rows.slots c.self.inside.values.items c.self.invariant.0) c.requires.few in
    let room = c.self.invariant.1 in
    let count = c.self.inside.index.ok.0 in
    omega arith

pub invariant_of-self : goal.invariant_of-self
invariant_of-self g c =
    let below = subst (AllByRecursion (λ k. k < c.args.number)) (ap keys_of (sym c.self.view_is) ∙ keys-view c.self.inside.index.items c.self.inside.rows.slots c.self.inside.values.items c.self.invariant.0) c.requires.last in
    let few : length c.self.inside.index.items < MOST_ROWS = subst (λ n. n < MOST_ROWS) (ap length (sym c.self.view_is) ∙ length-view c.self.inside.index.items c.self.inside.rows.slots c.self.inside.values.items c.self.invariant.0) c.requires.few in
    let room = c.self.invariant.1 in
    let old = c.self.inside.index.ok.0 in
    let new = c.push_reserved.new.self.ok.0 in
    let longer = c.push_reserved.ensures.len in
    let more = c.insert_reserved-key.ensures.len in (
      inserted-whole c.self.inside.index.items c.self.inside.rows.slots c.self.inside.values.items c.self.invariant.0
          c.push_reserved.new.self.items c.insert_reserved-key.new.self.slots c.put.new.values.items c.args.number c.insert_reserved-key.result c.args.row c.args.value
          (none-past c.self.inside.index.items c.args.number below) c.insert_reserved-key.ensures.was_vacant
          (c.push_reserved.ensures.items ∙ sym (with-end c.self.inside.index.items c.args.number c.insert_reserved-key.result below))
          c.insert_reserved-key.ensures.updates.changed c.put.ensures.here c.insert_reserved-key.ensures.updates.others
          (λ j apart. c.put.ensures.others j apart ∙ c.lengthen.ensures.same j),
      record {
        counted = omega arith;
        few = omega arith;
        numbers = let kept = c.push_reserved.ensures.capacity in omega arith;
        rows = let kept = c.insert_reserved-key.ensures.capacity in omega arith;
        values = let kept = c.insert_reserved-key.ensures.capacity in let put = c.put.ensures.capacity in let long = c.lengthen.ensures.capacity in omega arith;
      },
    )

pub returns-clause-puts : goal.returns-clause-puts
returns-clause-puts g c =
    let below = subst (AllByRecursion (λ k. k < c.args.number)) (ap keys_of (sym c.self.view_is) ∙ keys-view c.self.inside.index.items c.self.inside.rows.slots c.self.inside.values.items c.self.invariant.0) c.requires.last in
    subst (λ m. PutsAt m (joined c.push_reserved.new.self.items (held c.insert_reserved-key.new.self.slots c.put.new.values.items)) c.args.number (Some (c.args.row, c.args.value))) c.self.view_is
    (inserted-puts c.self.inside.index.items c.self.inside.rows.slots c.self.inside.values.items c.self.invariant.0
    c.push_reserved.new.self.items c.insert_reserved-key.new.self.slots c.put.new.values.items c.args.number c.insert_reserved-key.result c.args.row c.args.value
    (none-past c.self.inside.index.items c.args.number below) c.insert_reserved-key.ensures.was_vacant
    (c.push_reserved.ensures.items ∙ sym (with-end c.self.inside.index.items c.args.number c.insert_reserved-key.result below))
    c.insert_reserved-key.ensures.updates.changed c.put.ensures.here c.insert_reserved-key.ensures.updates.others
    (λ j apart. c.put.ensures.others j apart ∙ c.lengthen.ensures.same j))

pub returns-clause-whole : goal.returns-clause-whole
returns-clause-whole g c =
    let below = subst (AllByRecursion (λ k. k < c.args.number)) (ap keys_of (sym c.self.view_is) ∙ keys-view c.self.inside.index.items c.self.inside.rows.slots c.self.inside.values.items c.self.invariant.0) c.requires.last in
    let puts = inserted-puts c.self.inside.index.items c.self.inside.rows.slots c.self.inside.values.items c.self.invariant.0
    c.push_reserved.new.self.items c.insert_reserved-key.new.self.slots c.put.new.values.items c.args.number c.insert_reserved-key.result c.args.row c.args.value
    (none-past c.self.inside.index.items c.args.number below) c.insert_reserved-key.ensures.was_vacant
    (c.push_reserved.ensures.items ∙ sym (with-end c.self.inside.index.items c.args.number c.insert_reserved-key.result below))
    c.insert_reserved-key.ensures.updates.changed c.put.ensures.here c.insert_reserved-key.ensures.updates.others
    (λ j apart. c.put.ensures.others j apart ∙ c.lengthen.ensures.same j) in
    subst (λ m. joined c.push_reserved.new.self.items (held c.insert_reserved-key.new.self.slots c.put.new.values.items) ≡ m ++ (c.args.number, (c.args.row, c.args.value)) ∷ []) c.self.view_is
    (puts.whole ∙ with-end (joined c.self.inside.index.items (held c.self.inside.rows.slots c.self.inside.values.items)) c.args.number (c.args.row, c.args.value) (subst (λ m. AllByRecursion (λ k. k < c.args.number) (keys_of m)) (sym c.self.view_is) c.requires.last))
