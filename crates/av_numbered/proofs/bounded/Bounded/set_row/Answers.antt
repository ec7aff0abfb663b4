use Rattle.std.proofs.Common.{◌≡◌, ◌<◌, IsSomeAnd, length, slice_get, sym, subst, ◌∙◌, arith}
use Rattle.std.specs.Option.{option_map}
use Rattle.av_context.specs.Contexts.{at, PutsAt}
use Rattle.av_numbered.specs.Numbered.{held, joined}
use Rattle.av_numbered.proofs.BoundedLemmas.{place-is, place-low}
use Rattle.av_numbered.proofs.NumberedLemmas.{length-view, key-at, row_there, set-whole, set-puts}
use Rattle.av_numbered.proofs.bounded.Bounded.set_row.Goals as goal

pub index-requires : goal.index-requires
index-requires g c =
    let stands = subst (λ m. IsSomeAnd (slice_get m c.in-Some.place) (λ p. p.0 ≡ c.args.number)) (sym c.self.view_is) c.in-Some.ensures.some in
    let low : c.in-Some.place < length c.self.inside.index.items = subst (λ n. c.in-Some.place < n) (length-view c.self.inside.index.items c.self.inside.rows.slots c.self.inside.values.items c.self.invariant.0) (place-low (λ p. p.0 ≡ c.args.number) (joined c.self.inside.index.items (held c.self.inside.rows.slots c.self.inside.values.items)) c.in-Some.place stands) in
    let count = c.self.inside.index.ok.0 in
    omega arith

pub write-requires : goal.write-requires
write-requires g c =
    let stands = subst (λ m. IsSomeAnd (slice_get m c.in-Some.place) (λ p. p.0 ≡ c.args.number)) (sym c.self.view_is) c.in-Some.ensures.some in
    let low : c.in-Some.place < length c.self.inside.index.items = subst (λ n. c.in-Some.place < n) (length-view c.self.inside.index.items c.self.inside.rows.slots c.self.inside.values.items c.self.invariant.0) (place-low (λ p. p.0 ≡ c.args.number) (joined c.self.inside.index.items (held c.self.inside.rows.slots c.self.inside.values.items)) c.in-Some.place stands) in
    let found = key-at c.self.inside.index.items c.self.inside.rows.slots c.self.inside.values.items c.self.invariant.0 c.in-Some.place c.args.number c.index.result.now (place-is c.self.inside.index.items c.in-Some.place c.index.result.now low c.index.ensures) stands in
    row_there c.self.inside.index.items c.self.inside.rows.slots c.self.inside.values.items c.self.invariant.0 c.args.number c.index.result.now.1 found

pub invariant_of-self : goal.invariant_of-self
invariant_of-self g c =
    let stands = subst (λ m. IsSomeAnd (slice_get m c.in-Some.place) (λ p. p.0 ≡ c.args.number)) (sym c.self.view_is) c.in-Some.ensures.some in
    let low : c.in-Some.place < length c.self.inside.index.items = subst (λ n. c.in-Some.place < n) (length-view c.self.inside.index.items c.self.inside.rows.slots c.self.inside.values.items c.self.invariant.0) (place-low (λ p. p.0 ≡ c.args.number) (joined c.self.inside.index.items (held c.self.inside.rows.slots c.self.inside.values.items)) c.in-Some.place stands) in
    let found = key-at c.self.inside.index.items c.self.inside.rows.slots c.self.inside.values.items c.self.invariant.0 c.in-Some.place c.args.number c.index.result.now (place-is c.self.inside.index.items c.in-Some.place c.index.result.now low c.index.ensures) stands in
    let room = c.self.invariant.1 in (
      set-whole c.self.inside.index.items c.self.inside.rows.slots c.self.inside.values.items c.self.invariant.0 c.write.new.rows.slots c.args.number c.index.result.now.1 c.args.row found c.write.ensures.here c.write.ensures.others,
      record {
        counted = c.write.ensures.len ∙ room.counted;
        few = room.few;
        numbers = room.numbers;
        rows = let kept = c.write.ensures.capacity in omega arith;
        values = let kept = c.write.ensures.capacity in omega arith;
      },
    )

pub returns : goal.returns
returns g c =
    let stands = subst (λ m. IsSomeAnd (slice_get m c.in-Some.place) (λ p. p.0 ≡ c.args.number)) (sym c.self.view_is) c.in-Some.ensures.some in
    let low : c.in-Some.place < length c.self.inside.index.items = subst (λ n. c.in-Some.place < n) (length-view c.self.inside.index.items c.self.inside.rows.slots c.self.inside.values.items c.self.invariant.0) (place-low (λ p. p.0 ≡ c.args.number) (joined c.self.inside.index.items (held c.self.inside.rows.slots c.self.inside.values.items)) c.in-Some.place stands) in
    let found = key-at c.self.inside.index.items c.self.inside.rows.slots c.self.inside.values.items c.self.invariant.0 c.in-Some.place c.args.number c.index.result.now (place-is c.self.inside.index.items c.in-Some.place c.index.result.now low c.index.ensures) stands in
    subst (λ m. PutsAt m (joined c.self.inside.index.items (held c.write.new.rows.slots c.self.inside.values.items)) c.args.number (option_map (λ p. (c.args.row, p.1)) (at m c.args.number))) c.self.view_is
    (set-puts c.self.inside.index.items c.self.inside.rows.slots c.self.inside.values.items c.self.invariant.0 c.write.new.rows.slots c.args.number c.index.result.now.1 c.args.row found c.write.ensures.here c.write.ensures.others)
