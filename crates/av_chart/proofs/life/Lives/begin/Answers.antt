use Rattle.std.proofs.Common.{rules, ◌≡◌, ◌∙◌, ◌++◌, ◌∷◌, [], false, length, Some, sym, ap, subst}
use Rattle.std.proofs.lemmas.List.{length-map, map-append}
use Rattle.std.specs.List.{list_any}
use Rattle.av_chart.proofs.LifeLemmas.{begun_indexed}
use Rattle.av_chart.specs.Life.{life_of, lives_of, lives_as}
use Rattle.av_chart.specs.Living.{Writes, place_at}
use Rattle.av_chart.proofs.life.Lives.begin.Goals as goal

pub invariant_of-self-2 : goal.invariant_of-self-2
invariant_of-self-2 c =
    let bars = lives_of c.self.inside.bars.items in
    let apart : list_any (lives_as c.args.bar.port c.args.bar.id) bars ≡ false = rw c.self.view_is (sym c.lives.ensures ∙ c.if-lives.false) in
    let same : c.len.result ≡ length c.self.inside.bars.items = search rules in
    let count : c.len.result ≡ length bars = same ∙ sym (length-map c.self.inside.bars.items life_of) in
    let so : Writes (place_at c.self.inside.living) (place_at c.put.new.self) c.args.bar.port c.args.bar.id (Some (length bars)) =
    subst (λ n. Writes (place_at c.self.inside.living) (place_at c.put.new.self) c.args.bar.port c.args.bar.id (Some n)) count c.in_ok-put.ensures.ok
    in
    let items : lives_of c.push_reserved.new.self.items ≡ bars ++ life_of c.args.bar ∷ [] =
    ap lives_of (c.push_reserved.ensures.items ∙ ap (λ xs. xs ++ c.args.bar ∷ []) c.reserve.ensures.items)
    ∙ map-append life_of c.self.inside.bars.items (c.args.bar ∷ [])
    in
    rw items (begun_indexed bars (place_at c.self.inside.living) (place_at c.put.new.self) (life_of c.args.bar) c.self.invariant apart c.requires so)
