use Rattle.std.proofs.Common.{rules, ◌≡◌, ◌∷◌, false, length}
use Rattle.std.proofs.lemmas.List.{nil_from_length}
use Rattle.av_glob.proofs.RowLemmas.{all_moved, none_moved, one_moved}
use Rattle.av_glob.specs.Glob.{fits, repeats}
use Rattle.av_glob.specs.Row.{moved, last_so}
use Rattle.av_glob.proofs.row.matches.Goals as goal

pub items-init : goal.items-init
items-init c = none_moved c.args.items.now c.in_ok-row.row.items c.args.text.now c.in_ok-row.ensures.row

pub items-preserved : goal.items-preserved
items-preserved c =
    let is_rest : c.items.rest.now ≡ c.in-Some.item.now ∷ c.in-Some.below.now = search rules in
    let is_next : c.swap.new.x.items ≡ moved (repeats c.in-Some.item.now) (fits c.in-Some.item.now) false c.items.row.items c.args.text.now = search rules in
    one_moved c.args.items.now c.items.rest.now c.in-Some.below.now c.in-Some.item.now c.items.row.items c.swap.new.x.items c.args.text.now is_rest c.items.invariant.0 c.items.invariant.1 is_next

pub returns : goal.returns
returns c =
    let none : length c.items.rest.now ≡ 0 = search rules in
    let is_last : c.is_last_marked.result ≡ last_so false c.items.row.items = search rules in
    all_moved c.args.items.now c.items.rest.now c.items.row.items c.args.text.now c.is_last_marked.result (nil_from_length c.items.rest.now none) c.items.invariant.0 c.items.invariant.1 is_last
