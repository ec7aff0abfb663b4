use Rattle.std.proofs.Common.{ap, ◌∙◌, cond, Some}
use Rattle.std.specs.Ordering.{nat_cmp}
use Rattle.std.specs.Map.{lookup}
use Rattle.av_store.specs.Index.{at_name}
use Rattle.std.specs.BTreeMap.{insert_entry}
use Rattle.av_store.specs.Rows.{is_same, without}
use Rattle.av_store.proofs.IndexLemmas.{insert_last, without_last, made}
use Rattle.av_store.proofs.NameLemmas.{names_updated}
use Rattle.av_store.proofs.table.add.Goals as goal

-- src/table.rt:74:9
pub returns-in-Err-clause-refused : goal.returns-in-Err-clause-refused
returns-in-Err-clause-refused c = (
  c.remove.ensures.entries ∙ ap (without c.args.number) (c.in_ok-insert.ensures.entries ∙ insert_last _ _ _ c.requires.below)
      ∙ without_last _ _ _ c.requires.below,
  c.in-Err.ensures.err,
)

-- src/table.rt:51:1
pub returns-clause-rows : goal.returns-clause-rows
returns-clause-rows c =
    c.in_ok-insert.ensures.entries
    ∙ ap (insert_entry nat_cmp c.args.rows.now.entries c.args.number) (made c.args.name.now _ _ _ c.in_ok-copied.ensures c.new.ensures c.in_ok-empty.ensures)
    ∙ insert_last _ _ _ c.requires.below

-- src/table.rt:51:1
pub returns-clause-names : goal.returns-clause-names
returns-clause-names c = λ q.
    names_updated c.args.names.now c.insert-2.new.self _ (Some c.args.number) c.in_default.ensures.updates q
    ∙ ap (λ x. cond (is_same q x) (Some c.args.number) (lookup (at_name q) c.args.names.now.entries)) (c.in_ok-key.ensures.items_if_clones_equal (λ x y h. h))
