use Rattle.std.proofs.Common.{◌≡◌, sym, ap, ◌∙◌}
use Rattle.av_filter_table.proofs.TableLemmas.{all-others}
use Rattle.av_filter_table.specs.FilterTable.{id_of}
use Rattle.av_filter_table.specs.Table.{Table, other_opens}
use Rattle.av_filter.proofs.closing.answer_opens.Goals as goal

pub returns-clause-table : goal.returns-clause-table
returns-clause-table c =
    let now = c.opens.table in
    let old = c.args.table.now in
    let all : now.pended ≡ other_opens (id_of old.boot c.args.question) old.pended =
    sym (all-others (id_of now.boot c.args.question) now.pended c.in_default.ensures.none) ∙ c.opens.invariant.others in
    c.in_default.ensures.unchanged ∙ (c.opens.invariant.rest ∙ ap {B = Table} (λ ps. record old { pended = ps }) all)
