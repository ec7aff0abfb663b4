use Rattle.std.proofs.Common.{ap, sym, ◌∙◌}
use Rattle.av_filter.proofs.ReadyLemmas.{on_some, unasked}
use Rattle.av_filter_table.specs.Table.{is_modified, is_written}
use Rattle.av_filter.proofs.changing.port_to_ask.Goals as goal

pub returns-in-Some-Modified-clause-unasked : goal.returns-in-Some-Modified-clause-unasked
returns-in-Some-Modified-clause-unasked c =
    on_some c.asking.result _
    (unasked c.args.table.now c.args.stream c.boot-scanned_by_their_questions.ensures.orderly (ap is_modified (sym c.state_of.ensures ∙ c.in-Some-Modified.is) ∙ ap is_written c.in-Some-Modified.field-0-is))
