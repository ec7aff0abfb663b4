use Rattle.std.proofs.Common.{◌∙◌}
use Rattle.av_filter_table.proofs.TableLemmas.{states-at}
use Rattle.av_filter_table.proofs.filter_table.FilterTable.state_of.Goals as goal

pub returns : goal.returns
returns c = rw (← c.self.view_is) (c.state_of.ensures ∙ states-at c.self.inside.contexts c.args.stream)
