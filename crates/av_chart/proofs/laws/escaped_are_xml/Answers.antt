use Rattle.av_chart.proofs.EscapeLemmas
use Rattle.av_chart.proofs.laws.escaped_are_xml.Goals as goal

pub returns : goal.returns
returns c = EscapeLemmas.escaped_xml
