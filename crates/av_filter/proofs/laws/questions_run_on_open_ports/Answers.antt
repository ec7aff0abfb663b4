use Rattle.av_filter.proofs.PortLemmas
use Rattle.av_filter.proofs.laws.questions_run_on_open_ports.Goals as goal

pub returns : goal.returns
returns c = PortLemmas.keeps_ports
