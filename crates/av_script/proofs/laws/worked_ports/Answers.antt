use Rattle.av_script.proofs.PortExampleLemmas
use Rattle.av_script.proofs.PortScriptLemmas
use Rattle.av_script.proofs.laws.worked_ports.Goals as goal

pub returns : goal.returns
returns c = record { printed = PortScriptLemmas.are_worked; held = PortExampleLemmas.are_examples }
