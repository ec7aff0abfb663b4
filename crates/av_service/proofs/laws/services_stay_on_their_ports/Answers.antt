use Rattle.av_service.proofs.PortLemmas
use Rattle.av_service.proofs.laws.services_stay_on_their_ports.Goals as goal

pub returns : goal.returns
returns c = PortLemmas.stays_on_its_port
