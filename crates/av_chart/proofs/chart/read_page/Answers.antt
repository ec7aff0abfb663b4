use Rattle.av_chart.proofs.FaultLemmas.{of_script}
use Rattle.av_chart.proofs.chart.read_page.Goals as goal

pub returns-in-Err-clause-device : goal.returns-in-Err-clause-device
returns-in-Err-clause-device g c = rw (c.from.ensures) (of_script _ _ _ _ _ c.in-Err.ensures.unwritten c.in-Err.ensures.device)
