use Rattle.avtool.proofs.TrustLemmas.{trusted_by}
use Rattle.avtool.proofs.set.set_of.Goals as goal

pub returns-clause-trusted : goal.returns-clause-trusted
returns-clause-trusted g c = trusted_by c.args.trust c.in_ok-text.text.now c.set_in.result c.in_ok-text.ensures.text c.set_in.ensures.spelt
