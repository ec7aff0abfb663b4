use Rattle.av_filter.proofs.StoringLemmas.{fits_created}
use Rattle.av_filter.proofs.storing.create.Goals as goal

pub returns-clause-fits : goal.returns-clause-fits
returns-clause-fits c = fits_created c.create.result c.args.filter.now c.args.volume.now c.create.new.self c.args.name.now c.create.ensures c.requires.fits
