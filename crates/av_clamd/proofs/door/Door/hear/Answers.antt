use Rattle.av_clamd.specs.Door.{option_told}
use Rattle.av_clamd.proofs.HearLemmas.{rest_heard}
use Rattle.av_clamd.proofs.door.Door.hear.Goals as goal

pub returns-in-Ok-clause-heard : goal.returns-in-Ok-clause-heard
returns-in-Ok-clause-heard c =
    rest_heard c.args.sending c.args.piece.now c.in-Ok.heard.0 c.args.self.now c.hear_until.new.door (option_told c.in-Ok.heard.1) c.in-Ok.ensures.taken
