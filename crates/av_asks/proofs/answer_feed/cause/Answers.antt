use Rattle.av_asks.proofs.AnswerLemmas.{cause_found}
use Rattle.av_asks.proofs.answer_feed.cause.Goals as goal

pub returns : goal.returns
returns c = cause_found c.args.number c.from_number.result c.from_number.ensures.some c.from_number.ensures.value
