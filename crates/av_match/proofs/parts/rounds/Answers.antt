use Rattle.av_match.proofs.PassedLemmas.{all_joined}
use Rattle.av_match.specs.Places.{starts_of}
use Rattle.av_match.proofs.parts.rounds.Goals as goal

pub rounds-preserved : goal.rounds-preserved
rounds-preserved c = record {
  within = c.in_ok-at.ensures.within;
  passed =
      all_joined c.args.tables.now c.args.piece.now (starts_of c.args.step) c.rounds.at c.round-far.result.places c.in_ok-at.at c.rounds.invariant.passed c.round-far.ensures.over c.in_ok-at.ensures.passed;
}
