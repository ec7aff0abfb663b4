use Rattle.std.proofs.Common.{length}
use Rattle.av_match.specs.Places.{AreAllPassed, HaveRoom, starts_of}
use Rattle.av_match.proofs.parts.rounds.Given as goal

-- the six parts are passed over so far
abbrev pub invariant-rounds : goal.invariant-rounds
invariant-rounds l = record {
  within : HaveRoom (length l.piece) 0 l.at;
  passed : AreAllPassed l.tables l.piece (starts_of l.step) l.at;
}
