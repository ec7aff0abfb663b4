use Rattle.std.proofs.Common.{arith, ◌∙◌, eq-eqb}
use Rattle.std.proofs.lemmas.List.{take_rest}
use Rattle.av_import.proofs.NumberLemmas.{one_zero}
use Rattle.av_import.proofs.number.without_zeros.Goals as goal

pub zeros-preserved : goal.zeros-preserved
zeros-preserved c = rw take_rest (one_zero c.zeros.rest.now (omega arith) (eq-eqb _ _ c.if-rest-eq48.true) ∙ c.zeros.invariant)
