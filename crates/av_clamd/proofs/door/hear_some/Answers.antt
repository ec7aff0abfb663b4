use Rattle.std.proofs.Common.{arith}
use Rattle.av_clamd.specs.Door.{option_told}
use Rattle.av_clamd.proofs.HearLemmas.{piece_taken}
use Rattle.av_clamd.proofs.door.hear_some.Goals as goal

pub returns-in-Some-clause-taken : goal.returns-in-Some-clause-taken
returns-in-Some-clause-taken c =
    piece_taken c.args.sending c.args.rest.now c.min-count.result c.in-Some.left c.args.door.now c.piece_bytes.new.self (option_told c.in_ok-one.one) c.in-Some.ensures.some
    (grind (arith, c.min-count.ensures, c.max.ensures, c.requires)) (grind (arith, c.min-count.ensures, c.max.ensures)) (grind (arith, c.min-count.ensures)) c.in_ok-one.ensures.0
