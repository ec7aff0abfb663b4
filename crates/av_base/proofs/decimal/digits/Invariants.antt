use Rattle.std.proofs.Common.{◌≡◌, ◌<◌, ◌^◌, drop}
use Rattle.std.specs.List.{list_all}
use Rattle.av_base.specs.Decimal.{value_from, is_digit}
use Rattle.av_base.proofs.decimal.digits.Given as goal

-- the digits so far have this value
abbrev pub invariant-loop-b : goal.invariant-loop-b
invariant-loop-b l =
    (value_from l.value (drop l.b-index l.word) ≡ value_from 0 l.word)
    × (list_all is_digit (drop l.b-index l.word) ≡ list_all is_digit l.word)
    × (l.value < 2 ^ 64)
