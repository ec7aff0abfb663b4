use Rattle.std.proofs.Common.{sym, ◌∙◌, ap}
use Rattle.std.proofs.lemmas.List.{take_rest}
use Rattle.av_clamd.specs.Door.{option_told}
use Rattle.av_clamd.proofs.HearLemmas.{more_taken, none_told, within_all}
use Rattle.av_clamd.proofs.door.hear_until.Goals as goal

pub returns-then-is_some-clause-taken : goal.returns-then-is_some-clause-taken
returns-then-is_some-clause-taken c =
    more_taken c.args.sending c.args.piece.now _ c.bytes.taken c.in_ok-count.count c.args.door.now c.bytes.door c.hear_some.new.door (option_told c.in_ok-count.one)
    (take_rest c.args.piece.now c.bytes.taken) c.bytes.invariant.1 c.in_ok-count.ensures.taken

pub bytes-preserved : goal.bytes-preserved
bytes-preserved c =
    let rest = take_rest c.args.piece.now c.bytes.taken in
    let none = none_told c.in_ok-count.one (sym c.is_some.ensures ∙ c.if-is_some.false) in (
      within_all c.args.piece.now _ c.bytes.taken c.in_ok-count.count rest c.bytes.invariant.0 c.in_ok-count.ensures.some.1,
      more_taken c.args.sending c.args.piece.now _ c.bytes.taken c.in_ok-count.count c.args.door.now c.bytes.door c.hear_some.new.door (option_told c.in_ok-count.one)
          rest c.bytes.invariant.1 c.in_ok-count.ensures.taken
          ∙ ap (λ told. (c.hear_some.new.door, told)) none,
    )
