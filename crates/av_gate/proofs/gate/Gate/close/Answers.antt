use Rattle.std.proofs.Common.{List, subst, sym}
use Rattle.std.specs.List.{All}
use Rattle.av_ends.specs.declared.ticket.Receipt.{Receipt}
use Rattle.av_filter.specs.Audit.{FilterEntry}
use Rattle.av_gate.specs.Claims.{Stands}
use Rattle.av_gate.proofs.gate.Gate.close.Goals as goal

pub returns-in_default-clause-receipts : goal.returns-in_default-clause-receipts
returns-in_default-clause-receipts c =
    let locked = c.into_inner-locked.result.locked in
    subst (λ (es : List FilterEntry). All (Stands es) c.args.receipts.items) (sym c.into_audit.ensures.audit.3)
    (subst (λ (rs : List Receipt). All (Stands locked.events) rs) c.as_slice-2.ensures.value c.in_default.ensures.receipts)
