use Rattle.std.proofs.Common.{List, subst, sym}
use Rattle.av_files.specs.declared.opened.Opened.{Opened}
use Rattle.av_host.proofs.ReceiptLemmas.{given}
use Rattle.av_host.specs.Lines.{AreGiven}
use Rattle.av_host.proofs.host.certify.Goals as goal

pub are_shown-requires-clause-given : goal.are_shown-requires-clause-given
are_shown-requires-clause-given g c κs within =
    subst (λ (os : List Opened). AreGiven c.in-Ok.closed.gate os) (sym c.as_slice.ensures.value)
    (given c.in-Ok.closed.gate.events.items c.args.opening.receipts.items c.args.opening.opened.items c.in-Ok.ensures.receipts c.requires)
