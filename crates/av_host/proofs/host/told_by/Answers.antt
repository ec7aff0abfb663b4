use Rattle.std.proofs.Common.{◌≡◌, List, sym, ap, ◌∙◌, subst}
use Rattle.av_ends.specs.declared.ticket.Receipt.{Receipt}
use Rattle.av_files.specs.declared.opened.Opened.{Opened}
use Rattle.av_host.proofs.ReceiptLemmas.{have_receipts}
use Rattle.av_host.specs.Brought.{opened_files}
use Rattle.av_host.specs.Lines.{HaveReceipts, receipts_of}
use Rattle.av_host.proofs.host.told_by.Goals as goal

pub returns-clause-receipts : goal.returns-clause-receipts
returns-clause-receipts c =
    let bs = c.args.met.brought.items in
    let names = c.args.group.names.now in
    let opened : c.in_ok-opened.opened.items ≡ opened_files bs names = c.in_ok-opened.ensures.told ∙ ap (λ b. opened_files b names) c.deref.ensures.value in
    let receipts : c.in-Ok.receipts.items ≡ receipts_of bs = c.in-Ok.ensures ∙ ap receipts_of c.deref-2.ensures.value in
    subst (λ (os : List Opened). HaveReceipts os c.in-Ok.receipts.items) (sym opened)
    (subst (λ (rs : List Receipt). HaveReceipts (opened_files bs names) rs) (sym receipts) (have_receipts bs names))
