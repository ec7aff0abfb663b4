use Rattle.std.proofs.Common.{◌≡◌, ◌+◌, ◌++◌, ◌∷◌, List, [], ap, sym, ◌∙◌, subst, take}
use Rattle.std.proofs.lemmas.List.{take_all, take_more}
use Rattle.av_ends.specs.declared.ticket.Receipt.{Receipt}
use Rattle.av_host.proofs.ReceiptLemmas.{receipts_push}
use Rattle.av_host.specs.Lines.{receipts_of}
use Rattle.av_host.specs.declared.opener.Brought.{Brought}
use Rattle.av_host.proofs.host.receipts_of.Goals as goal

pub openers-preserved : goal.openers-preserved
openers-preserved c =
    let bs : List Brought = c.args.brought.now in
    let i = c.openers.opener-index in
    let b : Brought = c.opener-item.result in
    let before : c.openers.all.items ≡ receipts_of (take i bs) = c.openers.invariant in
    let more : take (i + 1) bs ≡ take i bs ++ b ∷ [] = take_more bs i b c.openers-test.true ∙ ap (λ x. take i bs ++ x ∷ []) (sym c.opener-item.is) in
    let after : c.extend_from_slice.new.self.items ≡ c.openers.all.items ++ b.receipts.items = c.in_ok-extend_from_slice.ensures.items ∙ ap (λ (rs : List Receipt). c.openers.all.items ++ rs) c.as_slice.ensures.value in
    after ∙ (ap (λ (rs : List Receipt). rs ++ b.receipts.items) before ∙ (sym (receipts_push (take i bs) b) ∙ ap receipts_of (sym more)))

pub returns : goal.returns
returns c =
    let so : c.openers.all.items ≡ receipts_of (take c.openers.opener-index c.args.brought.now) = c.openers.invariant in
    so ∙ ap receipts_of (take_all c.openers.opener-index c.args.brought.now c.openers-test.false)
