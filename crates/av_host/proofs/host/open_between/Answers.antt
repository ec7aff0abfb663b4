use Rattle.std.proofs.Common.{ℕ, ◌≡◌, List, Result, Ok, Err, sym, subst}
use Rattle.std.specs.Borrow.{Bor}
use Rattle.std.specs.Prelude.{IfOk}
use Rattle.av_files.specs.declared.opened.Opened.{Opened}
use Rattle.av_frame.specs.declared.end.End.{End}
use Rattle.av_host.specs.Brought.{AreBrought}
use Rattle.av_host.specs.declared.host.Certified.{Certified}
use Rattle.av_status.specs.declared.status.Status.{Status}
use Rattle.av_host.proofs.host.open_between.Goals as goal

-- what is certified is what was brought
as_brought : (openers : ℕ) (names : List (Bor (List ℕ))) (opened : List Opened) (end : End) (r : Result Certified Status) → AreBrought openers names opened end
    → IfOk r (λ c. (c.opened.items ≡ opened) × (c.end ≡ end)) → IfOk r (λ c. AreBrought openers names c.opened.items c.end)
as_brought openers names opened end (Ok c) brought same = subst (λ e. AreBrought openers names c.opened.items e) (sym same.1) (subst (λ os. AreBrought openers names os end) (sym same.0) brought)
as_brought openers names opened end (Err e) brought same = tt

pub returns-in-Ok-clause-brought : goal.returns-in-Ok-clause-brought
returns-in-Ok-clause-brought g c =
    as_brought c.args.host.now.crew.openers c.args.group.names.now c.in-Ok.opening.opened.items c.in-Ok.opening.end c.certify.result c.in-Ok.ensures.brought c.certify.ensures.same
