use Rattle.std.proofs.Common.{ℕ, ◌≡◌, List, Option, Result, Ok, Err, OnOk, rules}
use Rattle.std.specs.Borrow.{Bor}
use Rattle.std.specs.Prelude.{IfOk}
use Rattle.std.specs.Io.KnownBytes.{Appends}
use Rattle.av_frame.specs.declared.end.End.{End}
use Rattle.av_files.specs.Opened.{opened_lines, tally_from}
use Rattle.av_files.specs.declared.opened.Opened.{Opened}
use Rattle.av_host.specs.Brought.{AreBrought, AreTold}
use Rattle.av_host.specs.Lines.{AreTrueLines}
use Rattle.av_host.proofs.PartLemmas.{nothing_told, on_err}
use Rattle.av_sigset.specs.Set.{NumberedSet}
use Rattle.av_status.specs.Status.{status_of_end}
use Rattle.av_status.specs.declared.status.Status.{Status}
use Rattle.av_status.specs.declared.tally.Tally.{Tally}
use Rattle.av_status.specs.declared.tally.Wishes.{Wishes}
use Rattle.av_store.specs.Store.{Store}
use Rattle.av_host.proofs.host.host_group.Goals as goal

-- the lines of files that were opened were written, they are true and counted, and the opens ended so
told : (volume : Store) (set : NumberedSet) (openers : ℕ) (names : List (Bor (List ℕ))) (opened : List Opened) (end : End) (wishes : Wishes) (before after : Tally) (old new : Option (List ℕ)) (r : Result Status Status)
    → AreBrought openers names opened end → AreTrueLines volume set opened → OnOk r (after ≡ tally_from before opened) → OnOk r (Appends old new (opened_lines wishes opened))
    → IfOk r (λ status. status ≡ status_of_end end) → IfOk r (λ status. AreTold volume set openers names wishes before after old new status)
told volume set openers names opened end wishes before after old new (Ok status) brought shown counted lines ended =
    record { opened = opened; end = end; brought = brought; are_true = shown; lines = lines; counted = counted; ended = ended }
told volume set openers names opened end wishes before after old new (Err fault) brought shown counted lines ended = tt

pub returns-clause-told : goal.returns-clause-told
returns-clause-told g c =
    let o = c.in_ok-certified.certified in
    told c.args.volume c.args.host.now.signatures.now c.args.host.now.crew.openers c.args.group.names.now o.opened.items o.end c.args.host.now.wishes _ _ _ _ c.tell.result
    c.in_ok-certified.ensures.brought c.in_ok-certified.ensures.certified c.tell.ensures.counted c.tell.ensures.lines c.tell.ensures.ended

pub returns-in_err-certified-clause-part : goal.returns-in_err-certified-clause-part
returns-in_err-certified-clause-part g c = on_err c.from_residual.result (nothing_told c.args.volume c.args.host.now.signatures.now c.args.host.now.wishes (g.W.Write.contents c.args.out.now))
