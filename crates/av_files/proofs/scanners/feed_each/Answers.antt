use Rattle.std.proofs.Common.{rules, arith, ◌≡◌, Some, ap, sym, slice_get}
use Rattle.av_files.proofs.SeveralLemmas.{all_fed, fed_at, none_fed, set_there}
use Rattle.av_files.proofs.scanners.feed_each.Goals.{in-Some, in_default}
use Rattle.av_files.proofs.scanners.feed_each.Goals as goal

pub scans-init : goal.scans-init
scans-init c = λ bytes content are room. none_fed _ _ _ _ _ are

pub scans-preserved : goal.scans-preserved
scans-preserved c = λ bytes content are room.
    let before = c.scans.invariant bytes content are room in
    elim c.match-set_at.branch [
      | in-Some w ↦
          fed_at c.scans.i c.args.scanners.now bytes content _ c.scans.scans c.match-set_at.scans w.in-Some.named.now w.named.inside.scanner w.index-scans-i.result w.fed.result (sym w.in-Some.ensures)
          (ap (λ s. s.set) w.named.view_is) w.index-scans-i.is (λ was. w.fed.ensures bytes content was room) w.scans-is before
      | in_default w ↦
          absurd (set_there c.scans.i c.args.scanners.now bytes content _ c.scans.scans before (omega (arith, c.scans-test.true, c.scans.auto.scans)) w.in_default.ensures)
    ]

pub returns : goal.returns
returns c = λ bytes content are room.
    all_fed c.scans.i _ bytes content _ _ (omega (arith, c.scans-test.false, c.scans.auto.i-end, c.scans.auto.scans)) (c.scans.invariant bytes content are room)
