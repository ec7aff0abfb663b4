use Rattle.std.proofs.Common.{inl, inr, sym, subst}
use Rattle.av_filter.specs.Conduct.{Disconnects}
use Rattle.av_daemon.specs.Passing.{IsLosing, KeepsFilter}
use Rattle.av_daemon.proofs.PassingLemmas.{keeps_all, losing_on, told_once}
use Rattle.av_daemon.proofs.daemon.Daemon.lose_service.Goals.{else-connected, else-not-has_service, then-connected+in_ok-given+in_ok-settle_moved, then-not-has_service+in_ok-lose_parts}
use Rattle.av_daemon.proofs.daemon.Daemon.lose_service.Goals as goal

pub returns : goal.returns
returns g c =
    let lost : IsLosing c.args.port c.args.guard.now c.if-connected.guard =
    elim c.if-connected.branch [
      | then-connected+in_ok-given+in_ok-settle_moved w ↦
          subst (IsLosing c.args.port c.args.guard.now) (sym w.guard-is)
          (inr (told_once c.args.guard.now w.service_lost.new.self w.settle_moved.new.guard (Disconnects c.args.port) w.in_ok-given.ensures.event.state w.in_ok-settle_moved.ensures.guard))
      | else-connected w ↦ inl (keeps_all c.args.guard.now c.if-connected.guard w.guard-is)
    ] in
    let left : KeepsFilter c.if-connected.guard c.if-not-has_service.guard =
    elim c.if-not-has_service.branch [
      | then-not-has_service+in_ok-lose_parts w ↦ subst (KeepsFilter c.if-connected.guard) (sym w.guard-is) w.in_ok-lose_parts.ensures.guard
      | else-not-has_service w ↦ keeps_all c.if-connected.guard c.if-not-has_service.guard w.guard-is
    ] in
    losing_on c.args.port c.args.guard.now c.if-connected.guard c.if-not-has_service.guard lost left
