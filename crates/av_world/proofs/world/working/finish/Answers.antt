use Rattle.std.proofs.Common.{length, sym, subst}
use Rattle.std.specs.Prelude.{IfOk}
use Rattle.av_match.specs.Scanning.{if_found}
use Rattle.av_service.specs.Conduct.{Finishes}
use Rattle.av_world.proofs.ServingLemmas.{small_finish}
use Rattle.av_world.specs.Serving.{IsSmallResponse}
use Rattle.av_history.specs.World.{at_port}
use Rattle.av_world.proofs.world.working.finish.Goals as goal

pub returns-in-One-clause-few : goal.returns-in-One-clause-few
returns-in-One-clause-few c =
    subst (λ port. IfOk c.finish.result (IsSmallResponse (length (at_port port c.args.one.now.desk c.args.two.now.desk).jobs))) (sym c.in-One.is)
    (small_finish c.finish.result c.args.one.now.desk c.finish.new.self.desk (Finishes c.args.done.lease c.args.done.scan (if_found c.args.done.scan)) c.finish.ensures.ok)

pub returns-in-Two-clause-few : goal.returns-in-Two-clause-few
returns-in-Two-clause-few c =
    subst (λ port. IfOk c.finish-in-Two.result (IsSmallResponse (length (at_port port c.args.one.now.desk c.args.two.now.desk).jobs))) (sym c.in-Two.is)
    (small_finish c.finish-in-Two.result c.args.two.now.desk c.finish-in-Two.new.self.desk (Finishes c.args.done.lease c.args.done.scan (if_found c.args.done.scan)) c.finish-in-Two.ensures.ok)
