-- The worked examples over two ports, computed.
use Rattle.std.proofs.Common.{◌+◌, ◌≤◌, [], lit≤, refl, inl, inr, Bool, true, sym, ◌∙◌}
use Rattle.av_script.proofs.PortScriptLemmas.{scripts_open}
use Rattle.av_base.specs.declared.port.Port.TheVariants.{One, Two}
use Rattle.av_base.specs.declared.port.Port.{Port}
use Rattle.av_service.specs.Audit.{IsServiceAudit}
use Rattle.av_service.specs.Scanning.{most_leases}
use Rattle.av_filter_table.specs.Table.{on_port}
use Rattle.av_history.specs.Audits.{FinishesItsWorks, service_side}
use Rattle.av_world.specs.Examples.{no_sets, told}
use Rattle.av_script.specs.PortExamples.{AskedWhere, AreExamples, CanBeLegal, FinishedBoth, FinishedLost, Finishing, HeldAfter, PathBegins, led, on_both, some_audits, some_work, world_behind}
use Rattle.av_world.specs.Progress.{CanFinish, all_chunks, before_scan, finishing, onward, settling_all, to_reply}
use Rattle.av_history.specs.Scene.{desk_at_first}
use Rattle.av_history.specs.World.{desk_of}

-- every definition that an example computes with
abbrev pub examples_open : Bool
unfolding scripts_open before_scan finishing onward settling_all to_reply world_behind
examples_open = true

held_after : HeldAfter
unfolding examples_open
held_after = refl

asked_where : AskedWhere
unfolding examples_open
asked_where = refl

path_begins : PathBegins
unfolding examples_open
path_begins = record { runs = refl; connected = refl; no_job = refl; room = lit≤ tt; chunk = lit≤ tt; enough = lit≤ tt; leases = lit≤ tt }

what_finishes : Finishing
unfolding examples_open
what_finishes = refl

finished_both : FinishedBoth
unfolding examples_open
finished_both = refl

finished_lost : FinishedLost
unfolding examples_open
finished_lost = refl

leases_left : (port : Port) → (desk_of (led on_both) port).last_lease + all_chunks (led on_both) (on_port port (led on_both).table.questions) ≤ most_leases
unfolding examples_open
leases_left One = lit≤ tt
leases_left Two = lit≤ tt

can : CanFinish (led on_both)
unfolding examples_open
can = record { reached = lit≤ tt; leases = leases_left }

services : (port : Port) → IsServiceAudit (no_sets port) (desk_at_first port (told port) (no_sets port)) (service_side port some_audits)
unfolding examples_open
services One = (record { later = lit≤ tt; solid = ((lit≤ tt, lit≤ tt), tt) }, record { messages = refl; works = refl; note = refl }, (refl, record { messages = refl; works = refl; note = refl }, tt))
services Two = (record { later = lit≤ tt; solid = ((lit≤ tt, lit≤ tt), tt) }, record { messages = refl; works = refl; note = refl }, (refl, record { messages = refl; works = refl; note = refl }, (tt, record { messages = refl; works = refl; note = refl }, (tt, record { messages = refl; works = refl; note = refl }, (tt, record { messages = refl; works = refl; note = refl }, tt)))))

works : (port : Port) → FinishesItsWorks (no_sets port) [] (service_side port some_audits)
unfolding examples_open
works One = (tt, (tt, tt))
works Two = (tt, (tt, (tt, (tt, ((some_work, inl refl, refl), tt)))))

can_be_legal : CanBeLegal
unfolding examples_open
can_be_legal = record {
  volume = record { streams = refl; last = refl };
  catalogues = λ port. tt;
  filter = (refl, record { answers = refl; messages = refl; note = refl }, (refl, record { answers = refl; messages = refl; note = refl }, (refl, record { answers = refl; messages = refl; note = refl }, (refl, record { answers = refl; messages = refl; note = refl }, (refl, record { answers = refl; messages = refl; note = refl }, (refl, record { answers = refl; messages = refl; note = refl }, tt))))));
  services = services;
  works = works;
  one_sets = λ version p q one two. cc (sym one ∙ two);
  delivered = (tt, (tt, (tt, (tt, (inl refl, (inr (inl refl), (tt, (tt, (inr (inl refl), (inr (inr (inl refl)), (inr (inr (inl refl)), (tt, (inr (inr (inr (inl refl))), tt)))))))))))));
}

pub are_examples : AreExamples
are_examples = record {
  held_after = held_after;
  asked_where = asked_where;
  path_begins = path_begins;
  finishing = what_finishes;
  finished_both = finished_both;
  finished_lost = finished_lost;
  can = can;
  can_be_legal = can_be_legal;
}
