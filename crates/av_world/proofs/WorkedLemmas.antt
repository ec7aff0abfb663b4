-- The worked examples of what finishes a world, computed.
use Rattle.std.proofs.Common.{◌+◌, ◌≤◌, lit≤, refl, Bool, true}
use Rattle.av_base.specs.declared.port.Port.{Port}
use Rattle.av_base.specs.declared.port.Port.TheVariants.{One, Two}
use Rattle.av_filter_table.specs.Table.{on_port}
use Rattle.av_service.specs.Scanning.{most_leases}
use Rattle.av_world.proofs.ExampleLemmas.{all_open}
use Rattle.av_world.specs.Progress.{CanFinish, all_chunks, before_scan, finishing, onward, settling_all, to_reply}
use Rattle.av_world.specs.ProgressExamples.{AreWorked, TwoScans, TwoAnswers, AfterRestart, RestartAnswers, AfterDisconnection, AfterWrite, WriteAnswers, NothingToDo, Unpublished, NoLease, NoByte, NoJob}
use Rattle.av_world.specs.ProgressExamples as ex
use Rattle.av_history.specs.World.{desk_of}

unfoldable pub computed : Bool
unfolding all_open before_scan finishing onward settling_all to_reply
computed = true

two_scans : TwoScans
unfolding computed
two_scans = refl

two_answers : TwoAnswers
unfolding computed
two_answers = refl

after_restart : AfterRestart
unfolding computed
after_restart = refl

restart_answers : RestartAnswers
unfolding computed
restart_answers = refl

after_disconnection : AfterDisconnection
unfolding computed
after_disconnection = refl

after_write : AfterWrite
unfolding computed
after_write = refl

write_answers : WriteAnswers
unfolding computed
write_answers = refl

nothing_to_do : NothingToDo
unfolding computed
nothing_to_do = refl

unpublished : Unpublished
unfolding computed
unpublished = refl

no_lease : NoLease
unfolding computed
no_lease = refl

no_byte : NoByte
unfolding computed
no_byte = refl

no_job : NoJob
unfolding computed
no_job = refl

leases_left : (port : Port) → (desk_of ex.two_scans port).last_lease + all_chunks ex.two_scans (on_port port ex.two_scans.table.questions) ≤ most_leases
unfolding computed
leases_left One = lit≤ tt
leases_left Two = lit≤ tt

can : CanFinish ex.two_scans
unfolding computed
can = record { reached = lit≤ tt; leases = leases_left }

pub are_worked : AreWorked
are_worked = record {
  can = can;
  two_scans = two_scans;
  two_answers = two_answers;
  after_restart = after_restart;
  restart_answers = restart_answers;
  after_disconnection = after_disconnection;
  after_write = after_write;
  write_answers = write_answers;
  nothing_to_do = nothing_to_do;
  unpublished = unpublished;
  no_lease = no_lease;
  no_byte = no_byte;
  no_job = no_job;
}
