-- Worked examples of what finishes a world, and of what stands in the way where a premise is missing.
use Rattle.std.specs.Prelude.{◌≡◌, ℕ, List, [], ◌∷◌, ◌++◌, map}
use Rattle.av_base.specs.Limits.{greatest_values}
use Rattle.av_base.specs.declared.cause.Cause.TheVariants.{Infected, ScanFailed}
use Rattle.av_base.specs.declared.limits.LimitValues.{LimitValues}
use Rattle.av_base.specs.declared.mode.Mode.TheVariants.{FailClosed}
use Rattle.av_base.specs.declared.port.Port.TheVariants.{One, Two}
use Rattle.av_pend.specs.declared.answer.Answer.{Answer}
use Rattle.av_pend.specs.declared.answer.Answer.TheVariants.{Granted, Denied}
use Rattle.av_service.specs.Scanning.{most_leases}
use Rattle.av_world.specs.Examples.{a, b, prepared, run, scanned}
use Rattle.av_history.specs.Held.{pended}
use Rattle.av_world.specs.Progress.{CanFinish, at_last, finishing}
use Rattle.av_history.specs.World.{WorldState, desk_of, start, with_desk}
use Rattle.av_history.specs.declared.event.Event.{Event}
use Rattle.av_history.specs.declared.event.Event.TheVariants.{Create, Write, Open, Down, Up, Run, Connect, DisconnectFilter, DisconnectService, RestartService}

-- the world after these events
abbrev pub led : LimitValues → List Event → WorldState
led limits es = run es (start 1 FailClosed limits)

-- what all opens got, once the world is finished; and those that still wait then
abbrev pub answers_then : WorldState → List Answer
answers_then w = map (λ g. g.answer) (at_last w).answers

-- the opens that wait after the finishing events
abbrev pub waiting_then : WorldState → List ℕ
waiting_then w = pended (at_last w)

-- ---- two questions in the midst of their scans: both were begun, and a work of the first is out. Chunks are of two bytes,
-- and the second stream is infected

-- two streams with a scan each, one of them infected
abbrev pub two_scans : WorldState
two_scans =
    led (record greatest_values { chunk = 2 })
    (prepared ++ Create b ∷ Write b 0 (0x58 ∷ 0x58 ∷ []) ∷ Open a 0 ∷ Open b 0 ∷ Down 1 ∷ Down 2 ∷ Up 2 ∷ Down 3 ∷ [])

-- what finishes them
abbrev pub TwoScans : Type 0
TwoScans =
    finishing two_scans
    ≡ DisconnectService One
    ∷ Connect One
    ∷ DisconnectService Two
    ∷ Connect Two
    ∷ Down 1
    ∷ Up 6
    ∷ Down 4
    ∷ Run 2
    ∷ Up 7
    ∷ Down 5
    ∷ Run 3
    ∷ Up 8
    ∷ Down 2
    ∷ Up 9
    ∷ Down 6
    ∷ Run 4
    ∷ Up 10
    ∷ []

-- both opens are answered by the verdicts
abbrev pub TwoAnswers : Type 0
TwoAnswers = answers_then two_scans ≡ Granted 1 0 1 2 1 ∷ Denied 2 Infected ∷ []

-- ---- the service has restarted, when the reply of a scan was still to come: its cache is empty, and it isn't connected

-- the service restarted in the midst of a scan
abbrev pub restarted : WorldState
restarted = led greatest_values (scanned ++ RestartService One ∷ [])

-- what finishes it
abbrev pub AfterRestart : Type 0
AfterRestart = finishing restarted ≡ DisconnectService One ∷ Connect One ∷ DisconnectService Two ∷ Connect Two ∷ Down 1 ∷ Up 6 ∷ Down 3 ∷ Run 2 ∷ Up 7 ∷ []

-- the open is granted
abbrev pub RestartAnswers : Type 0
RestartAnswers = answers_then restarted ≡ Granted 1 0 1 2 1 ∷ []

-- the service had judged the content, and lost the connection alone: its cache answers
abbrev pub AfterDisconnection : Type 0
AfterDisconnection =
    finishing (led greatest_values (scanned ++ DisconnectService One ∷ [])) ≡ DisconnectService One ∷ Connect One ∷ DisconnectService Two ∷ Connect Two ∷ Down 1 ∷ Up 6 ∷ []

-- the content was written while its open waited, and was asked about again: the answer is about the content as it is now
abbrev pub written_meanwhile : WorldState
written_meanwhile = led greatest_values (prepared ++ Open a 0 ∷ Write a 0 (0x58 ∷ 0x58 ∷ []) ∷ [])

-- what finishes a scan whose content was written meanwhile
abbrev pub AfterWrite : Type 0
AfterWrite = finishing written_meanwhile ≡ DisconnectService One ∷ Connect One ∷ DisconnectService Two ∷ Connect Two ∷ Down 3 ∷ Up 4 ∷ Down 4 ∷ Run 1 ∷ Up 5 ∷ []

-- the open is denied for what the content is now
abbrev pub WriteAnswers : Type 0
WriteAnswers = answers_then written_meanwhile ≡ Denied 1 Infected ∷ []

-- where the filter isn't connected no open waits, and nothing is to do
abbrev pub NothingToDo : Type 0
NothingToDo = finishing (led greatest_values (scanned ++ DisconnectFilter One ∷ [])) ≡ []

-- ---- without each premise

-- an open asks for a version that nobody has published: its scan is asked anew, and it waits
abbrev pub Unpublished : Type 0
Unpublished = waiting_then (led greatest_values (prepared ++ Open a 9 ∷ [])) ≡ 1 ∷ []

-- no lease is left: the chunk is ignored. No history can be written that is so long, so the counter is set by hand
abbrev pub without_leases : WorldState → WorldState
without_leases w = with_desk w One (record (desk_of w One) { last_lease = most_leases })

-- with no lease left the open waits on
abbrev pub NoLease : Type 0
NoLease = waiting_then (without_leases (led greatest_values (prepared ++ Open a 0 ∷ []))) ≡ 1 ∷ []

-- chunks of no byte: the scan never moves
abbrev pub NoByte : Type 0
NoByte = waiting_then (led (record greatest_values { chunk = 0 }) (prepared ++ Open a 0 ∷ [])) ≡ 1 ∷ []

-- no job may run: the scan fails, and that is no verdict
abbrev pub NoJob : Type 0
NoJob = answers_then (led (record greatest_values { jobs = 0 }) (prepared ++ Open a 0 ∷ [])) ≡ Denied 1 ScanFailed ∷ []

-- all of it, and that the premises can be met
pub record AreWorked : Type 0 where
  pub can : CanFinish two_scans
  pub two_scans : TwoScans
  pub two_answers : TwoAnswers
  pub after_restart : AfterRestart
  pub restart_answers : RestartAnswers
  pub after_disconnection : AfterDisconnection
  pub after_write : AfterWrite
  pub write_answers : WriteAnswers
  pub nothing_to_do : NothingToDo
  pub unpublished : Unpublished
  pub no_lease : NoLease
  pub no_byte : NoByte
  pub no_job : NoJob
