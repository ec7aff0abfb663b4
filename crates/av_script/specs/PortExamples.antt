-- Worked examples of what a world over two ports holds, and of what finishes it.
use Rattle.std.specs.Prelude.{◌≡◌, ℕ, List, [], ◌∷◌, ◌++◌, map, codes, Option, None, Result, Ok, Err}
use Rattle.av_base.specs.Limits.{greatest_values}
use Rattle.av_base.specs.declared.cause.Cause.TheVariants.{Infected}
use Rattle.av_base.specs.declared.message_id.MessageId.{MessageId}
use Rattle.av_base.specs.declared.mode.Mode.TheVariants.{FailClosed}
use Rattle.av_base.specs.declared.verdict.Verdict.TheVariants.{Clean}
use Rattle.av_cache.specs.declared.entry.Entry.{Entry}
use Rattle.av_filter.specs.declared.note.Note as filter_notes
use Rattle.av_filter.specs.declared.note.Note.TheVariants as filter_note
use Rattle.av_frame.specs.declared.message.Body.{Body}
use Rattle.av_frame.specs.declared.message.Body.TheVariants.{Chunk, Hello, Read, Reply, Scan}
use Rattle.av_frame.specs.declared.outcome.Outcome.TheVariants.{Judged}
use Rattle.av_match.specs.Scanning.{begin}
use Rattle.av_pend.specs.declared.answer.Answer.{Answer}
use Rattle.av_pend.specs.declared.answer.Answer.TheVariants.{Denied, Granted}
use Rattle.av_service.specs.Work.{WorkState}
use Rattle.av_service.specs.declared.note.ServiceNote.TheVariants as service_note
use Rattle.av_filter.specs.Conduct.{FilterEvent}
use Rattle.av_filter.specs.Conduct as filter
use Rattle.av_frame.specs.Message.{Letter, via}
use Rattle.av_base.specs.declared.port.Port.TheVariants.{One, Two}
use Rattle.av_base.specs.declared.port.Port.{Port}
use Rattle.av_service.specs.Audit as audit
use Rattle.av_service.specs.Conduct.{ServiceEvent}
use Rattle.av_service.specs.Conduct as service
use Rattle.av_history.specs.Audits.{AreLegal, OfFilter, OfService, SideEntry}
use Rattle.av_script.specs.declared.command.Command.{Command}
use Rattle.av_history.specs.declared.event.Event.TheVariants.{Connect, DisconnectService, Down, Run, Up}
use Rattle.av_world.specs.Examples.{file_of_abc, no_sets, told, volume_of_abc, xx}
use Rattle.av_history.specs.Held.{asked, held}
use Rattle.av_world.specs.Path.{IsReady}
use Rattle.av_world.specs.Progress.{CanFinish, finishing}
use Rattle.av_script.specs.declared.script.ScriptFault.{ScriptFault}
use Rattle.av_world.specs.ProgressExamples.{answers_then}
use Rattle.av_script.specs.Script.{ScriptText, script_of}
use Rattle.av_script.specs.CommandText.{command_world}
use Rattle.av_history.specs.World.{WorldState, start}

-- the world after commands
unfoldable pub world_behind : WorldState → List Command → WorldState
world_behind w [] = w
world_behind w (c ∷ cs) = world_behind (command_world w c) cs

-- the world of a script
abbrev pub world_in : Result ScriptText ScriptFault → WorldState
world_in (Ok s) = world_behind (start s.number s.mode s.limits) s.commands
world_in (Err f) = start 0 FailClosed greatest_values

-- the text of lines
abbrev pub text_of : List (List ℕ) → List ℕ
text_of [] = []
text_of (l ∷ ls) = l ++ codes "\n" ++ text_of ls

-- the world that a script of these lines leads to
abbrev pub led : List (List ℕ) → WorldState
led ls = world_in (script_of (text_of ls))

-- an id of the first boot
abbrev pub id : ℕ → MessageId
id n = record { boot = 1; seq = n }

-- one port is lost while an open waits, and the question was asked on the other
abbrev pub asked_anew : List (List ℕ)
asked_anew =
    codes "volume 1 closed"
    ∷ codes "publish 1 5858"
    ∷ codes "create a"
    ∷ codes "write a 0 414243"
    ∷ codes "connect"
    ∷ codes "up 1"
    ∷ codes "connect 2"
    ∷ codes "up 2"
    ∷ codes "open a"
    ∷ codes "disconnect filter"
    ∷ []

-- and answered there
abbrev pub granted_then : List (List ℕ)
granted_then =
    codes "down 2"
    ∷ codes "up 3"
    ∷ codes "down 3"
    ∷ codes "work 1"
    ∷ codes "up 4"
    ∷ []

-- the verdict stands in the context, the filter's cache, that of service Two and its reply
abbrev pub HeldAfter : Type 0
HeldAfter =
    let e : Entry = record { stream = 1; generation = 2; version = 1; verdict = Clean } in
    held (led (asked_anew ++ granted_then)) ≡ e ∷ e ∷ e ∷ e ∷ []

-- each of both questions was asked on its own port
abbrev pub AskedWhere : Type 0
AskedWhere =
    map (asked (led asked_anew).down) (id 1 ∷ id 2 ∷ [])
    ≡ map (λ port. Option.Some (record { port = port; stream = 1; generation = 2; length = 3 })) (One ∷ Two ∷ [])

-- the premise of the whole path can be met on port Two
abbrev pub PathBegins : Type 0
PathBegins = IsReady (led asked_anew) (record { id = id 2; port = Two; stream = 1; generation = 2 }) 1

-- a question on each port: the first open waits for one of port Two, the second for one of port One
abbrev pub on_both : List (List ℕ)
on_both =
    codes "volume 1 closed"
    ∷ codes "publish 1 5858"
    ∷ codes "create a"
    ∷ codes "write a 0 414243"
    ∷ codes "connect 2"
    ∷ codes "up 1"
    ∷ codes "open a"
    ∷ codes "connect"
    ∷ codes "up 2"
    ∷ codes "create b"
    ∷ codes "write b 0 5858"
    ∷ codes "open b"
    ∷ []

-- what finishes them: each question on its own port
abbrev pub Finishing : Type 0
Finishing =
    finishing (led on_both)
    ≡ DisconnectService One
    ∷ Connect One
    ∷ DisconnectService Two
    ∷ Connect Two
    ∷ Down 1
    ∷ Up 5
    ∷ Down 3
    ∷ Run 1
    ∷ Up 6
    ∷ Down 2
    ∷ Up 7
    ∷ Down 4
    ∷ Run 2
    ∷ Up 8
    ∷ []

-- both opens are answered by the verdicts
abbrev pub FinishedBoth : Type 0
FinishedBoth = answers_then (led on_both) ≡ Granted 1 0 1 2 1 ∷ Denied 2 Infected ∷ []

-- so is the open whose port was lost
abbrev pub FinishedLost : Type 0
FinishedLost = answers_then (led asked_anew) ≡ Granted 1 0 1 2 1 ∷ []

-- ---- a history of all three sides that is legal

-- an entry of the filter
abbrev pub reply : FilterEvent → List Answer → List Letter → filter_notes.Note → SideEntry
reply f given ms n = OfFilter (record { event = f; answers = given; messages = ms; note = n })

-- an entry of the service of a port, which sends there
abbrev pub response : Port → ServiceEvent → List Body → List WorkState → SideEntry
response port e ms ks =
    OfService port (record { call = audit.By e; messages = map (via port) ms; works = ks; note = service_note.Quiet })

-- version 3 is published in the catalogue of a port
abbrev pub publishes : Port → SideEntry
publishes port = OfService port (record { call = audit.Publishes 3 xx; messages = []; works = []; note = service_note.Quiet })

-- a lent work that was begun and not run
abbrev pub some_work : WorkState
some_work = record { lease = 1; id = id 2; version = 3; scan = begin 3 3; chunk = codes "ABC" }

-- the audits, put together: each catalogue has version 3, both connect, open 8 asks on port One, which is lost; the scan is asked
-- for and judged on port Two, and the open granted
abbrev pub some_audits : List SideEntry
some_audits =
    publishes One
    ∷ publishes Two
    ∷ response One service.Connects (Hello 1 3 ∷ []) []
    ∷ response Two service.Connects (Hello 1 3 ∷ []) []
    ∷ reply (filter.Receives (via One (Hello 1 3))) [] [] filter_note.Welcome
    ∷ reply (filter.Receives (via Two (Hello 1 3))) [] [] filter_note.Welcome
    ∷ reply (filter.Opens 1 0) [] (via One (Scan (id 1) 1 5 3) ∷ []) (filter_note.Submitted 8)
    ∷ reply (filter.Disconnects One) [] (via Two (Scan (id 2) 1 5 3) ∷ []) filter_note.Quiet
    ∷ response Two (service.Receives (via Two (Scan (id 2) 1 5 3))) (Read (id 2) 0 3 ∷ []) []
    ∷ reply (filter.Receives (via Two (Read (id 2) 0 3))) [] (via Two (Chunk (id 2) 0 (codes "ABC")) ∷ []) filter_note.Quiet
    ∷ response Two (service.Receives (via Two (Chunk (id 2) 0 (codes "ABC")))) [] (some_work ∷ [])
    ∷ response Two (service.Finishes 1 (record { version = 3; length = 3; fed = 3; node = 0; hit = None }) None)
    (Reply (id 2) (Judged 3 Clean) ∷ []) []
    ∷ reply (filter.Receives (via Two (Reply (id 2) (Judged 3 Clean)))) (Granted 8 0 1 5 3 ∷ []) [] filter_note.Quiet
    ∷ []

-- there are legal audits
abbrev pub CanBeLegal : Type 0
CanBeLegal = AreLegal FailClosed greatest_values told (file_of_abc ∷ []) volume_of_abc no_sets some_audits

-- all of it
pub record AreExamples : Type 0 where
  pub held_after : HeldAfter
  pub asked_where : AskedWhere
  pub path_begins : PathBegins
  pub finishing : Finishing
  pub finished_both : FinishedBoth
  pub finished_lost : FinishedLost
  pub can : CanFinish (led on_both)
  pub can_be_legal : CanBeLegal
