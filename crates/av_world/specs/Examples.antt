-- Worked scripts, and what each command of them says.
use Rattle.std.specs.Prelude.{◌≡◌, ℕ, true, None, List, [], ◌∷◌, ◌++◌, length, drop, map, Ok, Err}
use Rattle.av_base.specs.Limits.{greatest_values}
use Rattle.av_base.specs.declared.cause.Cause.TheVariants.{NoStream, Busy, NotConnected, TimedOut, FilterRestart, PortDisconnected, ScanFailed, Unsettled, StreamRemoved}
use Rattle.av_base.specs.declared.cause.Cause.TheVariants as cause
use Rattle.av_base.specs.declared.limits.LimitValues.{LimitValues}
use Rattle.av_base.specs.declared.message_id.MessageId.{MessageId}
use Rattle.av_base.specs.declared.mode.Mode.{Mode}
use Rattle.av_base.specs.declared.mode.Mode.TheVariants.{FailClosed, FailOpen}
use Rattle.av_base.specs.declared.port.Port.{Port}
use Rattle.av_base.specs.declared.port.Port.TheVariants.{One}
use Rattle.av_base.specs.declared.verdict.Verdict.TheVariants.{Clean, Infected}
use Rattle.av_cache.specs.declared.entry.Entry.{Entry}
use Rattle.av_filter.specs.declared.note.Note.TheVariants as filter_note
use Rattle.av_frame.specs.declared.cause.FailCause.TheVariants.{JobsFull}
use Rattle.av_frame.specs.declared.cause.NoChunkCause.TheVariants.{NoQuestion}
use Rattle.av_frame.specs.Message.{Letter, via}
use Rattle.av_frame.specs.declared.message.Body.TheVariants.{Scan, Chunk, NoChunk, Abort, Hello, Read, Reply, Updated}
use Rattle.av_frame.specs.declared.message.Body.{Body}
use Rattle.av_frame.specs.declared.outcome.Outcome.{Outcome}
use Rattle.av_frame.specs.declared.outcome.Outcome.TheVariants.{Judged, Failed}
use Rattle.av_pend.specs.declared.answer.Answer.{Answer}
use Rattle.av_pend.specs.declared.answer.Answer.TheVariants.{Granted, Unscanned, Denied}
use Rattle.av_service.specs.Audit as audit
use Rattle.av_service.specs.declared.note.ServiceNote.TheVariants as service_note
use Rattle.av_sigset.specs.Publication.{Publication}
use Rattle.av_sigset.specs.Set.{widest}
use Rattle.av_sigset.specs.declared.signature.Pattern.{Pattern}
use Rattle.av_filter.specs.Conduct.{FilterEvent}
use Rattle.av_filter.specs.Conduct as filter
use Rattle.av_filter.specs.declared.note.Note as filter_notes
use Rattle.av_match.specs.Scanning.{begin}
use Rattle.av_service.specs.Conduct.{ServiceEvent}
use Rattle.av_service.specs.Conduct as service
use Rattle.av_service.specs.Work.{WorkState}
use Rattle.av_store.specs.Files.{File}
use Rattle.av_store.specs.Store.{Store}
use Rattle.av_history.specs.Audits.{AreLegal, OfFilter, OfService, SideEntry}
use Rattle.av_history.specs.Held.{held}
use Rattle.av_world.specs.Path.{IsReady}
use Rattle.av_history.specs.Scene.{Started}
use Rattle.av_history.specs.World.{WorldState, step_of, after, start}
use Rattle.av_history.specs.World as world
use Rattle.av_history.specs.declared.event.Event.{Event}
use Rattle.av_history.specs.declared.event.Event.TheVariants.{Publish, Create, Write, Remove, Open, Cleanup, Down, Up, Run, Timeout, Connect, DisconnectFilter, DisconnectService, RestartFilter, RestartService}
use Rattle.av_history.specs.declared.fault.StepFault.{StepFault}
use Rattle.av_history.specs.declared.fault.StepFault.TheVariants.{NoSuchName, NoSuchWork, NoSuchFrame}
use Rattle.av_history.specs.declared.report.EventNote.{EventNote}
use Rattle.av_history.specs.declared.report.EventNote.TheVariants.{Filter, Service}

-- a note of either side
pub data Word : Type 0 where
  Quiet Welcome NoWaiter Ignored Repeat Orphan AbsentStream WrongVolume Connected StaleVersion : Word
  Submitted : (open_id : ℕ) → Word

-- the word of a note
abbrev pub word_of : EventNote → Word
word_of (Filter filter_note.Quiet) = Quiet
word_of (Filter (filter_note.Submitted n)) = Submitted n
word_of (Filter filter_note.Welcome) = Welcome
word_of (Filter filter_note.NoWaiter) = NoWaiter
word_of (Filter filter_note.Ignored) = Ignored
word_of (Filter filter_note.NoStream) = AbsentStream
word_of (Filter filter_note.WrongVolume) = WrongVolume
word_of (Filter filter_note.Connected) = Connected
word_of (Filter filter_note.OldVersion) = StaleVersion
word_of (Service service_note.Quiet) = Quiet
word_of (Service service_note.Repeat) = Repeat
word_of (Service service_note.Ignored) = Ignored
word_of (Service service_note.Orphan) = Orphan

-- what a command says: its answers, the messages down and up, and its note; or why it is refused
pub data Said : Type 0 where
  Gives : (answers : List Answer) (down up : List Letter) (note : Word) → Said
  Not : (why : StepFault) → Said

-- the same, of messages of these fields at the first port
abbrev pub Told : List Answer → List Body → List Body → Word → Said
Told answers down up note = Gives answers (map (via One) down) (map (via One) up) note

-- what an outcome adds to the lists of a world, or why there is none
abbrev pub said_by : WorldState → world.Outcome → Said
said_by w (Err why) = Not why
said_by w (Ok p) =
    Gives (map (λ a. a.answer) (drop (length w.answers) p.1.answers)) (drop (length w.down) p.1.down) (drop (length w.up) p.1.up)
    (word_of p.0.note)

-- what each of these events says, one after the other
unfoldable pub says : List Event → WorldState → List Said
says [] w = []
says (e ∷ es) w = said_by w (step_of w e) ∷ says es (after w e)

-- all events in order
unfoldable pub run : List Event → WorldState → WorldState
run [] w = w
run (e ∷ es) w = run es (after w e)

-- a name
abbrev pub a : List ℕ
a = 97 ∷ []

-- another name
abbrev pub b : List ℕ
b = 98 ∷ []

-- the content "ABC"
abbrev pub abc : List ℕ
abc = 0x41 ∷ 0x42 ∷ 0x43 ∷ []

-- a pattern of these bytes
abbrev pub pattern_of : List ℕ → Pattern
pattern_of bytes = record { bytes = bytes; span = widest }

-- a set of one pattern, "XX"
abbrev pub xx : List Pattern
xx = pattern_of (0x58 ∷ 0x58 ∷ []) ∷ []

-- a stream of three bytes, a set that isn't in it, and a service that said hello
abbrev pub prepared : List Event
prepared = Publish 1 xx ∷ Create a ∷ Write a 0 abc ∷ Connect One ∷ Up 1 ∷ []

-- and an open, up to the reply, which hasn't come
abbrev pub scanned : List Event
scanned = prepared ++ Open a 0 ∷ Down 1 ∷ Up 2 ∷ Down 2 ∷ Run 1 ∷ []

-- the id of a question, by its boot and sequence
abbrev pub id : ℕ → ℕ → MessageId
id b q = record { boot = b; seq = q }

-- nothing was said
abbrev pub quiet : Said
quiet = Told [] [] [] Quiet

-- nothing but a note
abbrev pub notes : Word → Said
notes n = Told [] [] [] n

-- the verdict clean under a version
abbrev pub clean : ℕ → Outcome
clean v = Judged v Clean

-- what these events say behind others, in a world of this mode with the greatest limits
abbrev pub saying : List Event → Mode → List Event → List Said
saying before mode es = says es (run before (start 1 mode greatest_values))

-- the whole path of one open
abbrev pub WholePath : Type 0
WholePath =
    saying [] FailClosed scanned
    ≡ quiet
    ∷ quiet
    ∷ quiet
    ∷ Told [] [] (Hello 1 1 ∷ []) Quiet
    ∷ notes Welcome
    ∷ Told [] (Scan (id 1 1) 1 2 3 ∷ []) [] (Submitted 1)
    ∷ Told [] [] (Read (id 1 1) 0 3 ∷ []) Quiet
    ∷ Told [] (Chunk (id 1 1) 0 abc ∷ []) [] Quiet
    ∷ quiet
    ∷ Told [] [] (Reply (id 1 1) (clean 1) ∷ []) Quiet
    ∷ []

-- the reply comes, and a second open is answered by the context
abbrev pub GrantedTwice : Type 0
GrantedTwice =
    saying scanned FailClosed (Up 3 ∷ Open a 0 ∷ [])
    ≡ Told (Granted 1 0 1 2 1 ∷ []) [] [] Quiet ∷ Told (Granted 2 0 1 2 1 ∷ []) [] [] (Submitted 2) ∷ []

-- a write while the scan runs: a new question, and the old reply finds no waiter
abbrev pub WrittenMeanwhile : Type 0
WrittenMeanwhile =
    saying scanned FailClosed (Write a 3 (0x44 ∷ []) ∷ Up 3 ∷ Down 4 ∷ [])
    ≡ Told [] (Abort (id 1 1) ∷ Scan (id 1 2) 1 3 4 ∷ []) [] Quiet
    ∷ notes NoWaiter
    ∷ Told [] [] (Read (id 1 2) 0 4 ∷ []) Quiet
    ∷ []

-- a timeout is no verdict
abbrev pub TimedOutClosed : Type 0
TimedOutClosed =
    saying scanned FailClosed (Timeout 1 ∷ Up 3 ∷ [])
    ≡ Told (Denied 1 TimedOut ∷ []) (Abort (id 1 1) ∷ []) [] Quiet ∷ notes NoWaiter ∷ []

-- in fail-open mode a timeout lets the open through, and the late reply finds no question
abbrev pub TimedOutOpen : Type 0
TimedOutOpen =
    saying scanned FailOpen (Timeout 1 ∷ Up 3 ∷ [])
    ≡ Told (Unscanned 1 1 2 TimedOut ∷ []) (Abort (id 1 1) ∷ []) [] Quiet ∷ notes NoWaiter ∷ []

-- the filter restarts: a reply to the old boot finds no waiter
abbrev pub Restarted : Type 0
Restarted =
    saying scanned FailClosed (RestartFilter ∷ DisconnectService One ∷ Connect One ∷ Up 4 ∷ Open a 0 ∷ Up 3 ∷ Down 3 ∷ Up 5 ∷ [])
    ≡ Told (Denied 1 FilterRestart ∷ []) [] [] Quiet
    ∷ quiet
    ∷ Told [] [] (Hello 1 1 ∷ []) Quiet
    ∷ notes Welcome
    ∷ Told [] (Scan (id 2 1) 1 2 3 ∷ []) [] (Submitted 2)
    ∷ notes NoWaiter
    ∷ Told [] [] (Reply (id 2 1) (clean 1) ∷ []) Quiet
    ∷ Told (Granted 2 0 1 2 1 ∷ []) [] [] Quiet
    ∷ []

-- a publication makes an older reply stale
abbrev pub Stale : Type 0
Stale =
    saying scanned FailClosed (Publish 2 xx ∷ Up 4 ∷ Up 3 ∷ Down 3 ∷ Up 5 ∷ Down 4 ∷ Run 2 ∷ Up 6 ∷ [])
    ≡ Told [] [] (Updated 2 ∷ []) Quiet
    ∷ quiet
    ∷ Told [] (Scan (id 1 2) 1 2 3 ∷ []) [] Quiet
    ∷ Told [] [] (Read (id 1 2) 0 3 ∷ []) Quiet
    ∷ Told [] (Chunk (id 1 2) 0 abc ∷ []) [] Quiet
    ∷ quiet
    ∷ Told [] [] (Reply (id 1 2) (clean 2) ∷ []) Quiet
    ∷ Told (Granted 1 0 1 2 2 ∷ []) [] [] Quiet
    ∷ []

-- a publication while a work is out: the work is an orphan, and the scan begins afresh
abbrev pub Orphaned : Type 0
Orphaned =
    saying (prepared ++ Open a 0 ∷ Down 1 ∷ Up 2 ∷ Down 2 ∷ []) FailClosed
    (Publish 2 (pattern_of (0x41 ∷ 0x42 ∷ []) ∷ []) ∷ Run 1 ∷ Up 4 ∷ Down 3 ∷ Run 2 ∷ Up 5 ∷ Run 1 ∷ [])
    ≡ Told [] [] (Updated 2 ∷ Read (id 1 1) 0 3 ∷ []) Quiet
    ∷ notes Orphan
    ∷ Told [] (Chunk (id 1 1) 0 abc ∷ []) [] Quiet
    ∷ quiet
    ∷ Told [] [] (Reply (id 1 1) (Judged 2 (Infected 0 2)) ∷ []) Quiet
    ∷ Told (Denied 1 cause.Infected ∷ []) [] [] Quiet
    ∷ Not NoSuchWork
    ∷ []

-- the same, where the scan that began afresh has lent again when the old work comes back: it isn't taken for the new one
abbrev pub OrphanedLater : Type 0
OrphanedLater =
    saying (prepared ++ Open a 0 ∷ Down 1 ∷ Up 2 ∷ Down 2 ∷ []) FailClosed
    (Publish 2 (pattern_of (0x41 ∷ 0x42 ∷ []) ∷ []) ∷ Up 3 ∷ Up 4 ∷ Down 3 ∷ Run 1 ∷ Run 2 ∷ Up 5 ∷ [])
    ≡ Told [] [] (Updated 2 ∷ Read (id 1 1) 0 3 ∷ []) Quiet
    ∷ quiet
    ∷ Told [] (Chunk (id 1 1) 0 abc ∷ []) [] Quiet
    ∷ quiet
    ∷ notes Orphan
    ∷ Told [] [] (Reply (id 1 1) (Judged 2 (Infected 0 2)) ∷ []) Quiet
    ∷ Told (Denied 1 cause.Infected ∷ []) [] [] Quiet
    ∷ []

-- an abort that overtakes its scan, and a scan that comes twice
abbrev pub Overtaken : Type 0
Overtaken =
    saying prepared FailClosed
    (Open a 0 ∷ Write a 3 (0x44 ∷ []) ∷ Down 2 ∷ Down 1 ∷ Up 2 ∷ Down 4 ∷ Down 1 ∷ Down 1 ∷ Down 9 ∷ [])
    ≡ Told [] (Scan (id 1 1) 1 2 3 ∷ []) [] (Submitted 1)
    ∷ Told [] (Abort (id 1 1) ∷ Scan (id 1 2) 1 3 4 ∷ []) [] Quiet
    ∷ notes Ignored
    ∷ Told [] [] (Read (id 1 1) 0 3 ∷ []) Quiet
    ∷ Told [] (NoChunk (id 1 1) 0 NoQuestion ∷ []) [] Quiet
    ∷ quiet
    ∷ Told [] [] (Read (id 1 1) 0 3 ∷ []) Quiet
    ∷ notes Repeat
    ∷ Not NoSuchFrame
    ∷ []

-- after the grant one verdict stands in the context, the filter's cache, that of service One and the reply
abbrev pub HeldAfter : Type 0
HeldAfter =
    let e : Entry = record { stream = 1; generation = 2; version = 1; verdict = Clean } in
    held (run (scanned ++ Up 3 ∷ []) (start 1 FailClosed greatest_values)) ≡ e ∷ e ∷ e ∷ e ∷ []

-- a limit changed
abbrev pub saying_with : LimitValues → List Event → List Event → List Said
saying_with limits before es = says es (run before (start 1 FailClosed limits))

-- a reply that comes twice
abbrev pub RepliedTwice : Type 0
RepliedTwice = saying scanned FailClosed (Up 3 ∷ Up 3 ∷ []) ≡ Told (Granted 1 0 1 2 1 ∷ []) [] [] Quiet ∷ notes NoWaiter ∷ []

-- chunks of one byte
abbrev pub ByteByByte : Type 0
ByteByByte =
    saying_with (record greatest_values { chunk = 1 })
    (Publish 1 (pattern_of abc ∷ []) ∷ Create a ∷ Write a 0 abc ∷ Connect One ∷ Up 1 ∷ [])
    (Open a 0 ∷ Down 1 ∷ Up 2 ∷ Down 2 ∷ Run 1 ∷ Up 3 ∷ Down 3 ∷ Run 2 ∷ Up 4 ∷ Down 4 ∷ Run 3 ∷ Up 5 ∷ [])
    ≡ Told [] (Scan (id 1 1) 1 2 3 ∷ []) [] (Submitted 1)
    ∷ Told [] [] (Read (id 1 1) 0 1 ∷ []) Quiet
    ∷ Told [] (Chunk (id 1 1) 0 (0x41 ∷ []) ∷ []) [] Quiet
    ∷ quiet
    ∷ Told [] [] (Read (id 1 1) 1 1 ∷ []) Quiet
    ∷ Told [] (Chunk (id 1 1) 1 (0x42 ∷ []) ∷ []) [] Quiet
    ∷ quiet
    ∷ Told [] [] (Read (id 1 1) 2 1 ∷ []) Quiet
    ∷ Told [] (Chunk (id 1 1) 2 (0x43 ∷ []) ∷ []) [] Quiet
    ∷ quiet
    ∷ Told [] [] (Reply (id 1 1) (Judged 1 (Infected 0 3)) ∷ []) Quiet
    ∷ Told (Denied 1 cause.Infected ∷ []) [] [] Quiet
    ∷ []

-- "AB", where it begins at one of these places
abbrev pub ab_from : ℕ → ℕ → Pattern
ab_from low high = record { bytes = 0x41 ∷ 0x42 ∷ []; span = record { low = low; high = high } }

-- the last chunk of "ABAB" in chunks of one byte, under this signature: the reply, and what becomes of the open
abbrev pub ended_under : Pattern → List Said
ended_under p =
    saying_with (record greatest_values { chunk = 1 })
    (Publish 1 (p ∷ []) ∷ Create a ∷ Write a 0 (0x41 ∷ 0x42 ∷ 0x41 ∷ 0x42 ∷ []) ∷ Connect One ∷ Up 1 ∷ Open a 0
    ∷ Down 1 ∷ Up 2 ∷ Down 2 ∷ Run 1 ∷ Up 3 ∷ Down 3 ∷ Run 2 ∷ Up 4 ∷ Down 4 ∷ Run 3 ∷ Up 5 ∷ Down 5 ∷ [])
    (Run 4 ∷ Up 6 ∷ [])

-- it begins at places 0 and 2, and place 1 is between them
abbrev pub PassedOutOfRange : Type 0
PassedOutOfRange =
    ended_under (ab_from 1 1)
    ≡ Told [] [] (Reply (id 1 1) (Judged 1 Clean) ∷ []) Quiet ∷ Told (Granted 1 0 1 2 1 ∷ []) [] [] Quiet ∷ []

-- of the two the second is in this range
abbrev pub FoundInRange : Type 0
FoundInRange =
    ended_under (ab_from 2 9)
    ≡ Told [] [] (Reply (id 1 1) (Judged 1 (Infected 0 4)) ∷ []) Quiet ∷ Told (Denied 1 cause.Infected ∷ []) [] [] Quiet ∷ []

-- a publication in the midst of a scan: what the scan kept under the old set is gone with it
abbrev pub ScannedAfresh : Type 0
ScannedAfresh =
    saying_with (record greatest_values { chunk = 1 })
    (Publish 1 xx ∷ Create a ∷ Write a 0 abc ∷ Connect One ∷ Up 1 ∷ Open a 0 ∷ Down 1 ∷ Up 2 ∷ Down 2 ∷ Run 1 ∷ [])
    (Publish 2 (pattern_of (0x41 ∷ 0x42 ∷ []) ∷ []) ∷ Up 5 ∷ Down 3 ∷ Run 2 ∷ Up 6 ∷ Down 4 ∷ Run 3 ∷ Up 7 ∷ [])
    ≡ Told [] [] (Updated 2 ∷ Read (id 1 1) 0 1 ∷ []) Quiet
    ∷ Told [] (Chunk (id 1 1) 0 (0x41 ∷ []) ∷ []) [] Quiet
    ∷ quiet
    ∷ Told [] [] (Read (id 1 1) 1 1 ∷ []) Quiet
    ∷ Told [] (Chunk (id 1 1) 1 (0x42 ∷ []) ∷ []) [] Quiet
    ∷ quiet
    ∷ Told [] [] (Reply (id 1 1) (Judged 2 (Infected 0 2)) ∷ []) Quiet
    ∷ Told (Denied 1 cause.Infected ∷ []) [] [] Quiet
    ∷ []

-- the ninth write finds no rescan left
abbrev pub rewrite : Event
rewrite = Write a 0 (0x41 ∷ [])

-- writes spend the rescans of an open, which is denied at the last
abbrev pub SpentByWrites : Type 0
SpentByWrites =
    saying (prepared ++ Open a 0 ∷ rewrite ∷ rewrite ∷ rewrite ∷ rewrite ∷ rewrite ∷ rewrite ∷ rewrite ∷ []) FailClosed
    (rewrite ∷ rewrite ∷ [])
    ≡ Told [] (Abort (id 1 8) ∷ Scan (id 1 9) 1 10 3 ∷ []) [] Quiet
    ∷ Told (Denied 1 Unsettled ∷ []) (Abort (id 1 9) ∷ []) [] Quiet ∷ []

-- the port is lost
abbrev pub PortLost : Type 0
PortLost =
    saying (prepared ++ Open a 0 ∷ []) FailClosed (DisconnectFilter One ∷ Open a 0 ∷ Open b 0 ∷ Write b 0 (0x41 ∷ []) ∷ [])
    ≡ Told (Denied 1 PortDisconnected ∷ []) [] [] Quiet
    ∷ Told (Denied 2 NotConnected ∷ []) [] [] (Submitted 2)
    ∷ Told (Denied 3 NoStream ∷ []) [] [] (Submitted 3) ∷ Not NoSuchName ∷ []

-- the stream is removed
abbrev pub RemovedMeanwhile : Type 0
RemovedMeanwhile =
    saying (prepared ++ Open a 0 ∷ []) FailClosed (Remove a ∷ [])
    ≡ Told (Denied 1 StreamRemoved ∷ []) (Abort (id 1 1) ∷ []) [] Quiet ∷ []

-- a scan at cleanup, and a limit of one pended open
abbrev pub CleanedUp : Type 0
CleanedUp =
    saying_with (record greatest_values { pended = 1 }) prepared (Cleanup a ∷ Cleanup a ∷ Open a 0 ∷ Open a 0 ∷ [])
    ≡ Told [] (Scan (id 1 1) 1 2 3 ∷ []) [] Quiet ∷ quiet ∷ Told [] [] [] (Submitted 1)
    ∷ Told (Denied 2 Busy ∷ []) [] [] (Submitted 2) ∷ []

-- a limit of one job
abbrev pub JobsAtLimit : Type 0
JobsAtLimit =
    saying_with (record greatest_values { jobs = 1 })
    (prepared ++ Create b ∷ Write b 0 (0x41 ∷ []) ∷ Open a 0 ∷ Open b 0 ∷ Down 1 ∷ []) (Down 2 ∷ Up 3 ∷ [])
    ≡ Told [] [] (Reply (id 1 2) (Failed JobsFull) ∷ []) Quiet ∷ Told (Denied 2 ScanFailed ∷ []) [] [] Quiet ∷ []

-- an open that asks for more than is published: the ninth stale reply spends it
abbrev pub stale_rounds : List Event
stale_rounds =
    Up 4 ∷ Down 4 ∷ Up 5 ∷ Down 5 ∷ Up 6 ∷ Down 6 ∷ Up 7 ∷ Down 7 ∷ Up 8 ∷ Down 8 ∷ Up 9 ∷ Down 9 ∷ Up 10 ∷ Down 10 ∷ []

-- replies under too old a version spend the rescans of an open, which is denied at the last
abbrev pub SpentByStaleReplies : Type 0
SpentByStaleReplies =
    saying (prepared ++ Open a 9 ∷ Down 1 ∷ Up 2 ∷ Down 2 ∷ Run 1 ∷ []) FailClosed (Up 3 ∷ Down 3 ∷ [])
    ++ saying (prepared ++ Open a 9 ∷ Down 1 ∷ Up 2 ∷ Down 2 ∷ Run 1 ∷ Up 3 ∷ Down 3 ∷ stale_rounds) FailClosed (Up 11 ∷ [])
    ≡ Told [] (Scan (id 1 2) 1 2 3 ∷ []) [] Quiet
    ∷ Told [] [] (Reply (id 1 2) (clean 1) ∷ []) Quiet
    ∷ Told (Denied 1 Unsettled ∷ []) [] [] Quiet ∷ []

-- another content is no hit of the cache, and a late hello doesn't lower the floor
abbrev pub NewContent : Type 0
NewContent =
    saying (scanned ++ Up 3 ∷ Open a 0 ∷ Write a 0 (0x58 ∷ 0x58 ∷ []) ∷ []) FailClosed (Open a 0 ∷ [])
    ≡ Told [] (Scan (id 1 2) 1 3 3 ∷ []) [] (Submitted 3) ∷ []

-- a Hello under an older version than the floor does not connect
abbrev pub LateHello : Type 0
LateHello = saying (prepared ++ Publish 2 xx ∷ Up 2 ∷ DisconnectFilter One ∷ []) FailClosed (Up 1 ∷ []) ≡ notes StaleVersion ∷ []

-- three opens on two streams are answered in the order of submission
abbrev pub InOrder : Type 0
InOrder =
    saying (prepared ++ Create b ∷ Open a 0 ∷ Open b 0 ∷ Open a 0 ∷ []) FailClosed (DisconnectFilter One ∷ [])
    ≡ Told (Denied 1 PortDisconnected ∷ Denied 2 PortDisconnected ∷ Denied 3 PortDisconnected ∷ []) [] [] Quiet ∷ []

-- the service restarts and says hello again
abbrev pub ServiceRestarted : Type 0
ServiceRestarted = saying scanned FailClosed (RestartService One ∷ Connect One ∷ []) ≡ quiet ∷ Told [] [] (Hello 1 1 ∷ []) Quiet ∷ []

-- what each of these further runs says
abbrev pub MoreScripts : Type 0
MoreScripts =
    record {
      orphaned_later : OrphanedLater;
      replied_twice : RepliedTwice;
      byte_by_byte : ByteByByte;
      passed_out_of_range : PassedOutOfRange;
      found_in_range : FoundInRange;
      scanned_afresh : ScannedAfresh;
      spent_by_writes : SpentByWrites;
      port_lost : PortLost;
      removed_meanwhile : RemovedMeanwhile;
      cleaned_up : CleanedUp;
      jobs_full : JobsAtLimit;
      spent_by_stale_replies : SpentByStaleReplies;
      new_content : NewContent;
      late_hello : LateHello;
      in_order : InOrder;
      service_restarted : ServiceRestarted;
    }

-- the premise of the whole path can be met
abbrev pub PathBegins : Type 0
PathBegins =
    IsReady (run (prepared ++ Open a 0 ∷ []) (start 1 FailClosed greatest_values))
    (record { id = id 1 1; port = One; stream = 1; generation = 2 }) 1

-- and a history of both sides can be legal
abbrev pub file_of_abc : File
file_of_abc = record { name = a; here = true; generation = 5; bytes = abc }

-- a volume with one file
abbrev pub volume_of_abc : Store
volume_of_abc =
    record {
      number = 1;
      boot = 1;
      opens = 7;
      last = 1;
      limits = greatest_values;
      streams = (1, record { name = a; generation = 5; bytes = abc }) ∷ [];
    }

-- an entry of the filter
abbrev pub reply : FilterEvent → List Answer → List Body → filter_notes.Note → SideEntry
reply f given ms n = OfFilter (record { event = f; answers = given; messages = map (via One) ms; note = n })

-- an entry of the service of port One
abbrev pub response : ServiceEvent → List Body → List WorkState → SideEntry
response e ms ks = OfService One (record { call = audit.By e; messages = map (via One) ms; works = ks; note = service_note.Quiet })

-- a lent work that was begun and not run
abbrev pub some_work : WorkState
some_work = record { lease = 1; id = id 1 1; version = 3; scan = begin 3 3; chunk = abc }

-- two audits, put together: version 3 is published, open 8 asks, its scan is judged, and it is granted
abbrev pub some_audits : List SideEntry
some_audits =
    OfService One (record { call = audit.Publishes 3 xx; messages = []; works = []; note = service_note.Quiet })
    ∷ response service.Connects (Hello 1 3 ∷ []) []
    ∷ reply (filter.Receives (via One (Hello 1 3))) [] [] filter_note.Welcome
    ∷ reply (filter.Opens 1 0) [] (Scan (id 1 1) 1 5 3 ∷ []) (filter_note.Submitted 8)
    ∷ response (service.Receives (via One (Scan (id 1 1) 1 5 3))) (Read (id 1 1) 0 3 ∷ []) []
    ∷ reply (filter.Receives (via One (Read (id 1 1) 0 3))) [] (Chunk (id 1 1) 0 abc ∷ []) filter_note.Quiet
    ∷ response (service.Receives (via One (Chunk (id 1 1) 0 abc))) [] (some_work ∷ [])
    ∷ response (service.Finishes 1 (record { version = 3; length = 3; fed = 3; node = 0; hit = None }) None)
    (Reply (id 1 1) (clean 3) ∷ []) []
    ∷ reply (filter.Receives (via One (Reply (id 1 1) (clean 3)))) (Granted 8 0 1 5 3 ∷ []) [] filter_note.Quiet
    ∷ []

-- both services are of this volume
abbrev pub told : Port → Started
told port = record { number = 1; limits = greatest_values }

-- both catalogues are empty at first
abbrev pub no_sets : Port → List Publication
no_sets port = []

-- there are legal audits
abbrev pub CanBeLegal : Type 0
CanBeLegal = AreLegal FailClosed greatest_values told (file_of_abc ∷ []) volume_of_abc no_sets some_audits

-- every script above, and both premises
pub record ComeTrue : Type 0 where
  pub whole_path : WholePath
  pub granted_twice : GrantedTwice
  pub written_meanwhile : WrittenMeanwhile
  pub timed_out_closed : TimedOutClosed
  pub timed_out_open : TimedOutOpen
  pub restarted : Restarted
  pub stale : Stale
  pub orphaned : Orphaned
  pub overtaken : Overtaken
  pub held_after : HeldAfter
  pub more_scripts : MoreScripts
  pub path_begins : PathBegins
  pub can_be_legal : CanBeLegal
