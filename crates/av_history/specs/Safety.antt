-- The protocol's safety, beyond the headline: what jobs judge, at which floor opens are granted, and why others are not.
use Rattle.std.specs.Prelude.{◌≡◌, ◌≢◌, ℕ, ◌+◌, ◌==◌, ◌<◌, ◌≤◌, List, [], ◌∷◌, ◌++◌, length, drop, Option, Some, None, All, if◌then◌else◌}
use Rattle.std.specs.Option.{option_map}
use Rattle.std.specs.List.{AllByRecursion}
use Rattle.av_base.specs.Among.{Among}
use Rattle.av_base.specs.declared.cause.Cause.{Cause}
use Rattle.av_base.specs.declared.cause.Cause.TheVariants.{NoStream, NotConnected, Busy, TimedOut, PortDisconnected, ScanFailed, Unsettled, StreamRemoved, FilterRestart}
use Rattle.av_base.specs.declared.cause.Cause.TheVariants as cause
use Rattle.av_base.specs.declared.message_id.MessageId.{MessageId}
use Rattle.av_base.specs.Port.{same_port}
use Rattle.av_base.specs.declared.port.Port.{Port}
use Rattle.av_base.specs.declared.verdict.Verdict.{Verdict}
use Rattle.av_base.specs.declared.verdict.Verdict.TheVariants.{Infected}
use Rattle.av_filter.specs.Conduct.{FilterEvent, Opens, Changes, Receives, TimesOut, Disconnects, Restarts, again_each}
use Rattle.av_filter.specs.Rows.{Rewrites, without}
use Rattle.av_filter_table.specs.Ports.{least_port, without_port}
use Rattle.av_filter_table.specs.Table.{Table, on_port, question_of, question_on}
use Rattle.av_filter_table.specs.declared.pended.Pended.{Pended}
use Rattle.av_filter_table.specs.declared.question.Question.{Question}
use Rattle.av_frame.specs.declared.cause.FailCause.{FailCause}
use Rattle.av_frame.specs.Message.{Letter, via}
use Rattle.av_frame.specs.declared.message.Body.TheVariants.{Reply}
use Rattle.av_frame.specs.declared.outcome.Outcome.{Outcome}
use Rattle.av_frame.specs.declared.outcome.Outcome.TheVariants.{Judged, Failed}
use Rattle.av_match.specs.Scanning.{ScanState, scanner, scan_of}
use Rattle.av_pend.specs.declared.answer.Answer.{Answer}
use Rattle.av_pend.specs.declared.answer.Answer.TheVariants.{Granted, Unscanned, Denied}
use Rattle.av_service.specs.declared.job.Job.{Job}
use Rattle.av_service.specs.declared.job.Loan.{Loan}
use Rattle.av_service.specs.Work.{WorkState}
use Rattle.av_sigset.specs.Publication.{published_as}
use Rattle.av_sigset.specs.declared.signature.Pattern.{Pattern}
use Rattle.av_store.specs.Files.{Change}
use Rattle.av_store.specs.Files as change
use Rattle.av_store.specs.History.{content, generation_of}
use Rattle.av_store.specs.Rows.{stream_at}
use Rattle.av_store.specs.Store.{Store, greatest}
use Rattle.av_history.specs.Cores.{IsFilterEvent}
use Rattle.av_history.specs.Held.{asked, submitted}
use Rattle.av_history.specs.Past.{Past, number_then, past, IsVerdictOf}
use Rattle.av_history.specs.World.{WorldState, desk_of}
use Rattle.av_history.specs.declared.event.Event.{Event}
use Rattle.av_history.specs.declared.event.Event.TheVariants.{Open}

-- a list begins another
abbrev pub IsFront : List ℕ → List ℕ → Type 0
IsFront xs ys = (rest : List ℕ) × (xs ++ rest ≡ ys)

-- a work that was lent under the loan's lease goes on with this scan under this version, by bytes that come next
abbrev pub IsWorkOf : ℕ → ScanState → List ℕ → Loan → WorkState → Type 0
IsWorkOf version scan rest l k =
    k.lease ≡ l.lease → (k.scan ≡ scan) × (k.version ≡ version) × (length k.chunk ≡ l.count) × IsFront k.chunk rest

-- what is lent of a job has its lease given, its bytes left to scan, and a work of its scan and version
abbrev pub LoanFits : List WorkState → ℕ → ℕ → ScanState → List ℕ → Option Loan → Type 0
LoanFits works last version scan rest None = Unit {0}
LoanFits works last version scan rest (Some l) =
    (l.lease ≤ last) × (l.count ≤ length rest) × AllByRecursion (IsWorkOf version scan rest l) works

-- the works that did not come back, each with the port that lent it
abbrev pub works_out : List (Option (Port × WorkState)) → List (Port × WorkState)
works_out [] = []
works_out (None ∷ works) = works_out works
works_out (Some k ∷ works) = k ∷ works_out works

-- those that the service of a port lent
abbrev pub works_of : Port → List (Option (Port × WorkState)) → List WorkState
works_of port [] = []
works_of port (None ∷ works) = works_of port works
works_of port (Some k ∷ works) = if same_port k.0 port then k.1 ∷ works_of port works else works_of port works

-- a job has judged a beginning of the content that its scan was asked about on its own port, as many bytes as its offset, and
-- keeps their scan under the set of this version; what is lent goes on from there
pub record JudgesItsContent (p : Past) (down : List Letter) (port : Port) (works : List WorkState) (last version : ℕ)
    (j : Job) : Type 0 where
  pub told : asked down j.id ≡ Some (record { port = port; stream = j.stream; generation = j.generation; length = j.length })
  pub bytes : List ℕ
  pub held : content p.streams j.stream j.generation ≡ Some bytes
  pub size : length bytes ≡ j.length
  pub judged : List ℕ
  pub rest : List ℕ
  pub front : judged ++ rest ≡ bytes
  pub count : length judged ≡ j.offset
  pub patterns : List Pattern
  pub published : published_as p.sets version ≡ Some patterns
  pub scanned : j.scan ≡ scan_of scanner version j.length patterns judged
  pub loan : LoanFits works last version j.scan rest j.loan

-- a job of the service of a port judges the content that it was asked about
abbrev pub JudgesRightly : WorldState → Port → Job → Type 0
JudgesRightly w port j =
    let d = desk_of w port in JudgesItsContent (past w.history) w.down port (works_of port w.works) d.last_lease d.version j

-- all jobs of both do
abbrev pub JobsJudgeRightly : WorldState → Type 0
JobsJudgeRightly w = (port : Port) → All (JudgesRightly w port) (desk_of w port).jobs

-- the open waits for the question of this id
pub record Waits (t : Table) (id : MessageId) (n : ℕ) : Type 0 where
  pub waiting : Pended
  pub pended : Among waiting t.pended
  pub number : waiting.held.open_id ≡ n
  pub question : waiting.question ≡ id

-- the number of an open that comes now
abbrev pub next_open : Store → ℕ
next_open v = v.opens + 1

-- a lost port's questions go to another
abbrev pub Moves : Table → Port → Type 0
Moves t port = (other : Port) × (least_port (without_port port t.connected) ≡ Some other)

-- why an event at this table and volume leaves an open denied or unscanned: at an open the one that it submits, else one
-- that waits; p: the past after the event
pub data Explains (p : Past) (t : Table) (v : Store) : FilterEvent → ℕ → Cause → Type 0 where
  no_stream : (s least : ℕ) → stream_at s v.streams ≡ None → Explains p t v (Opens s least) (next_open v) NoStream
  judged_now : (s least version index end_at : ℕ) → least ≤ version
      → IsVerdictOf p s (generation_of p.streams s) version (Infected index end_at)
      → Explains p t v (Opens s least) (next_open v) cause.Infected
  judged_late : (port : Port) (id : MessageId) (o : Outcome) (q : Question) (n version index end_at : ℕ)
      → question_on port id t.questions ≡ Some q
      → (w : Waits t q.id n) → w.waiting.held.least ≤ version
      → IsVerdictOf p q.stream (generation_of p.streams q.stream) version (Infected index end_at)
      → Explains p t v (Receives (via port (Reply id o))) n cause.Infected
  not_connected : (s least : ℕ) → least_port t.connected ≡ None → Explains p t v (Opens s least) (next_open v) NotConnected
  opens_full : (s least : ℕ) → t.limits.pended ≤ length t.pended → Explains p t v (Opens s least) (next_open v) Busy
  questions_full : (s least : ℕ) → t.limits.questions ≤ length t.questions → Explains p t v (Opens s least) (next_open v) Busy
  no_number : (s least : ℕ) → greatest ≤ t.sequence → Explains p t v (Opens s least) (next_open v) Busy
  no_number_changed : (c : Change) (s : ℕ) (q : Question) (n : ℕ) → Rewrites s c → question_of s t.questions ≡ Some q
      → Waits t q.id n → greatest ≤ t.sequence → Explains p t v (Changes c) n Busy
  no_number_stale : (port : Port) (id : MessageId) (q : Question) (version : ℕ) (r : Verdict) (n : ℕ)
      → question_on port id t.questions ≡ Some q → version < t.floor → Waits t q.id n → greatest ≤ t.sequence
      → Explains p t v (Receives (via port (Reply id (Judged version r)))) n Busy
  no_number_lost : (port : Port) (front back : List Question) (q : Question) (n : ℕ) → Moves t port
      → on_port port t.questions ≡ front ++ q ∷ back → Waits t q.id n
      → greatest ≤ (again_each (without t port) v front).table.sequence → Explains p t v (Disconnects port) n Busy
  timed_out : (seq n : ℕ) → Waits t (record { boot = t.boot; seq = seq }) n → Explains p t v (TimesOut seq) n TimedOut
  disconnected : (port : Port) (id : MessageId) (n : ℕ) → least_port (without_port port t.connected) ≡ None → Waits t id n
      → Explains p t v (Disconnects port) n PortDisconnected
  failed : (port : Port) (id : MessageId) (q : Question) (why : FailCause) (n : ℕ) → question_on port id t.questions ≡ Some q
      → Waits t q.id n → Explains p t v (Receives (via port (Reply id (Failed why)))) n ScanFailed
  unsettled_changed : (c : Change) (s : ℕ) (q : Question) (n : ℕ) → Rewrites s c → question_of s t.questions ≡ Some q
      → (w : Waits t q.id n) → 8 ≤ w.waiting.held.rescans → Explains p t v (Changes c) n Unsettled
  unsettled_stale : (port : Port) (id : MessageId) (q : Question) (version : ℕ) (r : Verdict) (n : ℕ)
      → question_on port id t.questions ≡ Some q → version < t.floor → (w : Waits t q.id n) → 8 ≤ w.waiting.held.rescans
      → Explains p t v (Receives (via port (Reply id (Judged version r)))) n Unsettled
  unsettled_lost : (port : Port) (q : Question) (n : ℕ) → Moves t port → Among q (on_port port t.questions)
      → (w : Waits t q.id n) → 8 ≤ w.waiting.held.rescans → Explains p t v (Disconnects port) n Unsettled
  removed : (s : ℕ) (q : Question) (n : ℕ) → question_of s t.questions ≡ Some q → Waits t q.id n
      → Explains p t v (Changes (change.Remove s)) n StreamRemoved
  restarted : (id : MessageId) (n : ℕ) → Waits t id n → Explains p t v Restarts n FilterRestart

-- what an open asked for: its stream, and the least version of its verdict
pub record Submission : Type 0 where
  pub stream : ℕ
  pub least : ℕ

-- what the open of this number asked for when it was submitted; the newest event comes first
unfoldable pub submission : List Event → ℕ → Option Submission
submission [] n = None
submission (Open name least ∷ es) n =
    if n == submitted es + 1 then Some (record { stream = number_then (past es) name; least = least }) else submission es n
submission (_ ∷ es) n = submission es n

-- the causes under which fail-open mode lets an open through
abbrev pub IsByMode : Cause → Type 0
IsByMode c = (c ≢ NoStream) × (c ≢ cause.Infected) × (c ≢ StreamRemoved)

-- a signature occurs in the present content of the stream that the open of this number asked for, under a version that is not below the
-- least that it asked for
pub record IsFoundFor (wanted : ℕ → Option Submission) (p : Past) (n : ℕ) : Type 0 where
  pub asked : Submission
  pub wanted_is : wanted n ≡ Some asked
  pub version : ℕ
  pub index : ℕ
  pub end_at : ℕ
  pub least : asked.least ≤ version
  pub found : IsVerdictOf p asked.stream (generation_of p.streams asked.stream) version (Infected index end_at)

-- so it is of an open that is denied for that
abbrev pub IsRightFor : (ℕ → Option Submission) → Past → ℕ → Cause → Type 0
IsRightFor wanted p n cause.Infected = IsFoundFor wanted p n
IsRightFor wanted p n _ = Unit {0}

-- a grant is at the floor, not below the least version that its open asked for, and of the stream that it asked for; every
-- other answer is explained, one that lets an open through is of its stream too, and a denial for a signature is right for its open
abbrev pub IsExplained : (ℕ → Option Submission) → Past → Table → Store → FilterEvent → ℕ → Answer → Type 0
IsExplained wanted p t v f floor (Granted n least s g version) =
    (wanted n ≡ Some (record { stream = s; least = least })) × (least ≤ version) × (version ≡ floor)
IsExplained wanted p t v f floor (Unscanned n s g c) =
    (option_map (λ o. o.stream) (wanted n) ≡ Some s) × IsByMode c × Explains p t v f n c
IsExplained wanted p t v f floor (Denied n c) = Explains p t v f n c × IsRightFor wanted p n c

-- so is each answer that an event of the world gave
abbrev pub AnswersExplained : WorldState → Event → WorldState → Type 0
AnswersExplained w e w' =
    All (λ a. (f : FilterEvent)
    × IsFilterEvent w e f
    × IsExplained (submission w'.history) (past w'.history) w.table w.volume f w'.table.floor a.answer)
    (drop (length w.answers) w'.answers)
