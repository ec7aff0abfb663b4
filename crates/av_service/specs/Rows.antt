-- The service's conduct by its rows: what an event does is one of these cases, and one that changes something says what was found then.
use Rattle.std.specs.Prelude.{ℕ, ◌≡◌, ◌+◌, ◌-◌, ◌==◌, ◌&&◌, true, false, nat_le, nat_lt, List, [], ◌∷◌, ◌++◌, length, map, Option, Some, None}
use Rattle.av_base.specs.Port.{same_port}
use Rattle.av_base.specs.declared.message_id.MessageId.{MessageId}
use Rattle.av_base.specs.declared.port.Port.{Port}
use Rattle.av_base.specs.declared.verdict.Verdict.{Verdict}
use Rattle.av_base.specs.declared.verdict.Verdict.TheVariants.{Clean}
use Rattle.av_cache.specs.Cache.{look, in_front}
use Rattle.av_cache.specs.declared.entry.Entry.{Entry}
use Rattle.av_frame.specs.Message.{Letter, via}
use Rattle.av_frame.specs.declared.cause.FailCause.TheVariants.{JobsFull, PastLength}
use Rattle.av_frame.specs.declared.message.Body.{Body}
use Rattle.av_frame.specs.declared.message.Body.TheVariants.{Scan, Chunk, NoChunk, Abort, Hello, Reply, Updated}
use Rattle.av_frame.specs.declared.outcome.Outcome.TheVariants.{Judged, Failed}
use Rattle.av_match.specs.Scanning.{ScanState}
use Rattle.av_service.specs.Conduct.{ServiceEvent, Connects, Disconnects, Receives, Finishes, Publishes, Restarts}
use Rattle.av_service.specs.Desk.{Desk, advanced, afresh, job_at, lent_under, loan_count, new_job, remember, with_job, without_job}
use Rattle.av_service.specs.Lending.{closes}
use Rattle.av_service.specs.Response.{Response, read_message, says, sends}
use Rattle.av_service.specs.Scanning.{awaits, lends, most_leases}
use Rattle.av_service.specs.declared.job.Job.{Job}
use Rattle.av_service.specs.declared.note.ServiceNote.TheVariants.{Quiet, Repeat, Ignored, Orphan}

-- a message of this port is heard: the service is connected, and the port its own
abbrev pub Hears : Desk → Port → Type 0
Hears d port = (d.connected && same_port port d.port) ≡ true

-- a message ends the job of this id
abbrev pub Drops : MessageId → Body → Type 0
Drops id (NoChunk i offset cause) = id ≡ i
Drops id (Abort i) = id ≡ i
Drops id _ = ⊥

-- a scan that is heard, where no job of its id runs: j is the job that it would be
pub data ScanRow (d : Desk) (j : Job) : Response → Type 0 where
  cached : (e : Entry) → look j.stream j.generation d.version d.cache ≡ Some e
      → ScanRow d j (sends (record d { cache = in_front e d.cache }) (Reply j.id (Judged d.version e.verdict) ∷ []))
  full : nat_le d.limits.jobs (length d.jobs) ≡ true → ScanRow d j (sends d (Reply j.id (Failed JobsFull) ∷ []))
  empty : (j.length == 0) ≡ true
      → ScanRow d j (sends (record d { cache = remember d j Clean }) (Reply j.id (Judged d.version Clean) ∷ []))
  begins : nat_le d.limits.jobs (length d.jobs) ≡ false → (j.length == 0) ≡ false
      → ScanRow d j (sends (record d { jobs = d.jobs ++ j ∷ [] }) (read_message d.limits j ∷ []))

-- an event
pub data Row (d : Desk) : ServiceEvent → Response → Type 0 where
  connects : Row d Connects (sends (record d { connected = true }) (Hello d.volume d.version ∷ []))
  ignored : (m : Letter) → Row d (Receives m) (says d Ignored)
  repeated : (m : Letter) → Row d (Receives m) (says d Repeat)
  scanned : (port : Port) (id : MessageId) (s g l : ℕ) (r : Response) → Hears d port → job_at id d.jobs ≡ None
      → ScanRow d (new_job d.version id s g l) r → Row d (Receives (via port (Scan id s g l))) r
  past_length : (port : Port) (id : MessageId) (offset : ℕ) (bytes : List ℕ) (j : Job) → Hears d port → job_at id d.jobs ≡ Some j
      → awaits j offset ≡ true → nat_lt (j.length - offset) (length bytes) ≡ true → Row d (Receives (via port (Chunk id offset bytes)))
      (sends (record d { jobs = without_job j.id d.jobs }) (Reply j.id (Failed PastLength) ∷ []))
  lent : (port : Port) (id : MessageId) (offset : ℕ) (bytes : List ℕ) (j : Job) → Hears d port → job_at id d.jobs ≡ Some j
      → awaits j offset ≡ true → nat_lt d.last_lease most_leases ≡ true → nat_lt (j.length - offset) (length bytes) ≡ false
      → Row d (Receives (via port (Chunk id offset bytes))) (lends d bytes j)
  dropped : (port : Port) (m : Body) (id : MessageId) (j : Job) → Hears d port → Drops id m → job_at id d.jobs ≡ Some j
      → Row d (Receives (via port m)) (says (record d { jobs = without_job j.id d.jobs }) Quiet)
  orphaned : (lease : ℕ) (scan : ScanState) (hit : Option Verdict) → Row d (Finishes lease scan hit) (says d Orphan)
  hit : (lease : ℕ) (scan : ScanState) (r : Verdict) (j : Job) → lent_under lease d.jobs ≡ Some j
      → Row d (Finishes lease scan (Some r)) (closes d j r)
  clean : (lease : ℕ) (scan : ScanState) (j : Job) → lent_under lease d.jobs ≡ Some j
      → (j.offset + loan_count j.loan == j.length) ≡ true → Row d (Finishes lease scan None) (closes d j Clean)
  goes_on : (lease : ℕ) (scan : ScanState) (j : Job) → lent_under lease d.jobs ≡ Some j
      → (j.offset + loan_count j.loan == j.length) ≡ false → Row d (Finishes lease scan None)
      (sends (record d { jobs = with_job (advanced scan j) d.jobs }) (read_message d.limits (advanced scan j) ∷ []))
  updated : (version : ℕ) → d.connected ≡ true → Row d (Publishes version)
      (sends (record d { version = version; jobs = map (afresh version) d.jobs })
      (Updated version ∷ map (λ j. read_message d.limits (afresh version j)) d.jobs))
  prepared : (version : ℕ) → d.connected ≡ false → Row d (Publishes version) (says (record d { version = version }) Quiet)
  disconnects : Row d Disconnects (says (record d { connected = false; jobs = [] }) Quiet)
  restarts : (latest : ℕ) → Row d (Restarts latest)
      (says (record d { connected = false; jobs = []; cache = []; version = latest }) Quiet)
