-- What jobs have judged: a job's scan is that of its judged bytes, and a work that comes back keeps it so.
use Rattle.std.specs.Prelude.{ℕ, ◌≡◌, ◌+◌, ◌≤◌, List, ◌++◌, length, Some, if◌then◌else◌}
use Rattle.std.specs.List.{AllByRecursion}
use Rattle.av_base.specs.MessageId.{same_id}
use Rattle.av_base.specs.declared.message_id.MessageId.{MessageId}
use Rattle.av_match.specs.Scanning.{Compiled, IsScan, ScanState, fitting, run}
use Rattle.av_service.specs.Desk.{Desk, lent_under, loan_count}
use Rattle.av_service.specs.Work.{WorkState}
use Rattle.av_service.specs.declared.job.Job.{Job}

-- a job has judged these bytes, as many as its offset, and keeps their scan under this set
pub record HasJudged (set : Compiled) (bytes : List ℕ) (j : Job) : Type 0 where
  pub scanned : IsScan set j.length bytes j.scan
  pub count : length bytes ≡ j.offset

-- each job has judged the bytes that go with its id
abbrev pub HaveJudged : Compiled → (MessageId → List ℕ) → List Job → Type 0
HaveJudged set judged js = AllByRecursion (λ j. HasJudged set (judged j.id) j) js

-- the work is the one that this job lent: it goes on with the job's scan, by as many bytes as are lent, for which there is room
pub record IsOfJob (k : WorkState) (j : Job) : Type 0 where
  pub scan : k.scan ≡ j.scan
  pub count : length k.chunk ≡ loan_count j.loan
  pub room : j.offset + length k.chunk ≤ j.length

-- a job has judged the bytes of its work too, and the others have judged what they had
abbrev pub judged_more : (MessageId → List ℕ) → Job → WorkState → MessageId → List ℕ
judged_more judged j k id = if same_id id j.id then judged id ++ k.chunk else judged id

-- A scan comes back under a lease, and this is the desk then. Where it is that of the work which the lease's job lent, run under
-- the set of the jobs, each job that is left keeps the scan of its judged bytes.
abbrev pub KeepsScans : Desk → ℕ → WorkState → ScanState → Desk → Type 0
KeepsScans d lease k scan new =
    (set : Compiled) (judged : MessageId → List ℕ) (j : Job) → lent_under lease d.jobs ≡ Some j → IsOfJob k j
    → scan ≡ run set.patterns k.scan (fitting k.scan k.chunk) → HaveJudged set judged d.jobs
    → HaveJudged set (judged_more judged j k) new.jobs
