-- The whole path of one question, on its port: its scan comes, and then each read, chunk and work in turn, with no other event
-- between.
use Rattle.std.specs.Prelude.{◌≡◌, ℕ, zero, suc, ◌+◌, ◌*◌, ◌<◌, ◌≤◌, true, min, List, [], ◌∷◌, length, map, Some, None}
use Rattle.av_filter.specs.Conduct.{filter_step}
use Rattle.av_filter.specs.Conduct as filter_events
use Rattle.av_filter_table.specs.Answering.{present_bytes}
use Rattle.av_filter_table.specs.Table.{Table, question_on}
use Rattle.av_frame.specs.Message.{Letter, via}
use Rattle.av_filter_table.specs.declared.question.Question.{Question}
use Rattle.av_frame.specs.declared.message.Body.TheVariants.{Scan, Reply}
use Rattle.av_frame.specs.declared.outcome.Outcome.TheVariants.{Judged}
use Rattle.av_match.specs.Match.{verdict}
use Rattle.av_service.specs.Conduct.{service_step}
use Rattle.av_service.specs.Conduct as service_events
use Rattle.av_service.specs.Desk.{Desk, job_at}
use Rattle.av_service.specs.Response.{Response, says}
use Rattle.av_service.specs.Scanning.{most_leases}
use Rattle.av_service.specs.declared.note.ServiceNote.TheVariants.{Quiet}
use Rattle.av_service.specs.Work.{WorkState}
use Rattle.av_sigset.specs.Publication.{Publication, publication_of, published_as}
use Rattle.av_sigset.specs.declared.signature.Pattern.{Pattern}
use Rattle.av_store.specs.History.{content}
use Rattle.av_store.specs.Store.{Store}
use Rattle.av_history.specs.Past.{past}
use Rattle.av_history.specs.World.{WorldState, desk_of, done}

-- the work that was lent is run and finished
abbrev pub carry_work : List Publication → Desk → List WorkState → Response
carry_work sets d [] = says d Quiet
carry_work sets d (k ∷ ks) = service_step d (done sets k)

-- the filter's message goes to the service, and its work is done
abbrev pub carry_down : List Publication → Desk → List Letter → Response
carry_down sets d [] = says d Quiet
carry_down sets d (m ∷ ms) = let r = service_step d (service_events.Receives m) in carry_work sets r.desk r.works

-- one round: the service's message goes to the filter, and what that sends goes back
abbrev pub carry_up : Table → Store → List Publication → Desk → List Letter → Response
carry_up t v sets d [] = says d Quiet
carry_up t v sets d (m ∷ ms) = carry_down sets d (filter_step t v (filter_events.Receives m)).messages

-- the service's response after so many rounds: its messages to the filter, what comes back, and each work run
unfoldable pub rounds : Table → Store → List Publication → ℕ → Response → Response
rounds t v sets zero r = r
rounds t v sets (suc n) r = rounds t v sets n (carry_up t v sets r.desk r.messages)

-- the question runs, the service of its port is connected, and has room for its scan and n leases left
pub record IsReady (w : WorldState) (q : Question) (n : ℕ) : Type 0 where
  pub runs : question_on q.port q.id w.table.questions ≡ Some q
  pub connected : (desk_of w q.port).connected ≡ true
  pub no_job : job_at q.id (desk_of w q.port).jobs ≡ None
  pub room : length (desk_of w q.port).jobs < (desk_of w q.port).limits.jobs
  pub chunk : 1 ≤ min (desk_of w q.port).limits.chunk w.table.limits.chunk
  pub enough : length (present_bytes w.volume q.stream) ≤ n * min (desk_of w q.port).limits.chunk w.table.limits.chunk
  pub leases : (desk_of w q.port).last_lease + n ≤ most_leases

-- the Scan message of a question
abbrev pub scan_for : WorldState → Question → Letter
scan_for w q = via q.port (Scan q.id q.stream q.generation (length (present_bytes w.volume q.stream)))

-- what the service of its port responds to that, so many rounds later
abbrev pub path_of : WorldState → Question → ℕ → Response
path_of w q count =
    rounds w.table w.volume (map publication_of w.sets) count
    (service_step (desk_of w q.port) (service_events.Receives (scan_for w q)))

-- after at most n rounds the last message up is the reply: the verdict of what was asked about, under the service's version
pub record EndsWithVerdict (w : WorldState) (q : Question) (n : ℕ) : Type 0 where
  pub bytes : List ℕ
  pub held : content (past w.history).streams q.stream q.generation ≡ Some bytes
  pub patterns : List Pattern
  pub published : published_as (map publication_of w.sets) (desk_of w q.port).version ≡ Some patterns
  pub count : ℕ
  pub within : count ≤ n
  pub replied :
      (path_of w q count).messages ≡ via q.port (Reply q.id (Judged (desk_of w q.port).version (verdict patterns bytes))) ∷ []
