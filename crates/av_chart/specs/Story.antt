-- What happened in a script's run, by what its lines did.
use Rattle.std.specs.Prelude.{ℕ, zero, suc, ◌+◌, ◌-◌, ◌==◌, ◌||◌, Bool, nat_lt, List, [], ◌∷◌, ◌++◌, length, map, fold, Option, None, Some, unwrap_or, Ok, Err, codes, slice_set, if◌then◌else◌}
use Rattle.std.specs.List.{between}
use Rattle.av_base.specs.declared.message_id.MessageId.{MessageId}
use Rattle.av_base.specs.declared.port.Port.{Port}
use Rattle.av_base.specs.declared.port.Port.TheVariants.{One}
use Rattle.av_base.specs.declared.verdict.Verdict.{Verdict}
use Rattle.av_base.specs.declared.verdict.Verdict.TheVariants as verdict
use Rattle.av_frame.specs.Message.{Letter}
use Rattle.av_frame.specs.declared.message.Body.{Body}
use Rattle.av_frame.specs.declared.message.Body.TheVariants.{Scan, Abort, NoChunk, Read, Reply}
use Rattle.av_frame.specs.declared.outcome.Outcome.{Outcome}
use Rattle.av_frame.specs.declared.outcome.Outcome.TheVariants as outcome
use Rattle.av_pend.specs.Pend.{open_of}
use Rattle.av_pend.specs.declared.answer.Answer.{Answer}
use Rattle.av_pend.specs.declared.answer.Answer.TheVariants as answer
use Rattle.av_output.specs.Text.Answers.{is_answered}
use Rattle.av_history.specs.World.{WorldState, member}
use Rattle.av_history.specs.declared.given.Given.{Given}
use Rattle.av_history.specs.declared.report.Line.{Line}
use Rattle.av_history.specs.declared.report.Line.TheVariants as line
use Rattle.av_history.specs.declared.report.Report.{Report}
use Rattle.av_chart.specs.Life.{Life, begins, ends, ends_all, ends_at, lives_of}
use Rattle.av_chart.specs.Marks.{asks_of, deed_of, filter_mark, given_in, is_spent, judged_mark, lent_of, ran_of, said_of, service_mark, submitted_id, volume_mark}
use Rattle.av_chart.specs.Number.{capped}
use Rattle.av_chart.specs.Row.{asked_lines, is_noted, silent}
use Rattle.av_chart.specs.Spot.{within}
use Rattle.av_chart.specs.Told.{Did, Mounted, Judges, Steps, Told}
use Rattle.av_chart.specs.Words.{told_work, word_at}
use Rattle.av_chart.specs.declared.happened.Arrival.{Arrival}
use Rattle.av_chart.specs.declared.happened.Counts.{Counts}
use Rattle.av_chart.specs.declared.happened.FilterMark.TheVariants.{Boot}
use Rattle.av_chart.specs.declared.happened.Happened.{Happened}
use Rattle.av_chart.specs.declared.happened.Refused.TheVariants as refused
use Rattle.av_chart.specs.declared.happened.Said.{Said}
use Rattle.av_chart.specs.declared.happened.Sent.{Sent}
use Rattle.av_chart.specs.declared.happened.Step.{Step}
use Rattle.av_output.specs.declared.message.Direction.{Direction}
use Rattle.av_output.specs.declared.message.Direction.TheVariants.{Down, Up}
use Rattle.av_chart.specs.declared.happening.marks.Deed.{Deed}
use Rattle.av_chart.specs.declared.happening.marks.Deed.TheVariants as deed
use Rattle.av_chart.specs.declared.life.How.{How}
use Rattle.av_chart.specs.declared.life.How.TheVariants as how
use Rattle.av_chart.specs.declared.life.Moment.{Moment}

-- a message: when it was sent, and the steps in which it arrived
pub record Post : Type 0 where
  pub sent : Moment
  pub arrivals : List ℕ

-- all that happened: steps, messages of both ways, lives, the lines that told pieces of work, the names of streams, and how
-- many opens were told what
pub record Story : Type 0 where
  pub steps : List Step
  pub down : List Post
  pub up : List Post
  pub opens : List Life
  pub questions : List Life
  pub jobs : List Life
  pub works : List Life
  pub works_told : List (List ℕ)
  pub names : List (List ℕ)
  pub counts : Counts

-- what code keeps of it
abbrev pub post_of : Sent → Post
post_of s = record { sent = s.at; arrivals = s.arrivals.items }

abbrev pub posts_of : List Sent → List Post
posts_of ss = map post_of ss

abbrev pub story_of : Happened → Story
story_of h =
    record {
      steps = h.steps.items;
      down = posts_of h.down.items;
      up = posts_of h.up.items;
      opens = lives_of h.opens;
      questions = lives_of h.questions;
      jobs = lives_of h.jobs;
      works = lives_of h.works;
      works_told = map (λ t. t.items) h.works_told.items;
      names = map (λ n. n.now) h.names.items;
      counts = h.counts;
    }

-- before the first line
abbrev pub nothing : Story
nothing =
    record {
      steps = [];
      down = [];
      up = [];
      opens = [];
      questions = [];
      jobs = [];
      works = [];
      works_told = [];
      names = [];
      counts = record { granted = 0; unscanned = 0; denied = 0 };
    }

-- on a line of a step's row
abbrev pub moment : ℕ → ℕ → Moment
moment step line = record { step = step; line = within line }

-- the members of a list in turn, the first of which has the number k
abbrev pub in_turn : {A B : Type 0} → (ℕ → A → B → B) → ℕ → List A → B → B
in_turn f k [] b = b
in_turn f k (x ∷ xs) b = in_turn f (k + 1) xs (f k x b)

-- ---- messages

-- what a step sends to the service, and to the filter
abbrev pub sent_down : Report → WorldState → List Letter
sent_down r w = between r.before.down r.after.down w.down

abbrev pub sent_up : Report → WorldState → List Letter
sent_up r w = between r.before.up r.after.up w.up

-- so many messages that a step sends, from a line on: none has arrived
abbrev pub posted : ℕ → ℕ → ℕ → List Post
posted step line zero = []
posted step line (suc n) = posted step line n ++ record { sent = moment step (line + n); arrivals = [] } ∷ []

-- the message at a place arrives in a step
abbrev pub arrived_at : ℕ → ℕ → List Post → Option Post → List Post
arrived_at step place posts None = posts
arrived_at step place posts (Some p) = slice_set posts (place - 1) (record p { arrivals = p.arrivals ++ step ∷ [] })

abbrev pub arrived : ℕ → ℕ → List Post → List Post
arrived step place posts = arrived_at step place posts (member posts place)

-- the messages to the service, and to the filter, after what a step delivers
abbrev pub delivered_down : ℕ → Deed → List Post → List Post
delivered_down step (deed.Deliver Down place) posts = arrived step place posts
delivered_down step _ posts = posts

abbrev pub delivered_up : ℕ → Deed → List Post → List Post
delivered_up step (deed.Deliver Up place) posts = arrived step place posts
delivered_up step _ posts = posts

-- how a message arrives in a step
abbrev pub is_again : Post → Bool
is_again p = nat_lt 0 (length p.arrivals)

abbrev pub arrival_of : ℕ → Direction → ℕ → Said → Option Post → Option Arrival
arrival_of step way place note None = None
arrival_of step way place note (Some p) =
    Some (record {
      way = way;
      index = place - 1;
      is_again = is_again p;
      is_far = is_again p || nat_lt 8 (step - p.sent.step);
      is_spent = is_spent note;
    })

abbrev pub posts_on : Story → Direction → List Post
posts_on s Down = s.down
posts_on s Up = s.up

abbrev pub arrival_in : Story → Deed → Said → Option Arrival
arrival_in s (deed.Deliver way place) note = arrival_of (length s.steps) way place note (member (posts_on s way) place)
arrival_in s _ note = None

-- ---- lives

-- what has a number alone
abbrev pub number_id : ℕ → MessageId
number_id n = record { boot = 0; seq = n }

-- a life that has no end
abbrev pub life : Port → MessageId → List ℕ → ℕ → Moment → Life
life port id name generation at = record { port = port; id = id; name = name; generation = generation; begin = at; «end» = None }

-- an answer ends its open
abbrev pub how_answered : Answer → How
how_answered (answer.Granted open_id least stream generation version) = how.Granted
how_answered (answer.Unscanned open_id stream generation cause) = how.Unscanned
how_answered (answer.Denied open_id cause) = how.Denied

abbrev pub answered : ℕ → ℕ → Given → List Life → List Life
answered step line g opens = ends One (number_id (open_of g.answer)) (record { at = moment step line; how = how_answered g.answer }) opens

-- the open that a step submits begins, where it waits
abbrev pub opened : ℕ → List ℕ → ℕ → List Given → List Life → List Life
opened step name id given opens =
    if id == 0 || is_answered id given then opens else begins (life One (number_id id) name 0 (moment step 0)) opens

-- the name of the stream of a number
abbrev pub name_in : List (List ℕ) → ℕ → List ℕ
name_in names stream = unwrap_or (member names stream) (codes "?")

-- a question begins by its Scan, and ends by an Abort, at its port
abbrev pub asked_by : List (List ℕ) → ℕ → ℕ → Port → Body → List Life → List Life
asked_by names step line port (Scan id stream generation size) questions =
    begins (life port id (name_in names stream) generation (moment step line)) questions
asked_by names step line port (Abort id) questions = ends port id (record { at = moment step line; how = how.Aborted }) questions
asked_by names step line port _ questions = questions

-- the same of a message
abbrev pub asked : List (List ℕ) → ℕ → ℕ → Letter → List Life → List Life
asked names step line m questions = asked_by names step line m.port m.body questions

-- how a question ended, and a job, as a reply tells
abbrev pub how_judged : Verdict → How
how_judged verdict.Clean = how.Clean
how_judged (verdict.Infected index end_at) = how.Infected

abbrev pub how_replied : Outcome → How
how_replied (outcome.Judged version verdict) = how_judged verdict
how_replied (outcome.Failed cause) = how.Failed

abbrev pub how_found : Verdict → How
how_found verdict.Clean = how.Clean
how_found (verdict.Infected index end_at) = how.Byte end_at

abbrev pub how_worked : Outcome → How
how_worked (outcome.Judged version verdict) = how_found verdict
how_worked (outcome.Failed cause) = how.Failed

-- a question ends by the reply that arrives
abbrev pub ended_by : ℕ → Port → Body → List Life → List Life
ended_by step port (Reply id outcome) questions = ends port id (record { at = moment step 0; how = how_replied outcome }) questions
ended_by step port _ questions = questions

-- the same of a message, if one arrives
abbrev pub reply_ends : ℕ → Option Letter → List Life → List Life
reply_ends step None questions = questions
reply_ends step (Some m) questions = ended_by step m.port m.body questions

-- and all of a port where the filter loses its service, those that are asked anew too; and all where it is mounted anew
abbrev pub questions_over : WorldState → ℕ → Said → Deed → List Life → List Life
questions_over w step note (deed.Deliver Up place) questions = if is_noted note then questions else reply_ends step (member w.up place) questions
questions_over w step note (deed.DisconnectFilter port) questions = ends_at port (record { at = moment step 0; how = how.Ended }) questions
questions_over w step note deed.RestartFilter questions = ends_all (record { at = moment step 0; how = how.Ended }) questions
questions_over w step note _ questions = questions

-- a job begins by its first Read, and ends by its Reply
abbrev pub worked_by : ℕ → ℕ → Port → Body → List Life → List Life
worked_by step line port (Read id offset count) jobs = begins (life port id [] 0 (moment step line)) jobs
worked_by step line port (Reply id outcome) jobs = ends port id (record { at = moment step line; how = how_worked outcome }) jobs
worked_by step line port _ jobs = jobs

-- the same of a message
abbrev pub worked : ℕ → ℕ → Letter → List Life → List Life
worked step line m jobs = worked_by step line m.port m.body jobs

-- it is dropped by an Abort or a NoChunk that arrives
abbrev pub dropped_by : ℕ → Port → Body → List Life → List Life
dropped_by step port (Abort id) jobs = ends port id (record { at = moment step 0; how = how.Dropped }) jobs
dropped_by step port (NoChunk id offset cause) jobs = ends port id (record { at = moment step 0; how = how.Dropped }) jobs
dropped_by step port _ jobs = jobs

-- the same of a message, if one arrives
abbrev pub message_drops : ℕ → Option Letter → List Life → List Life
message_drops step None jobs = jobs
message_drops step (Some m) jobs = dropped_by step m.port m.body jobs

-- and all of a port where its service loses the filter or is started anew
abbrev pub jobs_over : WorldState → ℕ → Said → Deed → List Life → List Life
jobs_over w step note (deed.Deliver Down place) jobs = if is_noted note then jobs else message_drops step (member w.down place) jobs
jobs_over w step note (deed.DisconnectService port) jobs = ends_at port (record { at = moment step 0; how = how.Dropped }) jobs
jobs_over w step note (deed.RestartService port) jobs = ends_at port (record { at = moment step 0; how = how.Dropped }) jobs
jobs_over w step note _ jobs = jobs

-- a work ends where it is run
abbrev pub run_ends : ℕ → Deed → List Life → List Life
run_ends step (deed.Run place) works = ends One (number_id place) (record { at = moment step 0; how = how.Run }) works
run_ends step _ works = works

-- works begin where they are lent, so many from a place on
abbrev pub lent : ℕ → ℕ → ℕ → List Life → List Life
lent step from zero works = works
lent step from (suc n) works = begins (life One (number_id (capped (from + n + 1))) [] 0 (moment step 0)) (lent step from n works)

-- ---- steps

-- the lines that told so many pieces of work from a place on
abbrev pub works_lines : WorldState → ℕ → ℕ → List (List ℕ)
works_lines w from zero = []
works_lines w from (suc n) = works_lines w from n ++ told_work w (from + n) ∷ []

-- a stream that is created has its name
abbrev pub named : Line → List ℕ → List (List ℕ) → List (List ℕ)
named (line.Created stream) name names = names ++ name ∷ []
named _ name names = names

-- an answer is counted
abbrev pub counted : Counts → Answer → Counts
counted c (answer.Granted open_id least stream generation version) = record c { granted = capped (c.granted + 1) }
counted c (answer.Unscanned open_id stream generation cause) = record c { unscanned = capped (c.unscanned + 1) }
counted c (answer.Denied open_id cause) = record c { denied = capped (c.denied + 1) }

-- the step of a line that has done nothing
abbrev pub quiet : Told → Step
quiet t = silent t.line t.command

-- the step of a line whose event was accepted
abbrev pub step_of : Story → Told → Deed → Report → WorldState → Step
step_of s t d r w =
    record {
      line = t.line;
      command = t.command;
      refused = None;
      volume = volume_mark r.line;
      asks = asks_of d (given_in r w) r.note;
      filter = filter_mark d r.line;
      service = service_mark d r.line;
      note = said_of r.note;
      answers = record { from = r.before.answers; to = r.after.answers };
      down = record { from = r.before.down; to = r.after.down };
      up = record { from = r.before.up; to = r.after.up };
      arrival = arrival_in s d (said_of r.note);
      lent = lent_of r;
      ran = ran_of d;
    }

-- one step more
abbrev pub with_step : Story → Step → Story
with_step s step = record s { steps = s.steps ++ step ∷ [] }

-- what happened once an event was accepted
abbrev pub accepted : Story → Told → Deed → Report → WorldState → Story
accepted s t d r w =
    let at = length s.steps in
    let step = step_of s t d r w in
    let names = named r.line (word_at 1 t.text) s.names in
    record {
      steps = s.steps ++ step ∷ [];
      down = delivered_down at d s.down ++ posted at 0 (length (sent_down r w));
      up = delivered_up at d s.up ++ posted at (length (sent_down r w)) (length (sent_up r w));
      opens =
          opened at (word_at 1 t.text) (submitted_id r.note) (given_in r w)
          (in_turn (answered at) (asked_lines step) (given_in r w) s.opens);
      questions = questions_over w at (said_of r.note) d (in_turn (asked names at) 0 (sent_down r w) s.questions);
      jobs = jobs_over w at (said_of r.note) d (in_turn (worked at) (length (sent_down r w)) (sent_up r w) s.jobs);
      works = lent at r.before.works (r.after.works - r.before.works) (run_ends at d s.works);
      works_told = s.works_told ++ works_lines w r.before.works (r.after.works - r.before.works);
      names = names;
      counts = fold (λ c g. counted c g.answer) s.counts (given_in r w);
    }

-- what happened after one line more
abbrev pub did_after : Story → Told → Did → Story
did_after s t Mounted = with_step s (record (quiet t) { filter = Some (Boot 1) })
did_after s t (Judges (Ok j)) = with_step s (record (quiet t) { volume = Some (judged_mark j) })
did_after s t (Judges (Err f)) = with_step s (record (quiet t) { refused = Some (refused.Judge f) })
did_after s t (Steps e (Ok p)) = accepted s t (deed_of e) p.0 p.1
did_after s t (Steps e (Err f)) = with_step s (record (quiet t) { refused = Some (refused.Step f) })

abbrev pub story_after : Story → Told → Story
story_after s t = did_after s t t.did

-- what happened in all lines
abbrev pub story : List Told → Story
story told = fold story_after nothing told
