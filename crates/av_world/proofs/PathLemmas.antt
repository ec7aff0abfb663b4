-- The whole path of one question ends with its verdict.
use Rattle.std.proofs.Common.{◌≡◌, ◌≢◌, ℕ, zero, suc, ◌+◌, ◌-◌, ◌*◌, ◌<◌, ◌≤◌, Bool, true, false, cond, not, ◌&&◌, List, [], ◌∷◌, ◌++◌, length, take, drop, map, find, Option, Some, None, is_some, ◌⊎◌, eqb-true, if◌then◌else◌, ◌==◌, nat_lt, nat_le, min, refl, sym, ap, ◌∙◌, subst, arith, inl, inr, length-append, append_assoc, append-nil, eq-eqb, le-ltb, lt-ltb}
use Rattle.std.specs.List.{AllByRecursion as Each}
use Rattle.std.proofs.lemmas.List.{take-append-drop, drop_at, length-take, length-drop, nil_from_length}
use Rattle.std.proofs.lemmas.Bool.{cond-true, cond-false, cond_both, eqb-false, lt-leb, ne_eqb, and_from}
use Rattle.av_base.proofs.KeyLemmas.{same_id-refl, same_port-refl}
use Rattle.av_base.specs.MessageId.{same_id}
use Rattle.av_base.specs.declared.limits.LimitValues.{LimitValues}
use Rattle.av_base.specs.declared.message_id.MessageId.{MessageId}
use Rattle.av_base.specs.declared.mode.Mode.{Mode}
use Rattle.av_base.specs.declared.verdict.Verdict.{Verdict}
use Rattle.av_base.specs.declared.verdict.Verdict.TheVariants.{Clean}
use Rattle.av_cache.specs.Cache.{look}
use Rattle.av_cache.specs.declared.entry.Entry.{Entry}
use Rattle.av_filter.specs.Conduct.{filter_step}
use Rattle.av_filter.specs.Conduct as filter_events
use Rattle.av_filter_table.specs.Answering.{present_bytes, stream_bytes}
use Rattle.av_filter.specs.Receiving.{reads, receives_at}
use Rattle.av_filter_table.specs.Table.{Table, question_on}
use Rattle.av_filter_table.specs.declared.question.Question.{Question}
use Rattle.av_base.specs.Port.{same_port}
use Rattle.av_frame.specs.Message.{via}
use Rattle.av_frame.specs.declared.message.Body.TheVariants.{Chunk, Reply}
use Rattle.av_frame.specs.declared.outcome.Outcome.TheVariants.{Judged}
use Rattle.av_match.proofs.RunLemmas.{scanner_meets as laws}
use Rattle.av_match.proofs.ScanLemmas.{scan_fed}
use Rattle.av_match.specs.Match.{verdict, verdict_to, if_hit}
use Rattle.av_match.specs.Scanning.{AreSolid, ScanState, scan_of, scanner, Compiled, IsScan, fitting}
use Rattle.av_service.specs.Conduct.{service_step}
use Rattle.av_service.specs.Conduct as service_events
use Rattle.av_service.specs.Desk.{Desk, advanced, has_lease, job_at, lent_out, lent_under, new_job, remember, with_job}
use Rattle.av_service.specs.Lending.{finished}
use Rattle.av_service.specs.Response.{Response, read_message, says, sends}
use Rattle.av_service.specs.Scanning.{awaits, chunk_found, most_leases, receives, scan_cached, scan_found}
use Rattle.av_service.specs.declared.job.Job.{Job}
use Rattle.av_service.specs.declared.job.Loan.{Loan}
use Rattle.av_service.specs.declared.note.ServiceNote.TheVariants.{Quiet, Ignored}
use Rattle.av_service.specs.Work.{WorkState}
use Rattle.av_sigset.specs.Publication.{Publication, publication_of, published_as}
use Rattle.av_sigset.specs.declared.signature.Pattern.{Pattern}
use Rattle.av_store.specs.History.{content}
use Rattle.av_store.specs.Store.{Store}
use Rattle.av_history.proofs.DeskLemmas.{hit_whole, no_hit, nothing_clean, set_solid}
use Rattle.av_filter.proofs.EachLemmas.{each_weaker, each-append}
use Rattle.av_history.proofs.FilterLemmas.{Runs, runs, look_right}
use Rattle.av_history.proofs.FitLemmas.{core}
use Rattle.av_world.proofs.SoundLemmas.{Sound, sound}
use Rattle.av_world.proofs.PlaceLemmas.{at_ports, by_port}
use Rattle.av_history.specs.Past.{IsVerdictOf, past}
use Rattle.av_world.specs.Path.{carry_up, carry_down, carry_work, rounds, IsReady, EndsWithVerdict, scan_for}
use Rattle.av_history.specs.Safety.{IsFront, JudgesItsContent as JobFits, LoanFits, works_of}
use Rattle.av_history.specs.World.{WorldState, desk_of, or_none, scan_after, start, world_of}
use Rattle.av_history.specs.declared.event.Event.{Event}

-- the job that is put in the place of another is found under its id
pub found_put : (k : Job) (id : MessageId) (j : Job) (js : List Job) → k.id ≡ id → j.id ≡ id → job_at id js ≡ Some j → job_at id (with_job k js) ≡ Some k
found_put k id j [] kid jid at = absurd cc
found_put k id j (x ∷ js) kid jid at =
    let self : same_id k.id id ≡ true = subst (λ i. same_id k.id i ≡ true) kid (same_id-refl k.id) in
    let go : (b : Bool) → same_id x.id id ≡ b → cond b (Some x) (job_at id js) ≡ Some j → find (λ (y : Job). same_id y.id id) ((if same_id x.id k.id then k else x) ∷ with_job k js) ≡ Some k = elim [
      | true ↦ λ e h.
          let here : same_id x.id k.id ≡ true = subst (λ i. same_id x.id i ≡ true) (sym kid) e in
          rw here (rw self refl)
      | false ↦ λ e h.
          let other : same_id x.id k.id ≡ false = subst (λ i. same_id x.id i ≡ false) (sym kid) e in
          rw other (rw e (found_put k id j js kid jid h))
    ] in
    go (same_id x.id id) refl at

-- a lease that no other job has
abbrev pub IsOther : ℕ → Job → Type 0
IsOther lease j = has_lease lease j.loan ≡ false

pub lent_put : (k : Job) (id : MessageId) (j : Job) (js : List Job) (lease : ℕ) → k.id ≡ id → has_lease lease k.loan ≡ true → Each (IsOther lease) js → job_at id js ≡ Some j → lent_under lease (with_job k js) ≡ Some k
lent_put k id j [] lease kid has others at = absurd cc
lent_put k id j (x ∷ js) lease kid has others at =
    let go : (b : Bool) → same_id x.id id ≡ b → cond b (Some x) (job_at id js) ≡ Some j → find (λ (y : Job). has_lease lease y.loan) ((if same_id x.id k.id then k else x) ∷ with_job k js) ≡ Some k = elim [
      | true ↦ λ e h.
          let here : same_id x.id k.id ≡ true = subst (λ i. same_id x.id i ≡ true) (sym kid) e in
          rw here (rw has refl)
      | false ↦ λ e h.
          let other : same_id x.id k.id ≡ false = subst (λ i. same_id x.id i ≡ false) (sym kid) e in
          let miss : has_lease lease x.loan ≡ false = others.0 in
          rw other (rw miss (lent_put k id j js lease kid has others.1 h))
    ] in
    go (same_id x.id id) refl at

abbrev pub UpTo : ℕ → Option Loan → Type 0
UpTo last None = Unit {0}
UpTo last (Some l) = l.lease ≤ last

pub other_lease : (last : ℕ) (o : Option Loan) → UpTo last o → has_lease (last + 1) o ≡ false
other_lease last None h = refl
other_lease last (Some l) h = ne_eqb l.lease (last + 1) (λ e. omega arith)

pub up_more : (last : ℕ) (o : Option Loan) → UpTo last o → UpTo (last + 1) o
up_more last None h = tt
up_more last (Some l) h = omega arith

pub put_each : (P : Job → Type 0) (k : Job) (js : List Job) → P k → Each P js → Each P (with_job k js)
put_each P k [] h all = tt
put_each P k (j ∷ js) h all = (cond_both (same_id j.id k.id) k j P (λ e. h) (λ e. all.0), put_each P k js h all.1)

module _ (t : Table) (v : Store) (sets : List Publication) (q : Question) (bytes : List ℕ) (set : List Pattern) (solid : AreSolid set) (runs : question_on q.port q.id t.questions ≡ Some q) (present : present_bytes v q.stream ≡ bytes) where
  -- a job of the question waits for its next bytes
  pub record Waits (d : Desk) (j : Job) : Type 0 where
    pub on : d.connected ≡ true
    pub port : d.port ≡ q.port
    pub job : job_at q.id d.jobs ≡ Some j
    pub id : j.id ≡ q.id
    pub free : j.loan ≡ None
    pub judged : List ℕ
    pub rest : List ℕ
    pub front : judged ++ rest ≡ bytes
    pub counted : length judged ≡ j.offset
    pub scanned : j.scan ≡ scan_of scanner d.version j.length set judged
    pub size : j.length ≡ length bytes
    pub left : j.offset < length bytes
    pub leases : Each (λ x. UpTo d.last_lease x.loan) d.jobs
    pub published : published_as sets d.version ≡ Some set
    pub some : 1 ≤ min d.limits.chunk t.limits.chunk

  module _ (d : Desk) (j : Job) (w : Waits d j) (numbered : d.last_lease < most_leases) where
    abbrev pub count : ℕ
    count = min d.limits.chunk (j.length - j.offset)

    abbrev pub part : List ℕ
    part = take (min count t.limits.chunk) (drop (j.offset) bytes)

    abbrev pub loan : Loan
    loan = record { lease = d.last_lease + 1; count = length part }

    abbrev pub lent_job : Job
    lent_job = lent_out loan j

    abbrev pub work : WorkState
    work = record { lease = d.last_lease + 1; id = j.id; version = d.version; scan = j.scan; chunk = part }

    abbrev pub desk : Desk
    desk = record d { jobs = with_job lent_job d.jobs; last_lease = d.last_lease + 1 }

    sent : (filter_step t v (filter_events.Receives (via d.port (read_message d.limits j)))).messages ≡ via d.port (Chunk j.id (j.offset) part) ∷ []
    unfolding filter_step receives_at reads
    sent =
        let asked : question_on d.port j.id t.questions ≡ Some q = subst (λ at. question_on at j.id t.questions ≡ Some q) (sym w.port) (subst (λ i. question_on q.port i t.questions ≡ Some q) (sym w.id) runs) in
        let inside : nat_le (length (present_bytes v q.stream)) (j.offset) ≡ false = lt-leb (length (present_bytes v q.stream)) (j.offset) (subst (λ (bs : List ℕ). j.offset < length bs) (sym present) w.left) in
        subst (λ o. (reads t v d.port j.id (j.offset) (min d.limits.chunk (j.length - j.offset)) o).messages ≡ via d.port (Chunk j.id (j.offset) (take (min (min d.limits.chunk (j.length - j.offset)) t.limits.chunk) (drop (j.offset) bytes))) ∷ []) (sym asked)
        (rw inside (ap (λ bs. via d.port (Chunk j.id (j.offset) (take (min (min d.limits.chunk (j.length - j.offset)) t.limits.chunk) (drop (j.offset) bs))) ∷ []) present))

    pub part_size : length part ≡ min (min d.limits.chunk (j.length - j.offset)) (min t.limits.chunk (length bytes - j.offset))
    part_size = length-take (min (min d.limits.chunk (j.length - j.offset)) t.limits.chunk) (drop (j.offset) bytes) ∙ omega (arith, length-drop (j.offset) bytes)

    pub lends : service_step d (service_events.Receives (via d.port (Chunk j.id (j.offset) part))) ≡ record { desk = desk; messages = []; works = work ∷ []; note = Quiet }
    unfolding service_step receives chunk_found
    lends =
        let at : job_at j.id d.jobs ≡ Some j = subst (λ i. job_at i d.jobs ≡ Some j) (sym w.id) w.job in
        let fits : nat_lt (j.length - j.offset) (length part) ≡ false = le-ltb (j.length - j.offset) (length part) (omega (arith, part_size, w.size)) in
        let ready : not (awaits j (j.offset) && nat_lt d.last_lease most_leases) ≡ false =
        ap not (and_from (awaits j (j.offset)) (nat_lt d.last_lease most_leases) (and_from (not (is_some j.loan)) (j.offset == j.offset) (ap (λ o. not (is_some o)) w.free) (eq-eqb (j.offset) (j.offset) refl)) (lt-ltb d.last_lease most_leases numbered)) in
        cond-true (d.connected && same_port d.port d.port) (chunk_found d (j.offset) part (job_at j.id d.jobs)) (says d Ignored) (and_from d.connected (same_port d.port d.port) w.on (same_port-refl d.port))
        ∙ (ap (chunk_found d (j.offset) part) at ∙ (cond-false (not (awaits j (j.offset) && nat_lt d.last_lease most_leases)) _ _ ready ∙ cond-false (nat_lt (j.length - j.offset) (length part)) _ _ fits))

    -- the job that was lent is found by its lease
    pub found : lent_under (d.last_lease + 1) desk.jobs ≡ Some lent_job
    found =
        lent_put lent_job q.id j d.jobs (d.last_lease + 1) w.id (eq-eqb (d.last_lease + 1) (d.last_lease + 1) refl)
        (each_weaker (λ (x : Job). UpTo d.last_lease x.loan) (IsOther (d.last_lease + 1)) (λ x h. other_lease d.last_lease x.loan h) d.jobs w.leases) w.job

    -- the scan after the run of the work, and its hit
    abbrev pub after : ScanState
    after = scan_after sets work

    pub scanned_now : after ≡ scan_of scanner d.version j.length set (w.judged ++ part)
    scanned_now =
        let now : Compiled = record { version = d.version; patterns = set } in
        let fits : length w.judged + length part ≤ j.length = omega (arith, part_size, w.counted, w.size, w.left) in
        let was : IsScan now j.length w.judged j.scan = record { is = w.scanned; within = omega arith } in
        let is : after ≡ scanner.run set j.scan (fitting j.scan part) = ap (λ o. scanner.run (or_none o) j.scan (fitting j.scan part)) w.published in
        (scan_fed now j.length w.judged part j.scan after was fits is).is

    pub hit_is : scanner.hit after ≡ if_hit (verdict set (w.judged ++ part))
    hit_is = ap scanner.hit scanned_now ∙ laws.hits d.version j.length set (w.judged ++ part) solid

    -- a whole round
    round : carry_up t v sets d (via d.port (read_message d.limits j) ∷ []) ≡ finished desk after (scanner.hit after) (Some lent_job)
    unfolding service_step
    round =
        ap (carry_down sets d) sent
        ∙ (ap (λ (r : Response). carry_work sets r.desk r.works) lends
        ∙ ap (finished desk after (scanner.hit after)) found)

    -- what is judged after it still begins the bytes
    pub further : IsFront (w.judged ++ part) bytes
    further =
        let n : ℕ = min (min d.limits.chunk (j.length - j.offset)) t.limits.chunk in
        let rest : drop j.offset bytes ≡ w.rest = ap (drop j.offset) (sym w.front) ∙ drop_at w.judged w.rest j.offset w.counted in (
          drop n w.rest,
          append_assoc w.judged (take n (drop j.offset bytes)) (drop n w.rest) ∙ (ap (λ xs. w.judged ++ (take n xs ++ drop n w.rest)) rest ∙ (ap (λ xs. w.judged ++ xs) (take-append-drop n w.rest) ∙ w.front)),
        )

    pub judged_more : length (w.judged ++ part) ≡ j.offset + length part
    judged_more = length-append w.judged part ∙ ap (λ n. n + length part) w.counted

    -- either the verdict of the whole is told, or the job waits again, a chunk further or at the end
    abbrev Ends : Response → Type 0
    Ends r = r.messages ≡ via q.port (Reply q.id (Judged d.version (verdict set bytes))) ∷ []

    abbrev Goes : Response → Type 0
    Goes r = (k : Job) × (r.messages ≡ via r.desk.port (read_message r.desk.limits k) ∷ []) × Waits r.desk k × (min d.limits.chunk t.limits.chunk + j.offset ≤ k.offset) × (r.desk.version ≡ d.version) × (r.desk.limits ≡ d.limits) × (r.desk.last_lease ≡ d.last_lease + 1)

    told : (hit : Option Verdict) → hit ≡ if_hit (verdict set (w.judged ++ part)) → Ends (finished desk after hit (Some lent_job)) ⊎ Goes (finished desk after hit (Some lent_job))
    unfolding finished
    told (Some r) is =
        let same : r ≡ verdict set bytes = hit_whole set (w.judged ++ part) further.0 r is ∙ ap (verdict set) further.1 in
        inl (λ i. via (w.port i) (Reply (w.id i) (Judged d.version (same i))) ∷ [])
    told None is =
        let sizes : length (w.judged ++ part) + length further.0 ≡ length bytes = sym (length-append (w.judged ++ part) further.0) ∙ ap length further.1 in
        cond_both (j.offset + length part == j.length) _ _ (λ r. Ends r ⊎ Goes r)
        (λ e.
        let none : further.0 ≡ [] = nil_from_length further.0 (omega (arith, sizes, w.size, judged_more, eqb-true _ j.length e)) in
        let whole : w.judged ++ part ≡ bytes = sym (append-nil (w.judged ++ part)) ∙ (ap (λ ys. (w.judged ++ part) ++ ys) (sym none) ∙ further.1) in
        let clean : Clean ≡ verdict set bytes = no_hit (verdict set (w.judged ++ part)) is ∙ ap (verdict set) whole in
        inl (λ i. via (w.port i) (Reply (w.id i) (Judged d.version (clean i))) ∷ []))
        (λ e.
        let less : j.offset + length part ≢ j.length = eqb-false _ j.length e in
        let left : j.offset + length part < length bytes = omega (arith, sizes, w.size, judged_more, less) in
        inr (
          advanced after lent_job,
          refl,
          record {
            on = w.on;
            port = w.port;
            job = found_put (advanced after lent_job) q.id lent_job desk.jobs w.id w.id (found_put lent_job q.id j d.jobs w.id w.id w.job);
            id = w.id;
            free = refl;
            judged = w.judged ++ part;
            rest = further.0;
            front = further.1;
            counted = judged_more;
            scanned = scanned_now;
            size = w.size;
            left = left;
            leases = put_each (λ (x : Job). UpTo (d.last_lease + 1) x.loan) (advanced after lent_job) desk.jobs tt
                (put_each (λ (x : Job). UpTo (d.last_lease + 1) x.loan) lent_job d.jobs (omega arith)
                (each_weaker (λ (x : Job). UpTo d.last_lease x.loan) (λ (x : Job). UpTo (d.last_lease + 1) x.loan) (λ x h. up_more d.last_lease x.loan h) d.jobs w.leases));
            published = w.published;
            some = w.some;
          },
          omega (arith, part_size, left, w.size),
          refl,
          refl,
          refl,
        ))

  -- after enough rounds the verdict is told
  ends : (n c : ℕ) (d : Desk) (j : Job) → c ≡ min d.limits.chunk t.limits.chunk → Waits d j → length bytes ≤ j.offset + n * c → d.last_lease + n ≤ most_leases → (r : Response) → r.desk ≡ d → r.messages ≡ via d.port (read_message d.limits j) ∷ []
      → (k : ℕ) × (k ≤ n) × ((rounds t v sets k r).messages ≡ via q.port (Reply q.id (Judged d.version (verdict set bytes))) ∷ [])
  unfolding rounds
  ends zero c d j chunk w enough left r same sends = absurd (omega (arith, w.left, enough))
  ends (suc n) c d j chunk w enough left r same sends =
      let numbered : d.last_lease < most_leases = omega arith in
      let next : Response = carry_up t v sets r.desk r.messages in
      let next_is : next ≡ finished (desk d j w numbered) (after d j w numbered) (scanner.hit (after d j w numbered)) (Some (lent_job d j w numbered)) = (λ i. carry_up t v sets (same i) (sends i)) ∙ round d j w numbered in
      elim (told d j w numbered (scanner.hit (after d j w numbered)) (hit_is d j w numbered)) [
        | inl e ↦ (1, omega arith, ap (λ (x : Response). x.messages) next_is ∙ e)
        | inr g ↦
            let chunk' : c ≡ min (finished (desk d j w numbered) (after d j w numbered) (scanner.hit (after d j w numbered)) (Some (lent_job d j w numbered))).desk.limits.chunk t.limits.chunk = chunk ∙ ap (λ (l : LimitValues). min l.chunk t.limits.chunk) (sym g.5) in
            let on = ends n c (finished (desk d j w numbered) (after d j w numbered) (scanner.hit (after d j w numbered)) (Some (lent_job d j w numbered))).desk g.0 chunk' g.2 (omega (arith, enough, g.3, chunk)) (omega (arith, left, g.6)) next (ap (λ (x : Response). x.desk) next_is) (ap (λ (x : Response). x.messages) next_is ∙ g.1) in
            (suc on.0, omega (arith, on.1), on.2 ∙ ap (λ x. via q.port (Reply q.id (Judged x (verdict set bytes))) ∷ []) g.4)
      ]

pub find_last : (id : MessageId) (j : Job) (js : List Job) → same_id j.id id ≡ true → job_at id js ≡ None → job_at id (js ++ j ∷ []) ≡ Some j
find_last id j [] is none = rw is refl
find_last id j (x ∷ js) is none =
    let go : (b : Bool) → cond b (Some x) (job_at id js) ≡ None → cond b (Some x) (job_at id (js ++ j ∷ [])) ≡ Some j = elim [
      | true ↦ λ h. absurd cc
      | false ↦ λ h. find_last id j js is h
    ] in
    go (same_id x.id id) none

module _ (mode : Mode) (w : WorldState) (s : Sound mode w) (q : Question) (n : ℕ) (placed : (desk_of w q.port).port ≡ q.port) (ready : IsReady w q n) where
  -- the service of its port
  abbrev pub home : Desk
  home = desk_of w q.port

  abbrev pub bytes : List ℕ
  bytes = present_bytes w.volume q.stream

  pub run : Runs (past w.history) w.volume.streams w.down q
  run = runs (past w.history) w.volume.streams (core w.table) w.down (λ k. same_id k.id q.id && same_port k.port q.port) q s.lawful.filter ready.runs

  pub held : content (past w.history).streams q.stream q.generation ≡ Some bytes
  held = subst (λ o. content (past w.history).streams q.stream q.generation ≡ Some (stream_bytes o)) (sym run.here) run.held

  pub present_set : (set : List Pattern) × (published_as (past w.history).sets home.version ≡ Some set)
  present_set = (s.lawful.desks q.port).published ((s.lawful.desks q.port).versioned ready.connected)

  pub published : published_as (map publication_of w.sets) home.version ≡ Some present_set.0
  published = ap (λ sets. published_as sets home.version) (sym s.sets) ∙ present_set.1

  pub strong : AreSolid present_set.0
  strong = set_solid (past w.history).sets home.version present_set.0 s.lawful.solid present_set.1

  abbrev pub new : Job
  new = new_job home.version q.id q.stream q.generation (length bytes)

  pub first : service_step home (service_events.Receives (scan_for w q)) ≡ scan_cached home new (look q.stream q.generation home.version home.cache)
  unfolding service_step receives scan_found
  first = cond-true (home.connected && same_port q.port home.port) _ _ (and_from home.connected (same_port q.port home.port) ready.connected (subst (λ at. same_port q.port at ≡ true) (sym placed) (same_port-refl q.port))) ∙ ap (scan_found home new) ready.no_job

  -- a verdict that is right for the question is the one
  pub the_verdict : (r : Verdict) → IsVerdictOf (past w.history) q.stream q.generation home.version r → r ≡ verdict present_set.0 bytes
  the_verdict r h =
      let sets : Some h.patterns ≡ Some present_set.0 = sym h.published ∙ present_set.1 in
      let set : h.patterns ≡ present_set.0 = cc (sets) in
      let contents : Some h.bytes ≡ Some bytes = sym h.held ∙ held in
      let same : h.bytes ≡ bytes = cc (contents) in
      h.right ∙ (ap (λ x. verdict x h.bytes) set ∙ ap (verdict present_set.0) same)

  at_once : (r : Response) (x : Verdict) → service_step home (service_events.Receives (scan_for w q)) ≡ r → r.messages ≡ via q.port (Reply q.id (Judged home.version x)) ∷ [] → x ≡ verdict present_set.0 bytes → EndsWithVerdict w q n
  unfolding rounds
  at_once r x is sends same = record {
    bytes = bytes;
    held = held;
    patterns = present_set.0;
    published = published;
    count = 0;
    within = omega arith;
    replied = ap (λ (y : Response). y.messages) is ∙ (sends ∙ ap (λ y. via q.port (Reply q.id (Judged home.version y)) ∷ []) same);
  }

  pub leases_known : (js : List Job) → Each (JobFits (past w.history) w.down home.port (works_of q.port w.works) home.last_lease home.version) js → Each (λ (j : Job). UpTo home.last_lease j.loan) js
  leases_known js h = each_weaker (JobFits (past w.history) w.down home.port (works_of q.port w.works) home.last_lease home.version) (λ (j : Job). UpTo home.last_lease j.loan) (λ j k. up_to j.scan k.rest j.loan k.loan) js h
    where
      up_to : (scan : ScanState) (rest : List ℕ) (o : Option Loan) → LoanFits (works_of q.port w.works) home.last_lease home.version scan rest o → UpTo home.last_lease o
      up_to scan rest None h = tt
      up_to scan rest (Some l) h = h.0

  -- what the service answers where nothing is cached: at once, or with a job
  abbrev pub empty : Response
  empty = sends (record home { cache = remember home new Clean }) (Reply q.id (Judged home.version Clean) ∷ [])

  abbrev pub waiting : Response
  waiting = sends (record home { jobs = home.jobs ++ new ∷ [] }) (read_message home.limits new ∷ [])

  by_cache : (o : Option Entry) → look q.stream q.generation home.version home.cache ≡ o → EndsWithVerdict w q n
  unfolding scan_cached verdict verdict_to
  by_cache (Some e) at =
      at_once _ e.verdict (first ∙ ap (scan_cached home new) at) (λ i. via (placed i) (Reply q.id (Judged home.version e.verdict)) ∷ []) (the_verdict e.verdict (look_right (past w.history) q.stream q.generation home.version home.cache e (s.lawful.desks q.port).cache at))
  by_cache None at =
      let is : service_step home (service_events.Receives (scan_for w q)) ≡ scan_cached home new None = first ∙ ap (scan_cached home new) at in
      let free : nat_le home.limits.jobs (length home.jobs) ≡ false = lt-leb home.limits.jobs (length home.jobs) ready.room in
      let begun : scan_cached home new None ≡ (if length bytes == 0 then empty else waiting) = cond-false (nat_le home.limits.jobs (length home.jobs)) _ _ free in
      let go : (b : Bool) → (length bytes == 0) ≡ b → EndsWithVerdict w q n = elim [
        | true ↦ λ e.
            let nothing : bytes ≡ [] = nil_from_length bytes (eqb-true (length bytes) 0 e) in
            let clean : Clean ≡ verdict present_set.0 bytes = subst (λ bs. Clean ≡ verdict present_set.0 bs) (sym nothing) (sym (nothing_clean 0 present_set.0 (set_solid (past w.history).sets home.version present_set.0 s.lawful.solid present_set.1))) in
            at_once empty Clean (is ∙ (begun ∙ cond-true (length bytes == 0) empty waiting e)) (λ i. via (placed i) (Reply q.id (Judged home.version Clean)) ∷ []) clean
        | false ↦ λ e.
            let starts : service_step home (service_events.Receives (scan_for w q)) ≡ waiting = is ∙ (begun ∙ cond-false (length bytes == 0) empty waiting e) in
            let some : length bytes ≢ 0 = eqb-false (length bytes) 0 e in
            let known : Waits w.table w.volume (map publication_of w.sets) q bytes present_set.0 strong ready.runs refl waiting.desk new = record {
              on = ready.connected;
              port = placed;
              job = find_last q.id new home.jobs (same_id-refl q.id) ready.no_job;
              id = refl;
              free = refl;
              judged = [];
              rest = bytes;
              front = refl;
              counted = refl;
              scanned = sym (laws.begun home.version (length bytes) present_set.0 strong);
              size = refl;
              left = omega arith;
              leases = each-append (λ (j : Job). UpTo home.last_lease j.loan) home.jobs (new ∷ []) (leases_known home.jobs (s.lawful.desks q.port).jobs) (tt, tt);
              published = published;
              some = ready.chunk;
            } in
            let end = ends w.table w.volume (map publication_of w.sets) q bytes present_set.0 strong ready.runs refl n (min home.limits.chunk w.table.limits.chunk) waiting.desk new refl known (omega (arith, ready.enough)) ready.leases (service_step home (service_events.Receives (scan_for w q))) (ap (λ (y : Response). y.desk) starts) (ap (λ (y : Response). y.messages) starts) in
            record { bytes = bytes; held = held; patterns = present_set.0; published = published; count = end.0; within = end.1; replied = end.2 }
      ] in
      go (length bytes == 0) refl

  pub ends_with_verdict : EndsWithVerdict w q n
  ends_with_verdict = by_cache _ refl

-- in every world
pub path_ends : (number : ℕ) (mode : Mode) (limits : LimitValues) (es : List Event) (q : Question) (n : ℕ) → IsReady (world_of (start number mode limits) es) q n → EndsWithVerdict (world_of (start number mode limits) es) q n
path_ends number mode limits es q n ready = ends_with_verdict mode (world_of (start number mode limits) es) (sound number mode limits es) q n (by_port (world_of (start number mode limits) es) (at_ports number mode limits es) q.port) ready
