-- One question is settled: its scan, its rounds and its reply, as events of a world.
use Rattle.std.proofs.Common.{◌≡◌, ◌≢◌, ℕ, zero, suc, ◌+◌, ◌-◌, ◌*◌, ◌<◌, ◌≤◌, Bool, true, false, List, [], ◌∷◌, ◌++◌, length, map, reverse, Option, Some, None, eqb-true, if◌then◌else◌, ◌==◌, nat_lt, nat_le, min, refl, sym, ap, ◌∙◌, subst, arith, length-append, append-nil, le-ltb}
use Rattle.std.proofs.lemmas.Bool.{true≢false, cond-true, cond-false, eqb-false, lt-leb}
use Rattle.std.proofs.lemmas.List.{nil_from_length}
use Rattle.std.specs.List.{AllByRecursion as Each}
use Rattle.av_base.proofs.KeyLemmas.{same_id-refl}
use Rattle.av_base.specs.declared.mode.Mode.{Mode}
use Rattle.av_base.specs.Port.{same_port}
use Rattle.av_base.specs.declared.port.Port.{Port}
use Rattle.av_base.specs.declared.port.Port.TheVariants.{One, Two}
use Rattle.av_base.specs.declared.verdict.Verdict.{Verdict}
use Rattle.av_base.specs.declared.verdict.Verdict.TheVariants.{Clean}
use Rattle.av_base.specs.MessageId.{same_id}
use Rattle.av_cache.specs.Cache.{look}
use Rattle.av_cache.specs.declared.entry.Entry.{Entry}
use Rattle.av_filter.proofs.EachLemmas.{each_weaker, each-append}
use Rattle.av_filter.specs.Conduct.{filter_step}
use Rattle.av_filter.specs.Conduct as filter_events
use Rattle.av_filter.specs.declared.note.Note.TheVariants as filter_note
use Rattle.av_filter_table.specs.declared.pended.Pended.{Pended}
use Rattle.av_filter_table.specs.declared.question.Question.{Question}
use Rattle.av_filter.specs.Reaction.{Reaction}
use Rattle.av_filter_table.specs.Answering.{judged as answer_for, present_bytes, stream_bytes}
use Rattle.av_filter.specs.Reaction as reaction
use Rattle.av_filter.specs.Receiving.{reads, receives_at as filter_receives, replies}
use Rattle.av_filter_table.specs.Asking.{settled}
use Rattle.av_filter_table.specs.Table.{opens_of, question_on}
use Rattle.av_frame.specs.Message.{via}
use Rattle.av_frame.specs.declared.message.Body.TheVariants.{Chunk, Reply}
use Rattle.av_frame.specs.declared.outcome.Outcome.TheVariants.{Judged}
use Rattle.av_match.proofs.RunLemmas.{scanner_meets as laws}
use Rattle.av_match.specs.Match.{verdict, verdict_to, if_hit}
use Rattle.av_match.specs.Scanning.{AreSolid, ScanState, scanner}
use Rattle.av_service.specs.Conduct.{service_step}
use Rattle.av_service.specs.Conduct as service_events
use Rattle.av_service.specs.declared.job.Job.{Job}
use Rattle.av_service.specs.declared.note.ServiceNote.TheVariants.{Quiet}
use Rattle.av_service.specs.Work.{WorkState}
use Rattle.av_service.specs.Desk.{Desk, advanced, without_job, with_job}
use Rattle.av_service.specs.Lending.{closes, finished}
use Rattle.av_service.specs.Response.{Response, read_message, sends}
use Rattle.av_service.specs.Scanning.{most_leases, scan_cached}
use Rattle.av_sigset.specs.declared.signature.Pattern.{Pattern}
use Rattle.av_history.proofs.DeskLemmas.{hit_whole, no_hit, nothing_clean}
use Rattle.av_history.proofs.FilterLemmas.{look_right}
use Rattle.av_world.proofs.PathLemmas.{Waits, UpTo, find_last, found_put, put_each, up_more}
use Rattle.av_world.proofs.PathLemmas as path
use Rattle.av_world.proofs.ProgressLemmas.{the_asked, back_onto, down_step, get_last, member_last, onward-append, run_step, scan_there, up_step}
use Rattle.av_world.proofs.SoundLemmas.{Sound}
use Rattle.av_history.specs.declared.event.Event.{Event}
use Rattle.av_history.specs.declared.event.Event.TheVariants.{Down, Up, Run}
use Rattle.av_history.specs.Past.{IsVerdictOf, past}
use Rattle.av_world.specs.Path.{IsReady, scan_for}
use Rattle.av_world.specs.Progress.{IsCarrying, before_scan, is_reply, last_up, onward, round, scan_comes, to_reply}
use Rattle.av_sigset.specs.Publication.{Publication, publication_of}
use Rattle.av_history.specs.World.{WorldState, after, back_at, desk_of, done, given_at, if_there, member, reacted, responded, with_desk}

-- where the only job of an id is put away, none is left
gone : (k j : Job) → k.id ≡ j.id → without_job k.id (with_job k (j ∷ [])) ≡ []
gone k j same =
    let here : same_id j.id k.id ≡ true = subst (λ i. same_id i k.id ≡ true) same (same_id-refl k.id) in
    let self : same_id k.id k.id ≡ true = same_id-refl k.id in
    rw here (rw self refl)

put_one : (k j : Job) → k.id ≡ j.id → with_job k (j ∷ []) ≡ k ∷ []
put_one k j same =
    let here : same_id j.id k.id ≡ true = subst (λ i. same_id i k.id ≡ true) same (same_id-refl k.id) in
    rw here refl

-- the service that heard, and the one that did not
own_desk : (w : WorldState) (port : Port) (d : Desk) → desk_of (with_desk w port d) port ≡ d
own_desk w One d = refl
own_desk w Two d = refl

other_desk : (w : WorldState) (port : Port) (d : Desk) (at : Port) → same_port at port ≡ false → desk_of (with_desk w port d) at ≡ desk_of w at
other_desk w One d One e = absurd (true≢false e)
other_desk w One d Two e = refl
other_desk w Two d One e = refl
other_desk w Two d Two e = absurd (true≢false e)

module _ (mode : Mode) (w : WorldState) (s : Sound mode w) (q : Question) (n : ℕ) (placed : (desk_of w q.port).port ≡ q.port) (ready : IsReady w q n) (idle : (desk_of w q.port).jobs ≡ []) (reached : w.table.floor ≤ (desk_of w q.port).version) where
  -- the service of its port
  abbrev home : Desk
  home = desk_of w q.port

  -- the other is as it was
  abbrev pub OtherStays : WorldState → WorldState → Type 0
  OtherStays u x = (at : Port) → same_port at q.port ≡ false → desk_of x at ≡ desk_of u at

  abbrev sets : List Publication
  sets = map publication_of w.sets

  abbrev pub bytes : List ℕ
  bytes = path.bytes mode w s q n placed ready

  abbrev pub set : List Pattern
  set = (path.present_set mode w s q n placed ready).0

  abbrev pub found_verdict : Verdict
  found_verdict = verdict set bytes

  abbrev IsWaiting : Desk → Job → Type 0
  IsWaiting d j = Waits w.table w.volume sets q bytes set (path.strong mode w s q n placed ready) ready.runs refl d j

  -- a world on the way: what the filter knows, the volume, the sets and the answers are as they were, and the service has its version and limits
  record Way (u : WorldState) : Type 0 where
    table : u.table ≡ w.table
    volume : u.volume ≡ w.volume
    same_sets : u.sets ≡ w.sets
    answers : u.answers ≡ w.answers
    version : (desk_of u q.port).version ≡ home.version
    limits : (desk_of u q.port).limits ≡ home.limits
    on : (desk_of u q.port).connected ≡ true

  abbrev pub opens_waiting : List Pended
  opens_waiting = opens_of q.id w.table.pended

  -- the world x in which the question is settled, and how it was reached from u
  pub record Settled (u x : WorldState) (es : List Event) (m : ℕ) : Type 0 where
    pub happened : x.history ≡ reverse es ++ u.history
    pub carries : Each IsCarrying es
    pub table : x.table ≡ settled w.table q home.version found_verdict
    pub volume : x.volume ≡ w.volume
    pub same_sets : x.sets ≡ w.sets
    pub event : ℕ
    pub answers : x.answers ≡ w.answers ++ map (given_at event) (map (λ p. answer_for found_verdict q.generation home.version p.held) opens_waiting)
    pub version : (desk_of x q.port).version ≡ home.version
    pub limits : (desk_of x q.port).limits ≡ home.limits
    pub on : (desk_of x q.port).connected ≡ true
    pub no_jobs : (desk_of x q.port).jobs ≡ []
    pub leases : (desk_of x q.port).last_lease ≤ (desk_of u q.port).last_lease + m
    pub others : OtherStays u x

  -- the reply comes
  abbrev reaction_to_reply : Reaction
  reaction_to_reply = record {
    table = settled w.table q home.version found_verdict;
    volume = w.volume;
    answers = map (λ p. answer_for found_verdict q.generation home.version p.held) opens_waiting;
    messages = [];
    note = filter_note.Quiet;
  }

  settles : filter_step w.table w.volume (filter_events.Receives (via q.port (Reply q.id (Judged home.version found_verdict)))) ≡ reaction_to_reply
  unfolding filter_step filter_receives replies
  settles =
      ap (replies w.table w.volume (Judged home.version found_verdict)) ready.runs
      ∙ cond-false (nat_lt home.version w.table.floor) _ _ (le-ltb home.version w.table.floor reached)

  reply_comes : (u : WorldState) (m : ℕ) → Way u → (desk_of u q.port).jobs ≡ [] → member u.up (length u.up) ≡ Some (via q.port (Reply q.id (Judged home.version found_verdict))) → Settled u (onward (last_up u ∷ []) u) (last_up u ∷ []) m
  unfolding onward
  reply_comes u m way none last =
      let is : after u (last_up u) ≡ reacted u (last_up u) reaction_to_reply =
      up_step u (length u.up) (via q.port (Reply q.id (Judged home.version found_verdict))) last
      ∙ ap (reacted u (last_up u)) ((λ i. filter_step (way.table i) (way.volume i) (filter_events.Receives (via q.port (Reply q.id (Judged home.version found_verdict))))) ∙ settles) in
      subst (λ x. Settled u x (last_up u ∷ []) m) (sym is) (record {
        happened = refl;
        carries = (tt, tt);
        table = refl;
        volume = refl;
        same_sets = way.same_sets;
        event = suc (length u.history);
        answers = ap (λ xs. xs ++ map (given_at (suc (length u.history))) reaction_to_reply.answers) way.answers;
        version = way.version;
        limits = way.limits;
        on = way.on;
        no_jobs = none;
        leases = omega arith;
        others = λ at e. refl;
      })

  replied_now : (m : ℕ) (u : WorldState) → member u.up (length u.up) ≡ Some (via q.port (Reply q.id (Judged home.version found_verdict))) → to_reply m u ≡ last_up u ∷ []
  unfolding to_reply
  replied_now zero u last = refl
  replied_now (suc m) u last = cond-true (is_reply (member u.up (length u.up))) _ _ (ap is_reply last)

  replied : (m : ℕ) (u : WorldState) → Way u → (desk_of u q.port).jobs ≡ [] → member u.up (length u.up) ≡ Some (via q.port (Reply q.id (Judged home.version found_verdict))) → Settled u (onward (to_reply m u) u) (to_reply m u) m
  replied m u way none last = subst (λ es. Settled u (onward es u) es m) (sym (replied_now m u last)) (reply_comes u m way none last)

  -- further on the way: what settles the later world settles the earlier one
  further_on : (u x y : WorldState) (es fs : List Event) (a b : ℕ) → Each IsCarrying es → x.history ≡ reverse es ++ u.history → (desk_of x q.port).last_lease ≤ (desk_of u q.port).last_lease + a → OtherStays u x → Settled x y fs b → Settled u y (es ++ fs) (a + b)
  further_on u x y es fs a b carry came lent still f = record {
    happened = f.happened ∙ (ap (λ h. reverse fs ++ h) came ∙ sym (back_onto es fs u.history));
    carries = each_joined es fs carry f.carries;
    table = f.table;
    volume = f.volume;
    same_sets = f.same_sets;
    event = f.event;
    answers = f.answers;
    version = f.version;
    limits = f.limits;
    on = f.on;
    no_jobs = f.no_jobs;
    leases = omega (arith, lent, f.leases);
    others = λ at e. f.others at e ∙ still at e;
  }
    where
      each_joined : (xs ys : List Event) → Each IsCarrying xs → Each IsCarrying ys → Each IsCarrying (xs ++ ys)
      each_joined [] ys p q = q
      each_joined (x ∷ xs) ys p q = (p.0, each_joined xs ys p.1 q)

  -- a read is the last message up, and the only job waits for what it asks
  record Reading (u : WorldState) (j : Job) : Type 0 where
    waits : IsWaiting (desk_of u q.port) j
    only : (desk_of u q.port).jobs ≡ j ∷ []
    last : member u.up (length u.up) ≡ Some (via q.port (read_message (desk_of u q.port).limits j))

  module _ (u : WorldState) (j : Job) (way : Way u) (r : Reading u j) (numbered : (desk_of u q.port).last_lease < most_leases) where
    abbrev strong : AreSolid set
    strong = path.strong mode w s q n placed ready

    abbrev part : List ℕ
    part = path.part w.table w.volume sets q bytes set strong ready.runs refl (desk_of u q.port) j r.waits numbered

    abbrev lent : Job
    lent = path.lent_job w.table w.volume sets q bytes set strong ready.runs refl (desk_of u q.port) j r.waits numbered

    abbrev work : WorkState
    work = path.work w.table w.volume sets q bytes set strong ready.runs refl (desk_of u q.port) j r.waits numbered

    abbrev desk : Desk
    desk = path.desk w.table w.volume sets q bytes set strong ready.runs refl (desk_of u q.port) j r.waits numbered

    abbrev scan : ScanState
    scan = path.after w.table w.volume sets q bytes set strong ready.runs refl (desk_of u q.port) j r.waits numbered

    abbrev e1 : Event
    e1 = Up (length u.up)

    abbrev u1 : WorldState
    u1 = reacted u e1 (reaction.sends w.table w.volume (via q.port (Chunk j.id j.offset part)))

    abbrev e2 : Event
    e2 = Down (suc (length u.down))

    abbrev u2 : WorldState
    u2 = responded u1 e2 q.port (record { desk = desk; messages = []; works = work ∷ []; note = Quiet })

    abbrev e3 : Event
    e3 = Run (suc (length u.works))

    abbrev u3 : Response → WorldState
    u3 x = responded (back_at u2 (suc (length u.works))) e3 q.port x

    -- the service after the round, and the other
    home_then : (x : Response) → desk_of (u3 x) q.port ≡ x.desk
    home_then x = own_desk (back_at u2 (suc (length u.works))) q.port x.desk

    other_then : (x : Response) → OtherStays u (u3 x)
    other_then x at e = other_desk (back_at u2 (suc (length u.works))) q.port x.desk at e ∙ other_desk u1 q.port desk at e

    chunk_sent : filter_step w.table w.volume (filter_events.Receives (via q.port (read_message (desk_of u q.port).limits j))) ≡ reaction.sends w.table w.volume (via q.port (Chunk j.id j.offset part))
    unfolding filter_step filter_receives reads
    chunk_sent =
        let asked : question_on q.port j.id w.table.questions ≡ Some q = subst (λ i. question_on q.port i w.table.questions ≡ Some q) (sym r.waits.id) ready.runs in
        let inside : nat_le (length (present_bytes w.volume q.stream)) (j.offset) ≡ false = lt-leb (length (present_bytes w.volume q.stream)) (j.offset) r.waits.left in
        ap (reads w.table w.volume q.port j.id j.offset (min (desk_of u q.port).limits.chunk (j.length - j.offset))) asked ∙ cond-false (nat_le (length (present_bytes w.volume q.stream)) j.offset) _ _ inside

    step1 : after u e1 ≡ u1
    step1 =
        up_step u (length u.up) (via q.port (read_message (desk_of u q.port).limits j)) r.last
        ∙ ap (reacted u e1) ((λ i. filter_step (way.table i) (way.volume i) (filter_events.Receives (via q.port (read_message (desk_of u q.port).limits j)))) ∙ chunk_sent)

    step2 : after u1 e2 ≡ u2
    step2 =
        down_step u1 (suc (length u.down)) (via q.port (Chunk j.id j.offset part)) (get_last u.down (via q.port (Chunk j.id j.offset part)))
        ∙ ap (responded u1 e2 q.port) (subst (λ port. service_step (desk_of u q.port) (service_events.Receives (via port (Chunk j.id j.offset part))) ≡ record { desk = desk; messages = []; works = work ∷ []; note = Quiet }) r.waits.port
        (path.lends w.table w.volume sets q bytes set strong ready.runs refl (desk_of u q.port) j r.waits numbered))

    comes_back : service_step desk (done (map publication_of u.sets) work) ≡ finished desk scan (scanner.hit scan) (Some lent)
    unfolding service_step
    comes_back =
        ap (λ ss. service_step desk (done (map publication_of ss) work)) way.same_sets
        ∙ ap (finished desk scan (scanner.hit scan)) (path.found w.table w.volume sets q bytes set strong ready.runs refl (desk_of u q.port) j r.waits numbered)

    step3 : after u2 e3 ≡ u3 (finished desk scan (scanner.hit scan) (Some lent))
    step3 =
        run_step u2 (suc (length u.works)) q.port work (ap if_there (get_last u.works (Some (q.port, work))))
        ∙ (ap (λ d. u3 (service_step d (done (map publication_of u.sets) work))) (own_desk u1 q.port desk) ∙ ap u3 comes_back)

    round_is : onward (round u) u ≡ u3 (finished desk scan (scanner.hit scan) (Some lent))
    unfolding onward
    round_is = ap (λ x. after (after x e2) e3) step1 ∙ (ap (λ x. after x e3) step2 ∙ step3)

    came : (x : Response) → (u3 x).history ≡ reverse (round u) ++ u.history
    came x = refl

    no_new : (x : Response) → (u3 x).answers ≡ w.answers
    no_new x = append-nil u.answers ∙ way.answers

    -- the world that a response leads to is settled by the rest of the events
    abbrev SettledFrom : WorldState → ℕ → Type 0
    SettledFrom x m = Settled x (onward (to_reply m x) x) (to_reply m x) m

    whole_round : (m : ℕ) (x : Response) → finished desk scan (scanner.hit scan) (Some lent) ≡ x → x.desk.last_lease ≡ (desk_of u q.port).last_lease + 1 → SettledFrom (u3 x) m → SettledFrom u (suc m)
    unfolding to_reply
    whole_round m x is lease f =
        let next : WorldState = onward (round u) u in
        let at : next ≡ u3 x = round_is ∙ ap u3 is in
        let from : SettledFrom next m = subst (λ y. SettledFrom y m) (sym at) f in
        let history : next.history ≡ reverse (round u) ++ u.history = ap (λ (y : WorldState). y.history) at ∙ came x in
        let last_lease : (desk_of next q.port).last_lease ≡ (desk_of u q.port).last_lease + 1 = ap (λ (y : WorldState). (desk_of y q.port).last_lease) at ∙ (ap (λ (d : Desk). d.last_lease) (home_then x) ∙ lease) in
        let still : OtherStays u next = λ port e. ap (λ (y : WorldState). desk_of y port) at ∙ other_then x port e in
        let joined : Settled u (onward (to_reply m next) next) (round u ++ to_reply m next) (1 + m) = further_on u next (onward (to_reply m next) next) (round u) (to_reply m next) 1 m (tt, (tt, (tt, tt))) history (omega (arith, last_lease)) still from in
        let there : onward (to_reply m next) next ≡ onward (round u ++ to_reply m next) u = sym (onward-append (round u) (to_reply m next) u) in
        let all : to_reply (suc m) u ≡ round u ++ to_reply m next = cond-false (is_reply (member u.up (length u.up))) _ _ (ap is_reply r.last) in
        let count : 1 + m ≡ suc m = omega arith in
        subst (λ es. Settled u (onward es u) es (suc m)) (sym all)
        (subst (λ y. Settled u y (round u ++ to_reply m next) (suc m)) there (subst (λ k. Settled u (onward (to_reply m next) next) (round u ++ to_reply m next) k) count joined))

    -- the job ends with the verdict
    closed : (m : ℕ) (x : Verdict) → x ≡ found_verdict → SettledFrom (u3 (closes desk lent x)) m
    closed m x same =
        let v : WorldState = u3 (closes desk lent x) in
        let none : without_job lent.id (with_job lent (desk_of u q.port).jobs) ≡ [] = ap (λ js. without_job lent.id (with_job lent js)) r.only ∙ gone lent j refl in
        let told : member v.up (length v.up) ≡ Some (via q.port (Reply q.id (Judged home.version found_verdict))) =
        member_last (u.up ++ []) (via desk.port (Reply lent.id (Judged desk.version x))) ∙ (λ i. Some (via (r.waits.port i) (Reply (r.waits.id i) (Judged (way.version i) (same i))))) in
        let at : desk_of v q.port ≡ (closes desk lent x).desk = home_then (closes desk lent x) in
        replied m v
        (record {
          table = refl;
          volume = refl;
          same_sets = way.same_sets;
          answers = no_new (closes desk lent x);
          version = ap (λ (d : Desk). d.version) at ∙ way.version;
          limits = ap (λ (d : Desk). d.limits) at ∙ way.limits;
          on = ap (λ (d : Desk). d.connected) at ∙ r.waits.on;
        }) (ap (λ (d : Desk). d.jobs) at ∙ none) told

    -- or it waits again
    abbrev further : Job
    further = advanced scan lent

    abbrev reads_on : Response
    reads_on = sends (record desk { jobs = with_job further desk.jobs }) (read_message desk.limits further ∷ [])

    abbrev rest_left : List ℕ
    rest_left = (path.further w.table w.volume sets q bytes set strong ready.runs refl (desk_of u q.port) j r.waits numbered).0

    joined_is : (r.waits.judged ++ part) ++ rest_left ≡ bytes
    joined_is = (path.further w.table w.volume sets q bytes set strong ready.runs refl (desk_of u q.port) j r.waits numbered).1

    judged_more : length (r.waits.judged ++ part) ≡ j.offset + length part
    judged_more = path.judged_more w.table w.volume sets q bytes set strong ready.runs refl (desk_of u q.port) j r.waits numbered

    part_size : length part ≡ min (min (desk_of u q.port).limits.chunk (j.length - j.offset)) (min w.table.limits.chunk (length bytes - j.offset))
    part_size = path.part_size w.table w.volume sets q bytes set strong ready.runs refl (desk_of u q.port) j r.waits numbered

    sizes : length (r.waits.judged ++ part) + length rest_left ≡ length bytes
    sizes = sym (length-append (r.waits.judged ++ part) rest_left) ∙ ap length joined_is

    waits_then : j.offset + length part ≢ j.length → IsWaiting reads_on.desk further
    waits_then less = record {
      on = r.waits.on;
      port = r.waits.port;
      job = found_put further q.id lent desk.jobs r.waits.id r.waits.id (found_put lent q.id j (desk_of u q.port).jobs r.waits.id r.waits.id r.waits.job);
      id = r.waits.id;
      free = refl;
      judged = r.waits.judged ++ part;
      rest = rest_left;
      front = joined_is;
      counted = judged_more;
      scanned = path.scanned_now w.table w.volume sets q bytes set strong ready.runs refl (desk_of u q.port) j r.waits numbered;
      size = r.waits.size;
      left = omega (arith, sizes, r.waits.size, judged_more, less);
      leases = put_each (λ (x : Job). UpTo ((desk_of u q.port).last_lease + 1) x.loan) further desk.jobs tt
          (put_each (λ (x : Job). UpTo ((desk_of u q.port).last_lease + 1) x.loan) lent (desk_of u q.port).jobs (omega arith)
          (each_weaker (λ (x : Job). UpTo (desk_of u q.port).last_lease x.loan) (λ (x : Job). UpTo ((desk_of u q.port).last_lease + 1) x.loan) (λ x h. up_more (desk_of u q.port).last_lease x.loan h) (desk_of u q.port).jobs r.waits.leases));
      published = r.waits.published;
      some = r.waits.some;
    }

    waits_on : j.offset + length part ≢ j.length → Reading (u3 reads_on) further
    waits_on less =
        let at : reads_on.desk ≡ desk_of (u3 reads_on) q.port = sym (home_then reads_on) in
        record {
          waits = subst (λ (d : Desk). IsWaiting d further) at (waits_then less);
          only = ap (λ (d : Desk). d.jobs) (sym at) ∙ (ap (λ js. with_job further (with_job lent js)) r.only ∙ (ap (with_job further) (put_one lent j refl) ∙ put_one further lent refl));
          last = member_last (u.up ++ []) (via desk.port (read_message desk.limits further)) ∙ (λ i. Some (via (r.waits.port i) (read_message ((at i).limits) further)));
        }

    -- what is asked of a later world on the way
    abbrev GoesOn : ℕ → ℕ → Type 0
    GoesOn m c = (v : WorldState) (k : Job) → c ≡ min (desk_of v q.port).limits.chunk w.table.limits.chunk → Way v → Reading v k → length bytes ≤ k.offset + m * c → (desk_of v q.port).last_lease + m ≤ most_leases → SettledFrom v m

    by_hit : (m c : ℕ) → GoesOn m c → c ≡ min (desk_of u q.port).limits.chunk w.table.limits.chunk → length bytes ≤ j.offset + suc m * c → (desk_of u q.port).last_lease + suc m ≤ most_leases
        → (hit : Option Verdict) → scanner.hit scan ≡ hit → hit ≡ if_hit (verdict set (r.waits.judged ++ part)) → SettledFrom u (suc m)
    unfolding finished
    by_hit m c go chunk enough free (Some x) at_hit is =
        let same : x ≡ found_verdict = hit_whole set (r.waits.judged ++ part) rest_left x is ∙ ap (verdict set) joined_is in
        whole_round m (closes desk lent x) (ap (λ h. finished desk scan h (Some lent)) at_hit) refl (closed m x same)
    by_hit m c go chunk enough free None at_hit is =
        let go_by : (b : Bool) → (j.offset + length part == j.length) ≡ b → SettledFrom u (suc m) = elim [
          | true ↦ λ e.
              let none : rest_left ≡ [] = nil_from_length rest_left (omega (arith, sizes, r.waits.size, judged_more, eqb-true _ j.length e)) in
              let whole : r.waits.judged ++ part ≡ bytes = sym (append-nil (r.waits.judged ++ part)) ∙ (ap (λ ys. (r.waits.judged ++ part) ++ ys) (sym none) ∙ joined_is) in
              let clean : Clean ≡ found_verdict = no_hit (verdict set (r.waits.judged ++ part)) is ∙ ap (verdict set) whole in
              whole_round m (closes desk lent Clean) (ap (λ h. finished desk scan h (Some lent)) at_hit ∙ cond-true (j.offset + length part == j.length) _ _ e) refl (closed m Clean clean)
          | false ↦ λ e.
              let less : j.offset + length part ≢ j.length = eqb-false _ j.length e in
              let left : j.offset + length part < length bytes = omega (arith, sizes, r.waits.size, judged_more, less) in
              let v : WorldState = u3 reads_on in
              let at : desk_of v q.port ≡ reads_on.desk = home_then reads_on in
              let on : Way v = record { table = refl; volume = refl; same_sets = way.same_sets; answers = no_new reads_on; version = ap (λ (d : Desk). d.version) at ∙ way.version; limits = ap (λ (d : Desk). d.limits) at ∙ way.limits; on = ap (λ (d : Desk). d.connected) at ∙ r.waits.on } in
              whole_round m reads_on (ap (λ h. finished desk scan h (Some lent)) at_hit ∙ cond-false (j.offset + length part == j.length) _ _ e) refl
              (go v further (chunk ∙ ap (λ (d : Desk). min d.limits.chunk w.table.limits.chunk) (sym at)) on (waits_on less) (omega (arith, enough, part_size, left, r.waits.size, chunk)) (omega (arith, free, ap (λ (d : Desk). d.last_lease) at)))
        ] in
        go_by (j.offset + length part == j.length) refl

  -- rounds, up to the reply, settle
  goes : (m c : ℕ) (u : WorldState) (j : Job) → c ≡ min (desk_of u q.port).limits.chunk w.table.limits.chunk → Way u → Reading u j → length bytes ≤ j.offset + m * c → (desk_of u q.port).last_lease + m ≤ most_leases → Settled u (onward (to_reply m u) u) (to_reply m u) m
  goes zero c u j chunk way r enough free = absurd (omega (arith, r.waits.left, enough))
  goes (suc m) c u j chunk way r enough free =
      let numbered : (desk_of u q.port).last_lease < most_leases = omega (arith, free) in
      by_hit u j way r numbered m c (goes m c) chunk enough free (scanner.hit (scan u j way r numbered)) refl
      (path.hit_is w.table w.volume sets q bytes set (path.strong mode w s q n placed ready) ready.runs refl (desk_of u q.port) j r.waits numbered)

  -- ---- the scan

  scan_at : member w.down (suc (before_scan q.id w.down)) ≡ Some (scan_for w q)
  scan_at =
      let run = path.run mode w s q n placed ready in
      scan_there w.down q.id q.port q.stream q.generation (length bytes) (run.told ∙ ap (λ o. Some (the_asked q.port q.stream q.generation (length (stream_bytes o)))) (sym run.here))

  abbrev first_event : Event
  first_event = scan_comes w q

  scanned : (x : Response) → service_step home (service_events.Receives (scan_for w q)) ≡ x → x.desk.last_lease ≡ home.last_lease
      → Settled (responded w first_event q.port x) (onward (to_reply n (responded w first_event q.port x)) (responded w first_event q.port x)) (to_reply n (responded w first_event q.port x)) n
      → Settled w (onward (first_event ∷ to_reply n (after w first_event)) w) (first_event ∷ to_reply n (after w first_event)) n
  unfolding onward
  scanned x is lease f =
      let at : after w first_event ≡ responded w first_event q.port x = down_step w (suc (before_scan q.id w.down)) (scan_for w q) scan_at ∙ ap (responded w first_event q.port) is in
      let next : WorldState = after w first_event in
      let from : Settled next (onward (to_reply n next) next) (to_reply n next) n = subst (λ y. Settled y (onward (to_reply n y) y) (to_reply n y) n) (sym at) f in
      let last_lease : (desk_of next q.port).last_lease ≡ home.last_lease = ap (λ (y : WorldState). (desk_of y q.port).last_lease) at ∙ (ap (λ (d : Desk). d.last_lease) (own_desk w q.port x.desk) ∙ lease) in
      let still : OtherStays w next = λ port e. ap (λ (y : WorldState). desk_of y port) at ∙ other_desk w q.port x.desk port e in
      let none : 0 + n ≡ n = omega arith in
      subst (λ k. Settled w (onward (to_reply n next) next) (first_event ∷ to_reply n next) k) none
      (further_on w next (onward (to_reply n next) next) (first_event ∷ []) (to_reply n next) 0 n (tt, tt) (ap (λ (y : WorldState). y.history) at) (omega (arith, last_lease)) still from)

  replied_at_once : (d : Desk) (x : Verdict) → service_step home (service_events.Receives (scan_for w q)) ≡ sends d (Reply q.id (Judged home.version x) ∷ []) → d.port ≡ q.port → d.version ≡ home.version → d.limits ≡ home.limits → d.connected ≡ true → d.jobs ≡ []
      → d.last_lease ≡ home.last_lease → x ≡ found_verdict → Settled w (onward (first_event ∷ to_reply n (after w first_event)) w) (first_event ∷ to_reply n (after w first_event)) n
  replied_at_once d x is port version limits on none lease same =
      let r : Response = sends d (Reply q.id (Judged home.version x) ∷ []) in
      let v : WorldState = responded w first_event q.port r in
      let at : desk_of v q.port ≡ d = own_desk w q.port d in
      scanned r is lease
      (replied n v (record { table = refl; volume = refl; same_sets = refl; answers = refl; version = ap (λ (k : Desk). k.version) at ∙ version; limits = ap (λ (k : Desk). k.limits) at ∙ limits; on = ap (λ (k : Desk). k.connected) at ∙ on }) (ap (λ (k : Desk). k.jobs) at ∙ none)
      (member_last w.up (via d.port (Reply q.id (Judged home.version x))) ∙ (λ i. Some (via (port i) (Reply q.id (Judged home.version (same i)))))))

  by_cache : (o : Option Entry) → look q.stream q.generation home.version home.cache ≡ o → Settled w (onward (first_event ∷ to_reply n (after w first_event)) w) (first_event ∷ to_reply n (after w first_event)) n
  unfolding scan_cached verdict verdict_to
  by_cache (Some e) at =
      let is = path.first mode w s q n placed ready ∙ ap (scan_cached home (path.new mode w s q n placed ready)) at in
      replied_at_once _ e.verdict is placed refl refl ready.connected idle refl (path.the_verdict mode w s q n placed ready e.verdict (look_right (past w.history) q.stream q.generation home.version home.cache e (s.lawful.desks q.port).cache at))
  by_cache None at =
      let new : Job = path.new mode w s q n placed ready in
      let empty : Response = path.empty mode w s q n placed ready in
      let waiting : Response = path.waiting mode w s q n placed ready in
      let is : service_step home (service_events.Receives (scan_for w q)) ≡ scan_cached home new None = path.first mode w s q n placed ready ∙ ap (scan_cached home new) at in
      let free : nat_le home.limits.jobs (length home.jobs) ≡ false = lt-leb home.limits.jobs (length home.jobs) ready.room in
      let begun : scan_cached home new None ≡ (if length bytes == 0 then empty else waiting) = cond-false (nat_le home.limits.jobs (length home.jobs)) _ _ free in
      let go : (b : Bool) → (length bytes == 0) ≡ b → Settled w (onward (first_event ∷ to_reply n (after w first_event)) w) (first_event ∷ to_reply n (after w first_event)) n = elim [
        | true ↦ λ e.
            let nothing : bytes ≡ [] = nil_from_length bytes (eqb-true (length bytes) 0 e) in
            let clean : Clean ≡ found_verdict = subst (λ bs. Clean ≡ verdict set bs) (sym nothing) (sym (nothing_clean 0 set (path.strong mode w s q n placed ready))) in
            replied_at_once _ Clean (is ∙ (begun ∙ cond-true (length bytes == 0) empty waiting e)) placed refl refl ready.connected idle refl clean
        | false ↦ λ e.
            let starts : service_step home (service_events.Receives (scan_for w q)) ≡ waiting = is ∙ (begun ∙ cond-false (length bytes == 0) empty waiting e) in
            let some : length bytes ≢ 0 = eqb-false (length bytes) 0 e in
            let v : WorldState = responded w first_event q.port waiting in
            let at : waiting.desk ≡ desk_of v q.port = sym (own_desk w q.port waiting.desk) in
            let known : IsWaiting waiting.desk new = record {
              on = ready.connected;
              port = placed;
              job = find_last q.id new home.jobs (same_id-refl q.id) ready.no_job;
              id = refl;
              free = refl;
              judged = [];
              rest = bytes;
              front = refl;
              counted = refl;
              scanned = sym (laws.begun home.version (length bytes) set (path.strong mode w s q n placed ready));
              size = refl;
              left = omega arith;
              leases = each-append (λ (j : Job). UpTo home.last_lease j.loan) home.jobs (new ∷ []) (path.leases_known mode w s q n placed ready home.jobs (s.lawful.desks q.port).jobs) (tt, tt);
              published = path.published mode w s q n placed ready;
              some = ready.chunk;
            } in
            scanned waiting starts refl
            (goes n (min home.limits.chunk w.table.limits.chunk) v new (ap (λ (d : Desk). min d.limits.chunk w.table.limits.chunk) at)
            (record { table = refl; volume = refl; same_sets = refl; answers = refl; version = ap (λ (d : Desk). d.version) (sym at); limits = ap (λ (d : Desk). d.limits) (sym at); on = ap (λ (d : Desk). d.connected) (sym at) ∙ ready.connected })
            (record {
              waits = subst (λ (d : Desk). IsWaiting d new) at known;
              only = ap (λ (d : Desk). d.jobs) (sym at) ∙ ap (λ js. js ++ new ∷ []) idle;
              last = member_last w.up (via home.port (read_message home.limits new)) ∙ (λ i. Some (via (placed i) (read_message ((at i).limits) new)));
            }) (omega (arith, ready.enough)) (omega (arith, ready.leases, ap (λ (d : Desk). d.last_lease) at)))
      ] in
      go (length bytes == 0) refl

  -- the question is settled by its events
  pub question_settled : Settled w (onward (scan_comes w q ∷ to_reply n (after w (scan_comes w q))) w) (scan_comes w q ∷ to_reply n (after w (scan_comes w q))) n
  question_settled = by_cache _ refl

  -- with the verdict of what it is about
  pub verdict_is : IsVerdictOf (past w.history) q.stream q.generation home.version found_verdict
  verdict_is = record { patterns = set; bytes = bytes; published = (path.present_set mode w s q n placed ready).1; held = path.held mode w s q n placed ready; right = refl }
