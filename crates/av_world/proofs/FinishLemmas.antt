-- Question after question is settled, until no open waits.
use Rattle.std.proofs.Common.{zero, suc, ◌*◌, length-append, ◌≡◌, ℕ, ◌+◌, ◌<◌, ◌≤◌, Bool, true, false, cond, not, ◌&&◌, List, [], ◌∷◌, ◌++◌, length, map, reverse, filter, Some, ◌==◌, min, refl, sym, ap, ◌∙◌, subst, arith, inl, inr, append_assoc, append-nil}
use Rattle.std.proofs.lemmas.Bool.{and_from, cond-true, cond-false, cond_both, and_right, ne_eqb}
use Rattle.std.proofs.lemmas.Grind.{div_ceil_times}
use Rattle.std.proofs.lemmas.List.{length-map}
use Rattle.std.proofs.lemmas.List.Filters.{length-filter_both}
use Rattle.std.specs.Int.{div_ceil}
use Rattle.std.specs.List.{AllByRecursion as Each}
use Rattle.av_base.proofs.AmongLemmas.{among_left, among_right}
use Rattle.av_base.proofs.KeyLemmas.{same_id-refl, same_port-refl, same_port-true}
use Rattle.av_base.specs.Among.{Among}
use Rattle.av_base.specs.declared.limits.LimitValues.{LimitValues}
use Rattle.av_base.specs.declared.mode.Mode.{Mode}
use Rattle.av_base.specs.Port.{same_port}
use Rattle.av_base.specs.declared.port.Port.{Port}
use Rattle.av_base.specs.declared.port.Port.TheVariants.{One, Two}
use Rattle.av_base.specs.declared.verdict.Verdict.{Verdict}
use Rattle.av_base.specs.MessageId.{same_id}
use Rattle.av_filter.proofs.EachLemmas.{each_weaker, each-append, each-filter_passed, map_same, each_both}
use Rattle.av_filter_table.specs.Asking.{ended, settled}
use Rattle.av_filter_table.specs.declared.pended.Pended.{Pended}
use Rattle.av_filter_table.specs.declared.question.Question.{Question}
use Rattle.av_filter.specs.Fit.{IsAsked}
use Rattle.av_filter_table.specs.Orderly.{AreInOrder}
use Rattle.av_filter_table.specs.Answering.{judged as answer_for, present_bytes, present_generation, stream_generation}
use Rattle.av_filter_table.specs.Table.{Table, on_port, opens_of, other_opens, question_at, question_on, waits_for, without_question}
use Rattle.av_pend.specs.declared.answer.Answer.{Answer}
use Rattle.av_service.specs.Desk.{Desk, job_at}
use Rattle.av_service.specs.Scanning.{most_leases}
use Rattle.av_sigset.specs.Catalogue.{latest}
use Rattle.av_world.proofs.ExplainLemmas.{question_stream}
use Rattle.av_history.proofs.FilterLemmas.{Runs}
use Rattle.av_world.proofs.PlaceLemmas.{by_port}
use Rattle.av_world.proofs.PathLemmas as path
use Rattle.av_world.proofs.ProgressLemmas.{Steady, back_onto, onward-append, past_kept, steady_onward}
use Rattle.av_world.proofs.SettleLemmas.{Settled, question_settled, verdict_is, found_verdict}
use Rattle.av_history.specs.declared.event.Event.{Event}
use Rattle.av_history.specs.declared.given.Given.{Given}
use Rattle.av_history.specs.Past.{IsVerdictOf, past}
use Rattle.av_world.specs.Path.{IsReady}
use Rattle.av_world.specs.Progress.{GetsVerdict, IsCarrying, all_chunks, chunks, is_reply, last_up, onward, round, scan_comes, settling, settling_all, to_reply}
use Rattle.av_history.specs.World.{WorldState, after, desk_of, given_at, member}

-- ---- lists

each_among : {A B : Type 0} (f : A → B) (xs : List A) → Each (λ x. Among (f x) (map f xs)) xs
each_among f [] = tt
each_among f (x ∷ xs) = (inl refl, each_weaker (λ y. Among (f y) (map f xs)) (λ y. Among (f y) (f x ∷ map f xs)) (λ y h. inr h) xs (each_among f xs))

-- what those have that pass, and those that don't, each has
each_parts : {A : Type 0} (P : A → Type 0) (t : A → Bool) (xs : List A) → Each P (filter t xs) → Each P (filter (λ x. not (t x)) xs) → Each P xs
each_parts P t [] p q = tt
each_parts P t (x ∷ xs) p q =
    let go : (b : Bool) → Each P (cond b (x ∷ filter t xs) (filter t xs)) → Each P (cond (not b) (x ∷ filter (λ x. not (t x)) xs) (filter (λ x. not (t x)) xs)) → Each P (x ∷ xs) = elim [
      | true ↦ λ h k. (h.0, each_parts P t xs h.1 k)
      | false ↦ λ h k. (k.0, each_parts P t xs h k.1)
    ] in
    go (t x) p q

-- ---- questions

others_stay : (q : Question) (qs : List Question) → Each (λ k. q.id.seq < k.id.seq) qs → without_question q.id qs ≡ qs
others_stay q [] all = refl
others_stay q (x ∷ qs) all =
    let less : q.id.seq < x.id.seq = all.0 in
    let other : same_id x.id q.id ≡ false = and_right (x.id.boot == q.id.boot) (x.id.seq == q.id.seq) (ne_eqb x.id.seq q.id.seq (λ e. omega arith)) in
    rw other (ap (λ xs. x ∷ xs) (others_stay q qs all.1))

first_leaves : (q : Question) (qs : List Question) → AreInOrder (q ∷ qs) → without_question q.id (q ∷ qs) ≡ qs
first_leaves q qs order = rw (same_id-refl q.id) (others_stay q qs order.0)

first_found : (q : Question) (qs : List Question) → question_at q.id (q ∷ qs) ≡ Some q
first_found q qs = rw (same_id-refl q.id) refl

first_on : (q : Question) (qs : List Question) → question_on q.port q.id (q ∷ qs) ≡ Some q
first_on q qs = cond-true (same_id q.id q.id && same_port q.port q.port) (Some q) (question_on q.port q.id qs) (and_from (same_id q.id q.id) (same_port q.port q.port) (same_id-refl q.id) (same_port-refl q.port))

-- where no question runs no open waits
pub none_waits : (qs : List Question) (ps : List Pended) → qs ≡ [] → Each (IsAsked qs) ps → ps ≡ []
none_waits qs [] none all = refl
none_waits qs (p ∷ ps) none all =
    let found : question_at p.question [] ≡ Some all.0.question = subst (λ xs. question_at p.question xs ≡ Some all.0.question) none all.0.runs in
    absurd (cc (found))

settled_questions : (t : Table) (q : Question) (v : ℕ) (r : Verdict) → (settled t q v r).questions ≡ without_question q.id t.questions
unfolding ended
settled_questions t q v r = refl

settled_pended : (t : Table) (q : Question) (v : ℕ) (r : Verdict) → (settled t q v r).pended ≡ other_opens q.id t.pended
unfolding ended
settled_pended t q v r = refl

settled_limits : (t : Table) (q : Question) (v : ℕ) (r : Verdict) → (settled t q v r).limits ≡ t.limits
unfolding ended
settled_limits t q v r = refl

-- ---- chunks

-- the services keep their limits
abbrev SameLimits : WorldState → WorldState → Type 0
SameLimits w x = (port : Port) → (desk_of x port).limits ≡ (desk_of w port).limits

chunks_same : (w x : WorldState) (q : Question) → x.volume ≡ w.volume → SameLimits w x → x.table.limits ≡ w.table.limits → chunks x q ≡ chunks w q
chunks_same w x q v d t = λ i. div_ceil (length (present_bytes (v i) q.stream)) (min ((d q.port i).chunk) ((t i).chunk))

pub all_chunks_same : (w x : WorldState) (qs : List Question) → x.volume ≡ w.volume → SameLimits w x → x.table.limits ≡ w.table.limits → all_chunks x qs ≡ all_chunks w qs
all_chunks_same w x [] v d t = refl
all_chunks_same w x (q ∷ qs) v d t =
    let one = chunks_same w x q v d t in
    let more = all_chunks_same w x qs v d t in
    λ i. one i + more i

-- ---- ports

same_turned : (a b : Port) → same_port a b ≡ false → same_port b a ≡ false
same_turned One One e = e
same_turned One Two e = refl
same_turned Two One e = refl
same_turned Two Two e = e

-- of this port, and of the other
of_each : (P : Port → Type 0) (port : Port) → P port → ((at : Port) → same_port at port ≡ false → P at) → (at : Port) → P at
of_each P port here others at =
    (elim (same_port at port) as (λ b. same_port at port ≡ b → P at) [
      | true ↦ λ e. subst P (sym (same_port-true at port e)) here
      | false ↦ λ e. others at e
    ]) refl

on_own : (q : Question) (qs : List Question) → on_port q.port (q ∷ qs) ≡ q ∷ on_port q.port qs
on_own q qs = cond-true (same_port q.port q.port) (q ∷ on_port q.port qs) (on_port q.port qs) (same_port-refl q.port)

on_other : (q : Question) (qs : List Question) (at : Port) → same_port at q.port ≡ false → on_port at (q ∷ qs) ≡ on_port at qs
on_other q qs at e = cond-false (same_port q.port at) (q ∷ on_port at qs) (on_port at qs) (same_turned at q.port e)

-- ---- how many events there are

reply_short : (n : ℕ) (w : WorldState) → length (to_reply n w) ≤ 3 * n + 1
unfolding to_reply
reply_short zero w = omega arith
reply_short (suc n) w =
    let rest : length (to_reply n (onward (round w) w)) ≤ 3 * n + 1 = reply_short n (onward (round w) w) in
    cond_both (is_reply (member w.up (length w.up))) (last_up w ∷ []) (round w ++ to_reply n (onward (round w) w)) (λ (es : List Event). length es ≤ 3 * suc n + 1) (λ e. omega arith)
    (λ e. omega (arith, rest, length-append (round w) (to_reply n (onward (round w) w))))

-- ---- one after another

-- a world in which both services have just connected, or settled a question
pub record Idle (mode : Mode) (w : WorldState) : Type 0 where
  pub steady : Steady mode w
  pub version : (port : Port) → (desk_of w port).version ≡ latest w.sets
  pub on : (port : Port) → (desk_of w port).connected ≡ true
  pub idle : (port : Port) → (desk_of w port).jobs ≡ []
  pub reached : w.table.floor ≤ latest w.sets
  pub room : (port : Port) → 1 ≤ (desk_of w port).limits.jobs
  pub chunk : (port : Port) → 1 ≤ min (desk_of w port).limits.chunk w.table.limits.chunk

-- each service has a lease left for each chunk that it is asked about
abbrev pub HaveLeases : WorldState → List Question → Type 0
HaveLeases w qs = (port : Port) → (desk_of w port).last_lease + all_chunks w (on_port port qs) ≤ most_leases

-- the world x in which all are settled, and how it was reached from w
pub record AllSettled (w x : WorldState) (es : List Event) : Type 0 where
  pub happened : x.history ≡ reverse es ++ w.history
  pub carries : Each IsCarrying es
  pub short : length es ≤ 2 * length w.table.questions + 3 * all_chunks w w.table.questions
  pub runs : x.table.questions ≡ []
  pub volume : x.volume ≡ w.volume
  pub same_sets : x.sets ≡ w.sets
  pub given : List Given
  pub answers : x.answers ≡ w.answers ++ given
  pub answered : Each (GetsVerdict w given) w.table.pended
  pub count : length given ≡ length w.table.pended

module _ (mode : Mode) (w : WorldState) (st : Idle mode w) (q : Question) (qs : List Question) (are : w.table.questions ≡ q ∷ qs) (leases : HaveLeases w (q ∷ qs)) where
  -- the service of its port
  abbrev home : Desk
  home = desk_of w q.port

  order : AreInOrder (q ∷ qs)
  order = subst AreInOrder are st.steady.sound.lawful.fits.coherent.orderly.order

  found_at : question_at q.id w.table.questions ≡ Some q
  found_at = subst (λ xs. question_at q.id xs ≡ Some q) (sym are) (first_found q qs)

  runs : question_on q.port q.id w.table.questions ≡ Some q
  runs = subst (λ xs. question_on q.port q.id xs ≡ Some q) (sym are) (first_on q qs)

  own_leases : home.last_lease + (chunks w q + all_chunks w (on_port q.port qs)) ≤ most_leases
  own_leases = subst (λ ks. home.last_lease + all_chunks w ks ≤ most_leases) (on_own q qs) (leases q.port)

  ready : IsReady w q (chunks w q)
  ready = record {
    runs = runs;
    connected = st.on q.port;
    no_job = ap (job_at q.id) (st.idle q.port);
    room = omega (arith, ap length (st.idle q.port), st.room q.port);
    chunk = st.chunk q.port;
    enough = (div_ceil_times (length (present_bytes w.volume q.stream)) (min home.limits.chunk w.table.limits.chunk) (st.chunk q.port)).0;
    leases = omega (arith, own_leases);
  }

  placed : home.port ≡ q.port
  placed = by_port w st.steady.placed q.port

  reached_home : w.table.floor ≤ home.version
  reached_home = omega (arith, st.reached, st.version q.port)

  abbrev next : WorldState
  next = onward (settling w q) w

  abbrev r : Verdict
  r = found_verdict mode w st.steady.sound q (chunks w q) placed ready (st.idle q.port) reached_home

  one : Settled mode w st.steady.sound q (chunks w q) placed ready (st.idle q.port) reached_home w next (settling w q) (chunks w q)
  one = question_settled mode w st.steady.sound q (chunks w q) placed ready (st.idle q.port) reached_home

  next_limits : next.table.limits ≡ w.table.limits
  next_limits = ap (λ (t : Table). t.limits) one.table ∙ settled_limits w.table q home.version r

  desk_limits : SameLimits w next
  desk_limits = of_each (λ port. (desk_of next port).limits ≡ (desk_of w port).limits) q.port one.limits (λ at e. ap (λ (d : Desk). d.limits) (one.others at e))

  next_idle : Idle mode next
  next_idle = record {
    steady = steady_onward mode (settling w q) w st.steady;
    version = of_each (λ port. (desk_of next port).version ≡ latest next.sets) q.port (one.version ∙ (st.version q.port ∙ ap latest (sym one.same_sets))) (λ at e. ap (λ (d : Desk). d.version) (one.others at e) ∙ (st.version at ∙ ap latest (sym one.same_sets)));
    on = of_each (λ port. (desk_of next port).connected ≡ true) q.port one.on (λ at e. ap (λ (d : Desk). d.connected) (one.others at e) ∙ st.on at);
    idle = of_each (λ port. (desk_of next port).jobs ≡ []) q.port one.no_jobs (λ at e. ap (λ (d : Desk). d.jobs) (one.others at e) ∙ st.idle at);
    reached = omega (arith, ap (λ (t : Table). t.floor) one.table, st.version q.port, ap latest one.same_sets);
    room = λ port. subst (λ (l : LimitValues). 1 ≤ l.jobs) (sym (desk_limits port)) (st.room port);
    chunk = λ port. subst (λ (l : LimitValues). 1 ≤ min l.chunk next.table.limits.chunk) (sym (desk_limits port)) (subst (λ (l : LimitValues). 1 ≤ min (desk_of w port).limits.chunk l.chunk) (sym next_limits) (st.chunk port));
  }

  next_questions : next.table.questions ≡ qs
  next_questions = ap (λ (t : Table). t.questions) one.table ∙ (settled_questions w.table q home.version r ∙ (ap (without_question q.id) are ∙ first_leaves q qs order))

  next_pended : next.table.pended ≡ other_opens q.id w.table.pended
  next_pended = ap (λ (t : Table). t.pended) one.table ∙ settled_pended w.table q home.version r

  same_chunks : (ks : List Question) → all_chunks next ks ≡ all_chunks w ks
  same_chunks ks = all_chunks_same w next ks one.volume desk_limits next_limits

  next_leases : HaveLeases next qs
  next_leases =
      of_each (λ port. (desk_of next port).last_lease + all_chunks next (on_port port qs) ≤ most_leases) q.port (omega (arith, own_leases, one.leases, same_chunks (on_port q.port qs)))
      (λ at e. omega (arith, leases at, ap (all_chunks w) (on_other q qs at e), ap (λ (d : Desk). d.last_lease) (one.others at e), same_chunks (on_port at qs)))

  next_past : past next.history ≡ past w.history
  next_past = ap past one.happened ∙ past_kept (settling w q) w.history one.carries

  -- the opens of the question get its verdict
  abbrev answer : Pended → Answer
  answer p = answer_for r q.generation home.version p.held

  abbrev given : List Given
  given = map (given_at one.event) (map answer (opens_of q.id w.table.pended))

  run : Runs (past w.history) w.volume.streams w.down q
  run = path.run mode w st.steady.sound q (chunks w q) placed ready

  generation : q.generation ≡ present_generation w.volume q.stream
  generation = run.generation ∙ ap stream_generation (sym run.here)

  of_stream : (p : Pended) → waits_for q.id p ≡ true → IsAsked w.table.questions p → q.stream ≡ p.held.stream
  of_stream p waits a = question_stream q p found_at a waits

  gets : (more : List Given) (p : Pended) → q.stream ≡ p.held.stream → Among (given_at one.event (answer p)) given → GetsVerdict w (given ++ more) p
  gets more p same among = record {
    verdict = r;
    right = subst (λ v. IsVerdictOf (past w.history) p.held.stream (present_generation w.volume p.held.stream) v r) (st.version q.port)
        (subst (λ s. IsVerdictOf (past w.history) s (present_generation w.volume s) home.version r) same
        (subst (λ g. IsVerdictOf (past w.history) q.stream g home.version r) generation (verdict_is mode w st.steady.sound q (chunks w q) placed ready (st.idle q.port) reached_home)));
    event = one.event;
    given = subst (λ v. Among (given_at one.event (answer_for r (present_generation w.volume p.held.stream) v p.held)) (given ++ more)) (st.version q.port)
        (subst (λ s. Among (given_at one.event (answer_for r (present_generation w.volume s) home.version p.held)) (given ++ more)) same
        (subst (λ g. Among (given_at one.event (answer_for r g home.version p.held)) (given ++ more)) generation (among_left (given_at one.event (answer p)) given more among)));
  }

  own_gets : (more : List Given) → Each (GetsVerdict w (given ++ more)) (opens_of q.id w.table.pended)
  own_gets more =
      let opens : List Pended = opens_of q.id w.table.pended in
      let streams : Each (λ (p : Pended). q.stream ≡ p.held.stream) opens = each-filter_passed (IsAsked w.table.questions) (λ (p : Pended). q.stream ≡ p.held.stream) (waits_for q.id) of_stream w.table.pended st.steady.sound.lawful.fits.coherent.asked in
      let all : Each (λ (p : Pended). Among (given_at one.event (answer p)) (map (λ (p : Pended). given_at one.event (answer p)) opens)) opens = each_among (λ (p : Pended). given_at one.event (answer p)) opens in
      let same : map (given_at one.event) (map answer opens) ≡ map (λ (p : Pended). given_at one.event (answer p)) opens = map_same (given_at one.event) answer (λ (p : Pended). given_at one.event (answer p)) (λ p. refl) opens in
      each_both (λ (p : Pended). q.stream ≡ p.held.stream) (λ (p : Pended). Among (given_at one.event (answer p)) given) (GetsVerdict w (given ++ more)) (gets more) opens streams
      (subst (λ gs. Each (λ (p : Pended). Among (given_at one.event (answer p)) gs) opens) (sym same) all)

  -- and the others what they get later
  later_gets : (more : List Given) (p : Pended) → GetsVerdict next more p → GetsVerdict w (given ++ more) p
  later_gets more p h = record {
    verdict = h.verdict;
    right = subst (λ ss. IsVerdictOf (past w.history) p.held.stream (present_generation w.volume p.held.stream) (latest ss) h.verdict) one.same_sets
        (subst (λ v. IsVerdictOf (past w.history) p.held.stream (present_generation v p.held.stream) (latest next.sets) h.verdict) one.volume
        (subst (λ x. IsVerdictOf x p.held.stream (present_generation next.volume p.held.stream) (latest next.sets) h.verdict) next_past h.right));
    event = h.event;
    given = among_right _ given more (subst (λ ss. Among (given_at h.event (answer_for h.verdict (present_generation w.volume p.held.stream) (latest ss) p.held)) more) one.same_sets
        (subst (λ v. Among (given_at h.event (answer_for h.verdict (present_generation v p.held.stream) (latest next.sets) p.held)) more) one.volume h.given));
  }

  counted : (more : List Given) → length more ≡ length (other_opens q.id w.table.pended) → length (given ++ more) ≡ length w.table.pended
  counted more is =
      let own : length given ≡ length (opens_of q.id w.table.pended) = length-map (map answer (opens_of q.id w.table.pended)) (given_at one.event) ∙ length-map (opens_of q.id w.table.pended) answer in
      let both : length (opens_of q.id w.table.pended) + length (other_opens q.id w.table.pended) ≡ length w.table.pended = length-filter_both (waits_for q.id) (λ p. not (waits_for q.id p)) (λ p. refl) w.table.pended in
      length-append given more ∙ omega (arith, own, is, both)

  events_few : (es : List Event) → length es ≤ 2 * length next.table.questions + 3 * all_chunks next next.table.questions → length (settling w q ++ es) ≤ 2 * length w.table.questions + 3 * all_chunks w w.table.questions
  events_few es few =
      let own : length (to_reply (chunks w q) (after w (scan_comes w q))) ≤ 3 * chunks w q + 1 = reply_short (chunks w q) (after w (scan_comes w q)) in
      let later : length es ≤ 2 * length qs + 3 * all_chunks w qs = omega (arith, few, ap length next_questions, ap (all_chunks next) next_questions, same_chunks qs) in
      omega (arith, own, later, length-append (settling w q) es, ap length are, ap (all_chunks w) are)

  one_more : (x : WorldState) (es : List Event) → AllSettled next x es → AllSettled w x (settling w q ++ es)
  one_more x es f = record {
    happened = f.happened ∙ (ap (λ h. reverse es ++ h) one.happened ∙ sym (back_onto (settling w q) es w.history));
    carries = each-append IsCarrying (settling w q) es one.carries f.carries;
    short = events_few es f.short;
    runs = f.runs;
    volume = f.volume ∙ one.volume;
    same_sets = f.same_sets ∙ one.same_sets;
    given = given ++ f.given;
    answers = f.answers ∙ (ap (λ xs. xs ++ f.given) one.answers ∙ append_assoc w.answers given f.given);
    answered = each_parts (GetsVerdict w (given ++ f.given)) (waits_for q.id) w.table.pended (own_gets f.given)
        (each_weaker (GetsVerdict next f.given) (GetsVerdict w (given ++ f.given)) (later_gets f.given) (other_opens q.id w.table.pended) (subst (Each (GetsVerdict next f.given)) next_pended f.answered));
    count = counted f.given (f.count ∙ ap length next_pended);
  }

pub all_settled : (mode : Mode) (qs : List Question) (w : WorldState) → Idle mode w → w.table.questions ≡ qs → HaveLeases w qs → AllSettled w (onward (settling_all qs w) w) (settling_all qs w)
unfolding settling_all onward
all_settled mode [] w st are leases =
    let none : w.table.pended ≡ [] = none_waits w.table.questions w.table.pended are st.steady.sound.lawful.fits.coherent.asked in
    record {
      happened = refl;
      carries = tt;
      short = omega arith;
      runs = are;
      volume = refl;
      same_sets = refl;
      given = [];
      answers = sym (append-nil w.answers);
      answered = subst (Each (GetsVerdict w [])) (sym none) tt;
      count = sym (ap length none);
    }
all_settled mode (q ∷ qs) w st are leases =
    let x : WorldState = next mode w st q qs are leases in
    let rest : AllSettled x (onward (settling_all qs x) x) (settling_all qs x) =
    all_settled mode qs x (next_idle mode w st q qs are leases) (next_questions mode w st q qs are leases) (next_leases mode w st q qs are leases) in
    subst (λ y. AllSettled w y (settling w q ++ settling_all qs x)) (sym (onward-append (settling w q) (settling_all qs x) w)) (one_more mode w st q qs are leases (onward (settling_all qs x) x) (settling_all qs x) rest)
