-- The invariant of the service's side, and that each event of the service keeps it.
use Rattle.std.proofs.Common.{◌≡◌, ℕ, suc, ◌+◌, ◌≤◌, Bool, true, false, not, List, [], ◌∷◌, ◌++◌, length, take, drop, map, filter, Option, Some, None, is_some, if◌then◌else◌, ◌==◌, nat_le, refl, sym, ap, ◌∙◌, subst, arith, eq-eqb, eqb-true, length-append, append_assoc, append-nil}
use Rattle.std.specs.List.{AllByRecursion as Each}
use Rattle.std.proofs.lemmas.List.{take-append-drop, drop_at, nil_from_length}
use Rattle.std.proofs.lemmas.Bool.{and_parts, true≢false, cond_both, eqb-false, lt-leb}
use Rattle.av_base.proofs.KeyLemmas.{same_id-true, same_port-true}
use Rattle.av_base.specs.MessageId.{same_id}
use Rattle.av_base.specs.Port.{same_port}
use Rattle.av_base.specs.declared.limits.LimitValues.{LimitValues}
use Rattle.av_base.specs.declared.message_id.MessageId.{MessageId}
use Rattle.av_base.specs.declared.port.Port.{Port}
use Rattle.av_base.specs.declared.verdict.Verdict.{Verdict}
use Rattle.av_base.specs.declared.verdict.Verdict.TheVariants.{Clean, Infected}
use Rattle.av_cache.specs.Cache.{has_key, in_front}
use Rattle.av_cache.specs.declared.entry.Entry.{Entry}
use Rattle.av_frame.specs.Message.{Letter, via}
use Rattle.av_match.proofs.Verdicts.{hit_stays}
use Rattle.av_match.proofs.RunLemmas.{scanner_meets as laws}
use Rattle.av_match.proofs.ScanLemmas.{scan_fed}
use Rattle.av_match.specs.Match.{verdict, verdict_at, verdict_to, if_hit}
use Rattle.av_match.specs.Scanning.{AreSolid, ScanState, begin, scan_of, scanner, Compiled, IsScan, fitting}
use Rattle.av_service.proofs.RowLemmas.{row_of}
use Rattle.av_service.proofs.SoundLemmas.{each_with}
use Rattle.av_service.specs.Conduct.{Connects, Disconnects, Finishes, Receives, Publishes, Restarts, connect_refusal, service_step}
use Rattle.av_service.specs.Desk.{Desk, advanced, afresh, has_lease, job_at, lent_out, lent_under, loan_count, new_job, with_job}
use Rattle.av_service.specs.Lending.{closes}
use Rattle.av_service.specs.Response.{Response, read_message, says}
use Rattle.av_service.specs.Rows
use Rattle.av_service.specs.Rows.{Row, ScanRow}
use Rattle.av_service.specs.Scanning.{awaits, lends}
use Rattle.av_service.specs.declared.fault.ConnectFault.TheVariants.{NoSignatures, AlreadyConnected}
use Rattle.av_service.specs.declared.job.Job.{Job}
use Rattle.av_service.specs.declared.job.Loan.{Loan}
use Rattle.av_service.specs.declared.note.ServiceNote.{ServiceNote}
use Rattle.av_service.specs.declared.note.ServiceNote.TheVariants.{Quiet, Repeat, Ignored, Orphan}
use Rattle.av_service.specs.Work.{WorkState}
use Rattle.av_sigset.specs.Publication.{Publication, latest_as, published_as}
use Rattle.av_sigset.specs.declared.signature.Pattern.{Pattern}
use Rattle.av_store.specs.History.{content}
use Rattle.av_history.proofs.AskedLemmas.{asked_more}
use Rattle.av_filter.proofs.EachLemmas.{each_weaker, each-append, each-filter, each-map, find_each, find_passes}
use Rattle.av_history.proofs.FilterLemmas.{look_right, front_right, put_right}
use Rattle.av_history.proofs.FitLemmas.{Grown, DownFits, UpFits, ScanFits, ChunkFits, about, right_grows}
use Rattle.av_history.specs.Held.{Asked, asked}
use Rattle.av_history.specs.Past.{Past, IsVerdictOf, IsRightEntry}
use Rattle.av_history.specs.Safety.{JudgesItsContent as JobFits, LoanFits, IsWorkOf, IsFront}
use Rattle.av_history.specs.World.{done, or_none, scan_after}

-- each pattern has its length
abbrev pub IsSolid : Publication → Type 0
IsSolid q = AreSolid q.patterns

pub record DeskFits (p : Past) (down : List Letter) (works : List WorkState) (d : Desk) : Type 0 where
  pub jobs : Each (JobFits p down d.port works d.last_lease d.version) d.jobs
  pub cache : Each (IsRightEntry p) d.cache
  pub published : (d.version ≡ 0 → ⊥) → (set : List Pattern) × (published_as p.sets d.version ≡ Some set)
  pub versioned : d.connected ≡ true → d.version ≡ 0 → ⊥
  pub idle : d.connected ≡ false → d.jobs ≡ []
  pub leases : Each (λ k. k.lease ≤ d.last_lease) works

pub record Told (p : Past) (down : List Letter) (works : List WorkState) (r : Response) : Type 0 where
  pub fits : DeskFits p down (works ++ r.works) r.desk
  pub up : Each (UpFits p down) r.messages

-- later
pub job_grows : (p p' : Past) (down more : List Letter) (port : Port) (works : List WorkState) (last version : ℕ) → Grown p p' → (j : Job) → JobFits p down port works last version j → JobFits p' (down ++ more) port works last version j
job_grows p p' down more port works last version up j h = record {
  told = asked_more down more j.id _ h.told;
  bytes = h.bytes;
  held = up.contents j.stream j.generation h.bytes h.held;
  size = h.size;
  judged = h.judged;
  rest = h.rest;
  front = h.front;
  count = h.count;
  patterns = h.patterns;
  published = up.sets version h.patterns h.published;
  scanned = h.scanned;
  loan = h.loan;
}

pub desk_grows : (p p' : Past) (down more : List Letter) (works : List WorkState) (d : Desk) → Grown p p' → DeskFits p down works d → DeskFits p' (down ++ more) works d
desk_grows p p' down more works d up f = record {
  jobs = each_weaker (JobFits p down d.port works d.last_lease d.version) (JobFits p' (down ++ more) d.port works d.last_lease d.version) (job_grows p p' down more d.port works d.last_lease d.version up) d.jobs f.jobs;
  cache = each_weaker (IsRightEntry p) (IsRightEntry p') (λ e h. right_grows p p' e.stream e.generation e.version e.verdict up h) d.cache f.cache;
  published = λ some. let s = f.published some in (s.0, up.sets d.version s.0 s.1);
  versioned = f.versioned;
  idle = f.idle;
  leases = f.leases;
}

-- no signature occurs in nothing
pub nothing_clean : (i : ℕ) (set : List Pattern) → AreSolid set → verdict_at i set [] 0 ≡ Clean
unfolding verdict_at
nothing_clean i [] h = refl
nothing_clean i (s ∷ set) h =
    let short : nat_le (length s.bytes) 0 ≡ false = lt-leb (length s.bytes) 0 h.0.0 in
    rw short (nothing_clean (suc i) set h.1)

pub set_solid : (sets : List Publication) (v : ℕ) (set : List Pattern) → Each IsSolid sets → published_as sets v ≡ Some set → AreSolid set
unfolding published_as
set_solid [] v set all h = absurd cc
set_solid (q ∷ qs) v set all h =
    let go : (b : Bool) → (if b then Some q.patterns else published_as qs v) ≡ Some set → AreSolid set = elim [
      | true ↦ λ e. let same : q.patterns ≡ set = cc (e) in subst AreSolid same all.0
      | false ↦ λ e. set_solid qs v set all.1 e
    ] in
    go (q.version == v) h

-- a job that has judged nothing yet, and lent nothing
pub begun : (p : Past) (down : List Letter) (port : Port) (works : List WorkState) (last version : ℕ) → Each IsSolid p.sets → (j : Job) → asked down j.id ≡ Some (about port j.stream j.generation j.length)
    → (bytes : List ℕ) → content p.streams j.stream j.generation ≡ Some bytes → length bytes ≡ j.length → (set : List Pattern) → published_as p.sets version ≡ Some set → j.offset ≡ 0 → j.scan ≡ begin version j.length → j.loan ≡ None → JobFits p down port works last version j
begun p down port works last version solid j told bytes held size set published at scan free = record {
  told = told;
  bytes = bytes;
  held = held;
  size = size;
  judged = [];
  rest = bytes;
  front = refl;
  count = sym at;
  patterns = set;
  published = published;
  scanned = scan ∙ sym (laws.begun version j.length set (set_solid p.sets version set solid published));
  loan = subst (LoanFits works last version j.scan bytes) (sym free) tt;
}

module _ (p : Past) (down : List Letter) (works : List WorkState) (d : Desk) (f : DeskFits p down works d) (solid : Each IsSolid p.sets) where
  abbrev Fit : Job → Type 0
  Fit j = JobFits p down d.port works d.last_lease d.version j

  -- nothing changes
  same : DeskFits p down (works ++ []) d
  same = subst (λ ws. DeskFits p down ws d) (sym (append-nil works)) f

  saying : (n : ServiceNote) → Told p down works (says d n)
  saying n = record { fits = same; up = tt }

  -- the set of the present version, of a service that is connected
  present_set : d.connected ≡ true → (set : List Pattern) × (published_as p.sets d.version ≡ Some set)
  present_set on = f.published (f.versioned on)

  -- a job that has judged nothing yet
  begins : (j : Job) → asked down j.id ≡ Some (about d.port j.stream j.generation j.length) → (bytes : List ℕ) → content p.streams j.stream j.generation ≡ Some bytes → length bytes ≡ j.length → (set : List Pattern) × (published_as p.sets d.version ≡ Some set) → j.offset ≡ 0 → j.scan ≡ begin d.version j.length → j.loan ≡ None → Fit j
  begins j told bytes held size set at scan free = begun p down d.port works d.last_lease d.version solid j told bytes held size set.0 set.1 at scan free

  -- some jobs go, and the cache changes
  fewer : (test : Job → Bool) (cache : List Entry) → Each (IsRightEntry p) cache → DeskFits p down (works ++ []) (record d { jobs = filter test d.jobs; cache = cache })
  fewer test cache h = subst (λ ws. DeskFits p down ws (record d { jobs = filter test d.jobs; cache = cache })) (sym (append-nil works)) record {
    jobs = each-filter Fit test d.jobs f.jobs;
    cache = h;
    published = f.published;
    versioned = f.versioned;
    idle = λ off. ap (filter test) (f.idle off);
    leases = f.leases;
  }

  cached : (cache : List Entry) → Each (IsRightEntry p) cache → DeskFits p down (works ++ []) (record d { cache = cache })
  cached cache h = subst (λ ws. DeskFits p down ws (record d { cache = cache })) (sym (append-nil works))
      record { jobs = f.jobs; cache = h; published = f.published; versioned = f.versioned; idle = f.idle; leases = f.leases }

  scan_told : (id : MessageId) (s g l : ℕ) → d.connected ≡ true → ScanFits p down d.port id s g l → {r : Response} → ScanRow d (new_job d.version id s g l) r → Told p down works r
  unfolding verdict verdict_to
  scan_told id s g l on h (Rows.cached e at) = record {
    fits = cached (in_front e d.cache) (front_right p e d.cache (find_each (IsRightEntry p) (has_key s g d.version) d.cache e f.cache at) f.cache);
    up = (record { of = about d.port s g l; told = h.told; there = refl; right = look_right p s g d.version d.cache e f.cache at }, tt);
  }
  scan_told id s g l on h (Rows.full room) = record { fits = same; up = (tt, tt) }
  scan_told id s g l on h (Rows.empty is) =
      let set = present_set on in
      let empty : h.bytes ≡ [] = nil_from_length h.bytes (h.size ∙ eqb-true l 0 is) in
      let clean : Clean ≡ verdict set.0 h.bytes = subst (λ bs. Clean ≡ verdict set.0 bs) (sym empty) (sym (nothing_clean 0 set.0 (set_solid p.sets d.version set.0 solid set.1))) in
      let right : IsVerdictOf p s g d.version Clean = record { patterns = set.0; bytes = h.bytes; published = set.1; held = h.held; right = clean } in
      record {
        fits = cached _ (put_right p d.limits.cache _ d.cache right f.cache);
        up = (record { of = about d.port s g l; told = h.told; there = refl; right = right }, tt);
      }
  scan_told id s g l on h (Rows.begins room some) = record {
    fits = subst (λ ws. DeskFits p down ws (record d { jobs = d.jobs ++ new_job d.version id s g l ∷ [] })) (sym (append-nil works)) record {
      jobs = each-append Fit d.jobs (new_job d.version id s g l ∷ []) f.jobs (begins (new_job d.version id s g l) h.told h.bytes h.held h.size (present_set on) refl refl refl, tt);
      cache = f.cache;
      published = f.published;
      versioned = f.versioned;
      idle = λ off. absurd (true≢false (sym on ∙ off));
      leases = f.leases;
    };
    up = (tt, tt);
  }

  -- what follows the judged bytes is lent
  next_front : (j : Job) (h : Fit j) (id : MessageId) (o : ℕ) (b : List ℕ) → ChunkFits p down id o b → j.id ≡ id → o ≡ j.offset → IsFront b h.rest
  next_front j h id o b c same at =
      let told : Some c.of ≡ Some (about d.port j.stream j.generation j.length) = sym c.told ∙ subst (λ i. asked down i ≡ Some (about d.port j.stream j.generation j.length)) same h.told in
      let about_it : c.of ≡ about d.port j.stream j.generation j.length = cc (told) in
      let bytes : Some c.bytes ≡ Some h.bytes = sym (subst (λ (a : Asked). content p.streams a.stream a.generation ≡ Some c.bytes) about_it c.held) ∙ h.held in
      let whole : c.bytes ≡ h.bytes = cc (bytes) in
      let place : length h.judged ≡ o = h.count ∙ sym at in
      let rest : drop o c.bytes ≡ h.rest = ap (drop o) (whole ∙ sym h.front) ∙ drop_at h.judged h.rest o place in
      let part : take (length b) h.rest ≡ b = sym (ap (take (length b)) rest) ∙ c.part in
      (drop (length b) h.rest, ap (λ xs. xs ++ drop (length b) h.rest) (sym part) ∙ take-append-drop (length b) h.rest)

  lent_told : (id : MessageId) (o : ℕ) (b : List ℕ) → d.connected ≡ true → ChunkFits p down id o b → (j : Job) → job_at id d.jobs ≡ Some j → awaits j o ≡ true → Told p down works (lends d b j)
  lent_told id o b on c j at ready =
      let fits : Fit j = find_each Fit (λ (k : Job). same_id k.id id) d.jobs j f.jobs at in
      let same : j.id ≡ id = same_id-true j.id id (find_passes (λ (k : Job). same_id k.id id) d.jobs j at) in
      let awaits = and_parts (not (is_some j.loan)) (o == j.offset) ready in
      let front : IsFront b fits.rest = next_front j fits id o b c same (eqb-true o j.offset awaits.1) in
      let inside : length b ≤ length fits.rest = omega (arith, ap length front.1, length-append b front.0) in
      let loan : Loan = record { lease = d.last_lease + 1; count = length b } in
      let lent_job : Job = lent_out loan j in
      let work : WorkState = record { lease = d.last_lease + 1; id = j.id; version = d.version; scan = j.scan; chunk = b } in
      let mine : Each (IsWorkOf d.version j.scan fits.rest loan) (works ++ work ∷ []) =
      each-append (IsWorkOf d.version j.scan fits.rest loan) works (work ∷ []) (each_weaker (λ (k : WorkState). k.lease ≤ d.last_lease) (IsWorkOf d.version j.scan fits.rest loan) (λ k le e. absurd (omega arith)) works f.leases) ((λ e. (refl, refl, refl, front)), tt) in
      let known : JobFits p down d.port (works ++ work ∷ []) (d.last_lease + 1) d.version lent_job = record {
        told = fits.told;
        bytes = fits.bytes;
        held = fits.held;
        size = fits.size;
        judged = fits.judged;
        rest = fits.rest;
        front = fits.front;
        count = fits.count;
        patterns = fits.patterns;
        published = fits.published;
        scanned = fits.scanned;
        loan = (omega arith, inside, mine);
      } in
      record {
        fits = record {
          jobs = each_with (JobFits p down d.port (works ++ work ∷ []) (d.last_lease + 1) d.version) lent_job known d.jobs (each_weaker Fit (JobFits p down d.port (works ++ work ∷ []) (d.last_lease + 1) d.version) (job_later work refl) d.jobs f.jobs);
          cache = f.cache;
          published = f.published;
          versioned = f.versioned;
          idle = λ off. absurd (true≢false (sym on ∙ off));
          leases = each-append (λ (k : WorkState). k.lease ≤ d.last_lease + 1) works (work ∷ []) (each_weaker (λ (k : WorkState). k.lease ≤ d.last_lease) (λ (k : WorkState). k.lease ≤ d.last_lease + 1) (λ k le. omega arith) works f.leases) (omega arith, tt);
        };
        up = tt;
      }
    where
      loan_later : (work : WorkState) → work.lease ≡ d.last_lease + 1 → (scan : ScanState) (rest : List ℕ) (l : Option Loan) → LoanFits works d.last_lease d.version scan rest l → LoanFits (works ++ work ∷ []) (d.last_lease + 1) d.version scan rest l
      loan_later work new scan rest None h = tt
      loan_later work new scan rest (Some l) h = (omega (arith, h.0), h.1, each-append (IsWorkOf d.version scan rest l) works (work ∷ []) h.2 ((λ e. absurd (omega (arith, h.0))), tt))

      job_later : (work : WorkState) → work.lease ≡ d.last_lease + 1 → (j : Job) → Fit j → JobFits p down d.port (works ++ work ∷ []) (d.last_lease + 1) d.version j
      job_later work new j h = record {
        told = h.told;
        bytes = h.bytes;
        held = h.held;
        size = h.size;
        judged = h.judged;
        rest = h.rest;
        front = h.front;
        count = h.count;
        patterns = h.patterns;
        published = h.published;
        scanned = h.scanned;
        loan = loan_later work new j.scan h.rest j.loan h.loan;
      }

  message_row_told : {m : Letter} {r : Response} → Row d (Receives m) r → DownFits p down m → Told p down works r
  message_row_told (Rows.ignored m) h = saying Ignored
  message_row_told (Rows.repeated m) h = saying Repeat
  message_row_told (Rows.scanned port id s g l r hears none row) h =
      let here = and_parts d.connected (same_port port d.port) hears in
      scan_told id s g l here.0 (subst (λ port. ScanFits p down port id s g l) (same_port-true port d.port here.1) h) row
  message_row_told (Rows.past_length port id o b j hears at ready long) h = record { fits = fewer (λ (k : Job). not (same_id k.id j.id)) d.cache f.cache; up = (tt, tt) }
  message_row_told (Rows.lent port id o b j hears at ready free short) h = lent_told id o b (and_parts d.connected (same_port port d.port) hears).0 h j at ready
  message_row_told (Rows.dropped port m id j hears is at) h = record { fits = fewer (λ (k : Job). not (same_id k.id j.id)) d.cache f.cache; up = tt }

-- a hit of a front is the verdict of the whole
pub hit_whole : (set : List Pattern) (c rest : List ℕ) (r : Verdict) → Some r ≡ if_hit (verdict set c) → r ≡ verdict set (c ++ rest)
hit_whole set c rest r h = go (verdict set c) refl h
  where
    go : (v : Verdict) → verdict set c ≡ v → Some r ≡ if_hit v → r ≡ verdict set (c ++ rest)
    go Clean is e = absurd (cc (e))
    go (Infected i f) is e = let same : r ≡ Infected i f = cc (e) in same ∙ sym (hit_stays set c rest i f is)

pub no_hit : (v : Verdict) → None ≡ if_hit v → Clean ≡ v
no_hit Clean e = refl
no_hit (Infected i f) e = absurd (cc (e))

-- a work comes back, with what its scan found
module _ (p : Past) (down : List Letter) (works : List WorkState) (d : Desk) (f : DeskFits p down works d) (solid : Each IsSolid p.sets) (w : WorkState) (among : (P : WorkState → Type 0) → Each P works → P w) where
  abbrev after : ScanState
  after = scan_after p.sets w

  loan_is : (scan : ScanState) (rest : List ℕ) (o : Option Loan) → has_lease w.lease o ≡ true → LoanFits works d.last_lease d.version scan rest o → (w.scan ≡ scan) × (w.version ≡ d.version) × (length w.chunk ≡ loan_count o) × IsFront w.chunk rest
  loan_is scan rest None has h = absurd (true≢false (sym has))
  loan_is scan rest (Some x) has h = among (IsWorkOf d.version scan rest x) h.2 (sym (eqb-true x.lease w.lease has))

  -- a job that was found keeps the service connected
  on : (j : Job) → lent_under w.lease d.jobs ≡ Some j → d.connected ≡ true
  on j at = go d.connected refl
    where
      go : (b : Bool) → d.connected ≡ b → d.connected ≡ true
      go true e = e
      go false e = let none : lent_under w.lease d.jobs ≡ None = ap (lent_under w.lease) (f.idle e) in absurd (cc (none, at))

  module _ (j : Job) (at : lent_under w.lease d.jobs ≡ Some j) where
    job : JobFits p down d.port works d.last_lease d.version j
    job = find_each (JobFits p down d.port works d.last_lease d.version) (λ (j : Job). has_lease w.lease j.loan) d.jobs j f.jobs at

    loan : (w.scan ≡ j.scan) × (w.version ≡ d.version) × (length w.chunk ≡ loan_count j.loan) × IsFront w.chunk job.rest
    loan = loan_is j.scan job.rest j.loan (find_passes (λ (j : Job). has_lease w.lease j.loan) d.jobs j at) job.loan

    strong : AreSolid job.patterns
    strong = set_solid p.sets d.version job.patterns solid job.published

    -- the bytes judged now
    abbrev now_judged : List ℕ
    now_judged = job.judged ++ w.chunk

    now_front : now_judged ++ loan.3.0 ≡ job.bytes
    now_front = append_assoc job.judged w.chunk loan.3.0 ∙ (ap (λ xs. job.judged ++ xs) loan.3.1 ∙ job.front)

    now_count : length now_judged ≡ j.offset + loan_count j.loan
    now_count = omega (arith, length-append job.judged w.chunk, job.count, loan.2)

    now_scanned : after ≡ scan_of scanner d.version j.length job.patterns now_judged
    now_scanned =
        let set : Compiled = record { version = d.version; patterns = job.patterns } in
        let fits : length job.judged + length w.chunk ≤ j.length = omega (arith, ap length now_front, length-append now_judged loan.3.0, length-append job.judged w.chunk, job.size) in
        let was : IsScan set j.length job.judged j.scan = record { is = job.scanned; within = omega arith } in
        let is : after ≡ scanner.run job.patterns j.scan (fitting j.scan w.chunk) =
        ap (λ v. scanner.run (or_none (published_as p.sets v)) w.scan (fitting w.scan w.chunk)) loan.1
        ∙ (ap (λ o. scanner.run (or_none o) w.scan (fitting w.scan w.chunk)) job.published ∙ ap (λ s. scanner.run job.patterns s (fitting s w.chunk)) loan.0) in
        (scan_fed set j.length job.judged w.chunk j.scan after was fits is).is

    found_is : scanner.hit after ≡ if_hit (verdict job.patterns now_judged)
    found_is = ap scanner.hit now_scanned ∙ laws.hits d.version j.length job.patterns now_judged strong

    closed : (r : Verdict) → r ≡ verdict job.patterns job.bytes → Told p down works (closes d j r)
    closed r h =
        let right : IsVerdictOf p j.stream j.generation d.version r = record { patterns = job.patterns; bytes = job.bytes; published = job.published; held = job.held; right = h } in
        record {
          fits = fewer p down works d f solid (λ (k : Job). not (same_id k.id j.id)) _ (put_right p d.limits.cache _ d.cache right f.cache);
          up = (record { of = about d.port j.stream j.generation j.length; told = job.told; there = refl; right = right }, tt);
        }

    whole : j.offset + loan_count j.loan ≡ j.length → now_judged ≡ job.bytes
    whole e =
        let none : loan.3.0 ≡ [] = nil_from_length loan.3.0 (omega (arith, ap length now_front, length-append now_judged loan.3.0, job.size, now_count)) in
        sym (append-nil now_judged) ∙ (ap (λ ys. now_judged ++ ys) (sym none) ∙ now_front)

    further : JobFits p down d.port works d.last_lease d.version (advanced after j)
    further = record {
      told = job.told;
      bytes = job.bytes;
      held = job.held;
      size = job.size;
      judged = now_judged;
      rest = loan.3.0;
      front = now_front;
      count = now_count;
      patterns = job.patterns;
      published = job.published;
      scanned = now_scanned;
      loan = tt;
    }

  row_told : (hit : Option Verdict) → hit ≡ scanner.hit after → {r : Response} → Row d (Finishes w.lease after hit) r → Told p down works r
  row_told _ is (Rows.orphaned lease scan _) = saying p down works d f solid Orphan
  row_told _ is (Rows.hit lease scan r j at) = closed j at r (hit_whole (job j at).patterns (now_judged j at) (loan j at).3.0 r (is ∙ found_is j at) ∙ ap (verdict (job j at).patterns) (now_front j at))
  row_told _ is (Rows.clean lease scan j at whole_is) = closed j at Clean (no_hit (verdict (job j at).patterns (now_judged j at)) (is ∙ found_is j at) ∙ ap (verdict (job j at).patterns) (whole j at (eqb-true _ j.length whole_is)))
  row_told _ is (Rows.goes_on lease scan j at part) = record {
    fits = subst (λ ws. DeskFits p down ws (record d { jobs = with_job (advanced after j) d.jobs })) (sym (append-nil works)) record {
      jobs = each_with (JobFits p down d.port works d.last_lease d.version) (advanced after j) (further j at) d.jobs f.jobs;
      cache = f.cache;
      published = f.published;
      versioned = f.versioned;
      idle = λ off. absurd (true≢false (sym (on j at) ∙ off));
      leases = f.leases;
    };
    up = (tt, tt);
  }

  pub finished_told : Told p down works (service_step d (done p.sets w))
  finished_told = row_told (scanner.hit after) refl (row_of d (done p.sets w))

-- the other events, at one past
pub connects_told : (p : Past) (down : List Letter) (works : List WorkState) (d : Desk) → DeskFits p down works d → connect_refusal d ≡ None → Told p down works (service_step d Connects)
unfolding service_step
connects_told p down works d f ok = record {
  fits = subst (λ ws. DeskFits p down ws (record d { connected = true })) (sym (append-nil works))
      record { jobs = f.jobs; cache = f.cache; published = f.published; versioned = λ e. some_version (d.version == 0) refl ok; idle = λ off. absurd (true≢false off); leases = f.leases };
  up = (tt, tt);
}
  where
    some_version : (b : Bool) → (d.version == 0) ≡ b → (if b then Some NoSignatures else (if d.connected then Some AlreadyConnected else None)) ≡ None → d.version ≡ 0 → ⊥
    some_version true e ok = λ z. absurd (cc (ok))
    some_version false e ok = eqb-false d.version 0 e

pub message_told : (p : Past) (down : List Letter) (works : List WorkState) (d : Desk) → DeskFits p down works d → Each IsSolid p.sets → (m : Letter) → DownFits p down m → Told p down works (service_step d (Receives m))
message_told p down works d f solid m h = message_row_told p down works d f solid (row_of d (Receives m)) h

-- with no job
jobless : (p : Past) (down : List Letter) (works : List WorkState) (d : Desk) → DeskFits p down works d → (version : ℕ) (cache : List Entry) → Each (IsRightEntry p) cache → ((version ≡ 0 → ⊥) → (set : List Pattern) × (published_as p.sets version ≡ Some set)) → (n : ServiceNote) → Told p down works (says (record d { version = version; connected = false; jobs = []; cache = cache }) n)
jobless p down works d f version cache h published n = record {
  fits = subst (λ ws. DeskFits p down ws (record d { version = version; connected = false; jobs = []; cache = cache })) (sym (append-nil works))
      record { jobs = tt; cache = h; published = published; versioned = λ e. absurd (true≢false (sym e)); idle = λ e. refl; leases = f.leases };
  up = tt;
}

pub disconnects_told : (p : Past) (down : List Letter) (works : List WorkState) (d : Desk) → DeskFits p down works d → Told p down works (service_step d Disconnects)
unfolding service_step
disconnects_told p down works d f = jobless p down works d f d.version d.cache f.cache f.published Quiet

pub latest_published : (sets : List Publication) → (latest_as sets ≡ 0 → ⊥) → (set : List Pattern) × (published_as sets (latest_as sets) ≡ Some set)
unfolding published_as
latest_published [] h = absurd (h refl)
latest_published (q ∷ qs) h = (q.patterns, rw (eq-eqb q.version q.version refl) refl)

pub restarts_told : (p : Past) (down : List Letter) (works : List WorkState) (d : Desk) → DeskFits p down works d → (n : ℕ) → ((n ≡ 0 → ⊥) → (set : List Pattern) × (published_as p.sets n ≡ Some set)) → Told p down works (service_step d (Restarts n))
unfolding service_step
restarts_told p down works d f n known = jobless p down works d f n [] tt known Quiet

-- what asks for the bytes of jobs tells no verdict
reads_fit : (p : Past) (down : List Letter) (port : Port) (limits : LimitValues) (v : ℕ) (js : List Job) → Each (UpFits p down) (map (via port) (map (λ j. read_message limits (afresh v j)) js))
reads_fit p down port limits v [] = tt
reads_fit p down port limits v (j ∷ js) = (tt, reads_fit p down port limits v js)

-- a publication: the past is that after it
pub publishes_told : (p : Past) (down : List Letter) (works : List WorkState) (d : Desk) → DeskFits p down works d → Each IsSolid p.sets → (v : ℕ) (set : List Pattern) → published_as p.sets v ≡ Some set → (v ≡ 0 → ⊥) → Told p down works (service_step d (Publishes v))
unfolding service_step
publishes_told p down works d f solid v set at some =
    cond_both d.connected _ _ (Told p down works)
    (λ e. record {
      fits = subst (λ ws. DeskFits p down ws (record d { version = v; jobs = map (afresh v) d.jobs })) (sym (append-nil works)) record {
        jobs = each-map (JobFits p down d.port works d.last_lease v) (JobFits p down d.port works d.last_lease d.version) (afresh v) (λ j h. begun p down d.port works d.last_lease v solid (afresh v j) h.told h.bytes h.held h.size set at refl refl refl) d.jobs f.jobs;
        cache = f.cache;
        published = λ z. (set, at);
        versioned = λ z. some;
        idle = λ off. absurd (true≢false (sym e ∙ off));
        leases = f.leases;
      };
      up = (tt, reads_fit p down d.port d.limits v d.jobs);
    })
    (λ e. record {
      fits = subst (λ ws. DeskFits p down ws (record d { version = v })) (sym (append-nil works)) record {
        jobs = subst (Each (JobFits p down d.port works d.last_lease v)) (sym (f.idle e)) tt;
        cache = f.cache;
        published = λ z. (set, at);
        versioned = λ on. absurd (true≢false (sym on ∙ e));
        idle = f.idle;
        leases = f.leases;
      };
      up = tt;
    })
