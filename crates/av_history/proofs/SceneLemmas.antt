-- What holds of the three sides at every moment, over a past: of a world, and of audits that are put together.
use Rattle.std.proofs.Common.{if◌then◌else◌, ◌≡◌, ℕ, zero, suc, ◌<◌, ◌≤◌, Bool, true, false, cond, List, [], ◌∷◌, ◌++◌, map, flat_map, Option, Some, None, ◌==◌, refl, sym, ap, ◌∙◌, subst, arith, eqb-true, append-nil, All, slice_get, slice_set}
use Rattle.std.proofs.lemmas.Bool.{cond_both}
use Rattle.av_base.proofs.KeyLemmas.{same_port-refl}
use Rattle.av_service.specs.Work.{WorkState}
use Rattle.av_sigset.specs.Publication.{Publication, latest_as, published_as}
use Rattle.av_filter.specs.Conduct.{FilterEvent, Opens, Changes, filter_refusal, filter_step}
use Rattle.av_filter.specs.Fit.{Stands}
use Rattle.av_frame.specs.Message.{Letter}
use Rattle.av_base.specs.declared.port.Port.TheVariants.{One, Two}
use Rattle.av_base.specs.declared.port.Port.{Port}
use Rattle.av_base.specs.Port.{same_port}
use Rattle.av_service.specs.Desk.{Desk}
use Rattle.av_history.specs.Whole.{BodyAskedThere}
use Rattle.av_history.specs.Headline.{IsJustified}
use Rattle.av_history.specs.Held.{held_among, held_body, held_by, held_contexts, held_in, held_reply}
use Rattle.av_history.specs.Safety.{IsWorkOf, JudgesItsContent as JobFits, LoanFits, works_of}
use Rattle.av_history.specs.Scene.{past_filter}
use Rattle.av_history.specs.World.{WorldState, desk_of, heard, lent_at}
use Rattle.av_history.proofs.DeskLemmas.{DeskFits, IsSolid, Told, desk_grows}
use Rattle.av_filter.proofs.EachLemmas.{each_weaker, each-append, each-flat_map}
use Rattle.av_history.proofs.FilterLemmas.{Comes, Good, OpenFits, filter_good}
use Rattle.av_filter.proofs.FitLemmas.{keeps_fit}
use Rattle.av_history.proofs.FitLemmas
use Rattle.av_history.proofs.FitLemmas.{Fits as FilterFits, Grown, core, DownFits, UpBody, UpFits, ContextFits, same_past, change_grows, up_grows, down_grows, right_grows}
use Rattle.av_history.proofs.StepLemmas.{after_filter}
use Rattle.av_service.specs.declared.job.Job.{Job}
use Rattle.av_service.specs.declared.job.Loan.{Loan}
use Rattle.av_base.specs.declared.mode.Mode.{Mode}
use Rattle.av_context.proofs.RowsLemmas.{cmp-above, cmp-same}
use Rattle.av_context.specs.declared.context_state.ContextState.TheVariants as context
use Rattle.av_context.specs.declared.context_state.ContextState.{ContextState}
use Rattle.av_frame.specs.declared.message.Body.TheVariants.{Scan, Chunk, NoChunk, Abort, Hello, Read, Reply, Updated}
use Rattle.av_frame.specs.declared.message.Body.{Body}
use Rattle.av_frame.specs.declared.outcome.Outcome.TheVariants.{Judged, Failed}
use Rattle.av_sigset.specs.Set.{NumberedSet}
use Rattle.av_sigset.specs.declared.signature.Pattern.{Pattern}
use Rattle.av_store.specs.Files.{File}
use Rattle.av_store.specs.History.{now}
use Rattle.av_store.specs.Rows.{Streams, stream_at}
use Rattle.av_store.specs.Seen.{Keeps, seen, seen_from, stream_of}
use Rattle.av_store.specs.declared.stream.Stream.{Stream}
use Rattle.std.proofs.lemmas.List.Elements.{All-from_recursion}
use Rattle.std.specs.List.{AllByRecursion as Each}
use Rattle.std.specs.Ordering.{is_eq}
use Rattle.av_filter.specs.Reaction.{Reaction}
use Rattle.av_service.specs.Response.{Response}
use Rattle.av_filter_table.specs.Table.{context_of}
use Rattle.av_history.specs.declared.event.Event.{Event}
use Rattle.av_history.specs.Past.{IsRightEntry, IsVerdictOf, Past}

-- versions rise
abbrev pub Falling : List Publication → Type 0
Falling [] = Unit {0}
Falling (q ∷ qs) = (latest_as qs < q.version) × Falling qs

-- what holds of a world, over a past
pub record Lawful (mode : Mode) (p : Past) (w : WorldState) : Type 0 where
  pub filter : FilterFits p w.volume.streams (core w.table) w.down
  pub keeps : Keeps w.volume (map now p.streams)
  pub opens : Each (OpenFits w.down) w.table.pended
  pub boots : w.table.boot ≡ w.volume.boot
  pub fits : Stands w.table w.volume
  pub mode_kept : w.table.mode ≡ mode
  pub solid : Each IsSolid p.sets
  pub desks : (port : Port) → DeskFits p w.down (works_of port w.works) (desk_of w port)
  pub up : Each (UpFits p w.down) w.up

pub filter_grows : (p : Past) (f : FilterEvent) → Grown p (past_filter p f)
filter_grows p (Changes c) = change_grows p c
filter_grows p _ = same_past p

pub sets_same : (p : Past) (f : FilterEvent) → (past_filter p f).sets ≡ p.sets
sets_same p (Opens s l) = refl
sets_same p (Changes c) = refl
sets_same p _ = refl

pub published_before : (sets : List Publication) (u : ℕ) (set : List Pattern) → Falling sets → published_as sets u ≡ Some set → u ≤ latest_as sets
unfolding published_as
published_before [] u set fall at = absurd cc
published_before (q ∷ qs) u set fall at =
    let go : (b : Bool) → (q.version == u) ≡ b → (if b then Some q.patterns else published_as qs u) ≡ Some set → u ≤ q.version = elim [
      | true ↦ λ e k. omega (arith, eqb-true q.version u e)
      | false ↦ λ e k. omega (arith, published_before qs u set fall.1 k, fall.0)
    ] in
    go (q.version == u) refl at

-- ---- one event of the filter
module _ (mode : Mode) (p : Past) (w : WorldState) (f : FilterEvent) (l : Lawful mode p w) (comes : Comes p w.down w.table w.volume f) (ok : filter_refusal w.table w.volume f ≡ None) where
  reacts_well : Good (past_filter p f) w.table.mode w.down (filter_step w.table w.volume f)
  reacts_well = filter_good p w.table w.volume w.down l.filter l.boots l.opens l.keeps l.fits.coherent.orderly.order f comes

  -- the answers that an event gives are justified by the past with it
  pub answers_just : Each (IsJustified mode (past_filter p f)) (filter_step w.table w.volume f).answers
  answers_just = subst (λ m. Each (IsJustified m (past_filter p f)) (filter_step w.table w.volume f).answers) l.mode_kept reacts_well.justified

  pub lawful_filter : (e : Event) → Lawful mode (past_filter p f) (after_filter w e f)
  lawful_filter e =
      let q : Past = past_filter p f in
      let r : Reaction = filter_step w.table w.volume f in
      let good : Good q w.table.mode w.down r = reacts_well in
      let up : Grown p q = filter_grows p f in
      record {
        filter = good.fits;
        keeps = good.keeps;
        opens = good.opens;
        boots = good.boots;
        fits = keeps_fit.events w.table w.volume f l.fits ok;
        mode_kept = good.mode_kept ∙ l.mode_kept;
        solid = subst (Each IsSolid) (sym (sets_same p f)) l.solid;
        desks = λ port. desk_grows p q w.down r.messages (works_of port w.works) (desk_of w port) up (l.desks port);
        up = each_weaker (UpFits p w.down) (UpFits q (w.down ++ r.messages)) (up_grows p q w.down r.messages up) w.up l.up;
      }

-- ---- works

-- those of a port, with what it lends now, or what the other lends
pub works_more : (port : Port) (ws : List (Option (Port × WorkState))) (ks : List WorkState) → works_of port (ws ++ map (lent_at port) ks) ≡ works_of port ws ++ ks
works_more port [] [] = refl
works_more One [] (k ∷ ks) = ap (λ xs. k ∷ xs) (works_more One [] ks)
works_more Two [] (k ∷ ks) = ap (λ xs. k ∷ xs) (works_more Two [] ks)
works_more port (None ∷ ws) ks = works_more port ws ks
works_more port (Some x ∷ ws) ks =
    elim (same_port x.0 port) as (λ b. (if b then x.1 ∷ works_of port (ws ++ map (lent_at port) ks) else works_of port (ws ++ map (lent_at port) ks)) ≡ (if b then x.1 ∷ works_of port ws else works_of port ws) ++ ks) [
      | true ↦ ap (λ xs. x.1 ∷ xs) (works_more port ws ks)
      | false ↦ works_more port ws ks
    ]

pub works_one : (ws : List (Option (Port × WorkState))) (ks : List WorkState) → works_of One (ws ++ map (lent_at Two) ks) ≡ works_of One ws
works_one [] [] = refl
works_one [] (k ∷ ks) = works_one [] ks
works_one (None ∷ ws) ks = works_one ws ks
works_one (Some x ∷ ws) ks = ap (λ xs. if same_port x.0 One then x.1 ∷ xs else xs) (works_one ws ks)

pub works_two : (ws : List (Option (Port × WorkState))) (ks : List WorkState) → works_of Two (ws ++ map (lent_at One) ks) ≡ works_of Two ws
works_two [] [] = refl
works_two [] (k ∷ ks) = works_two [] ks
works_two (None ∷ ws) ks = works_two ws ks
works_two (Some x ∷ ws) ks = ap (λ xs. if same_port x.0 Two then x.1 ∷ xs else xs) (works_two ws ks)

-- what is so of the service that spoke, and was so of both
pub heard_desks : (P : Port → Desk → Type 0) (w : WorldState) (at : Port) (r : Response) → P at r.desk → ((port : Port) → P port (desk_of w port)) → (port : Port) → P port (desk_of (heard w at r) port)
heard_desks P w One r now before One = now
heard_desks P w One r now before Two = before Two
heard_desks P w Two r now before One = before One
heard_desks P w Two r now before Two = now

-- the same of what each lent
pub heard_works : (P : Port → List WorkState → Type 0) (w : WorldState) (at : Port) (r : Response) → P at (works_of at w.works ++ r.works) → ((port : Port) → P port (works_of port w.works)) → (port : Port) → P port (works_of port (heard w at r).works)
heard_works P w One r now before One = subst (P One) (sym (works_more One w.works r.works)) now
heard_works P w One r now before Two = subst (P Two) (sym (works_two w.works r.works)) (before Two)
heard_works P w Two r now before One = subst (P One) (sym (works_one w.works r.works)) (before One)
heard_works P w Two r now before Two = subst (P Two) (sym (works_more Two w.works r.works)) now

-- ---- one response of the service of a port, at a past that has grown, or not
module _ (mode : Mode) (p q : Past) (w : WorldState) (l : Lawful mode p w) (up : Grown p q) (streams : q.streams ≡ p.streams) (solid : Each IsSolid q.sets) where
  -- a desk that heard nothing
  kept : (works : List WorkState) (d : Desk) → DeskFits p w.down works d → DeskFits q w.down works d
  kept works d f = subst (λ (ms : List Letter). DeskFits q ms works d) (append-nil w.down) (desk_grows p q w.down [] works d up f)

  pub lawful_heard : (at : Port) (r : Response) → Told q w.down (works_of at w.works) r → Lawful mode q (heard w at r)
  lawful_heard at r told = record {
    filter = filter_grown;
    keeps = subst (λ hs. Keeps w.volume (map now hs)) (sym streams) l.keeps;
    opens = l.opens;
    boots = l.boots;
    fits = l.fits;
    mode_kept = l.mode_kept;
    solid = solid;
    desks = desks at told;
    up = each-append (UpFits q w.down) w.up r.messages (each_weaker (UpFits p w.down) (UpFits q w.down) (λ m h. subst (λ (d : List Letter). UpFits q d m) (append-nil w.down) (up_grows p q w.down [] up m h)) w.up l.up) told.up;
  }
    where
      desks : (at : Port) → Told q w.down (works_of at w.works) r → (port : Port) → DeskFits q w.down (works_of port (w.works ++ map (lent_at at) r.works)) (desk_of (heard w at r) port)
      desks One t One = subst (λ ks. DeskFits q w.down ks r.desk) (sym (works_more One w.works r.works)) t.fits
      desks One t Two = subst (λ ks. DeskFits q w.down ks w.two) (sym (works_two w.works r.works)) (kept (works_of Two w.works) w.two (l.desks Two))
      desks Two t One = subst (λ ks. DeskFits q w.down ks w.one) (sym (works_one w.works r.works)) (kept (works_of One w.works) w.one (l.desks One))
      desks Two t Two = subst (λ ks. DeskFits q w.down ks r.desk) (sym (works_more Two w.works r.works)) t.fits

      filter_grown : FilterFits q w.volume.streams (core w.table) w.down
      filter_grown = record {
        present = l.filter.present ∙ ap (λ hs. seen (map now hs)) (sym streams);
        rises = l.filter.rises;
        contexts = λ u. FitLemmas.context_kept p q w.volume.streams w.volume.streams u (context_of w.table.contexts u) up (λ f h. h) (l.filter.contexts u);
        questions = l.filter.questions;
        apart = l.filter.apart;
        scanning = l.filter.scanning;
        cache = each_weaker (IsRightEntry p) (IsRightEntry q) (λ x h. right_grows p q x.stream x.generation x.version x.verdict up h) w.table.cache l.filter.cache;
        fresh = l.filter.fresh;
        sent = each_weaker (DownFits p w.down) (DownFits q w.down) (λ m h. subst (λ (d : List Letter). DownFits q d m) (append-nil w.down) (down_grows p q w.down [] up m h)) w.down l.filter.sent;
        once = l.filter.once;
      }

-- history, sets and answers do not matter to it
pub rewrap : (mode : Mode) (p : Past) (w : WorldState) (h : List Event) (sets : List NumberedSet) → Lawful mode p w → Lawful mode p (record w { history = h; sets = sets })
rewrap mode p w h sets l = record {
  filter = l.filter;
  keeps = l.keeps;
  opens = l.opens;
  boots = l.boots;
  fits = l.fits;
  mode_kept = l.mode_kept;
  solid = l.solid;
  desks = λ port. l.desks port;
  up = l.up;
}

-- without one that came back
pub works_less : (P : WorkState → Type 0) (port : Port) (ws rest : List (Option (Port × WorkState))) (k : ℕ) → Each P (works_of port (ws ++ rest)) → Each P (works_of port (slice_set ws k None ++ rest))
works_less P port [] rest k all = all
works_less P port (None ∷ ws) rest zero all = all
works_less P port (None ∷ ws) rest (suc k) all = works_less P port ws rest k all
works_less P port (Some x ∷ ws) rest zero all = go (same_port x.0 port) all
  where
    go : (b : Bool) → Each P (if b then x.1 ∷ works_of port (ws ++ rest) else works_of port (ws ++ rest)) → Each P (works_of port (ws ++ rest))
    go true h = h.1
    go false h = h
works_less P port (Some x ∷ ws) rest (suc k) all =
    (elim (same_port x.0 port) as (λ b. Each P (if b then x.1 ∷ works_of port (ws ++ rest) else works_of port (ws ++ rest)) → Each P (if b then x.1 ∷ works_of port (slice_set ws k None ++ rest) else works_of port (slice_set ws k None ++ rest))) [
      | true ↦ λ h. (h.0, works_less P port ws rest k h.1)
      | false ↦ λ h. works_less P port ws rest k h
    ]) all

pub among_work : (P : WorkState → Type 0) (ws : List (Option (Port × WorkState))) (k : ℕ) (x : Port × WorkState) → slice_get ws k ≡ Some (Some x) → Each P (works_of x.0 ws) → P x.1
among_work P [] k x at all = absurd cc
among_work P (None ∷ ws) zero x at all = absurd (cc (at))
among_work P (Some y ∷ ws) zero x at all =
    let same : y ≡ x = cc (at) in
    let here : Each P (if same_port x.0 x.0 then x.1 ∷ works_of x.0 ws else works_of x.0 ws) = subst (λ (z : Port × WorkState). Each P (if same_port z.0 x.0 then z.1 ∷ works_of x.0 ws else works_of x.0 ws)) same all in
    let first : Each P (x.1 ∷ works_of x.0 ws) = subst (λ b. Each P (if b then x.1 ∷ works_of x.0 ws else works_of x.0 ws)) (same_port-refl x.0) here in
    first.0
among_work P (None ∷ ws) (suc k) x at all = among_work P ws k x at all
among_work P (Some y ∷ ws) (suc k) x at all = among_work P ws k x at (go (same_port y.0 x.0) all)
  where
    go : (b : Bool) → Each P (if b then y.1 ∷ works_of x.0 ws else works_of x.0 ws) → Each P (works_of x.0 ws)
    go true h = h.1
    go false h = h

-- a desk fits with fewer works
module _ (p : Past) (down : List Letter) (works ws : List WorkState) (fewer : (P : WorkState → Type 0) → Each P works → Each P ws) (d : Desk) where
  loan_fewer : (j : Job) (rest : List ℕ) (o : Option Loan) → LoanFits works d.last_lease d.version j.scan rest o → LoanFits ws d.last_lease d.version j.scan rest o
  loan_fewer j rest None h = tt
  loan_fewer j rest (Some x) h = (h.0, h.1, fewer (IsWorkOf d.version j.scan rest x) h.2)

  job_fewer : (j : Job) → JobFits p down d.port works d.last_lease d.version j → JobFits p down d.port ws d.last_lease d.version j
  job_fewer j h = record {
    told = h.told;
    bytes = h.bytes;
    held = h.held;
    size = h.size;
    judged = h.judged;
    rest = h.rest;
    front = h.front;
    count = h.count;
    patterns = h.patterns;
    published = h.published;
    scanned = h.scanned;
    loan = loan_fewer j h.rest j.loan h.loan;
  }

  desk_fewer : DeskFits p down works d → DeskFits p down ws d
  desk_fewer f = record {
    jobs = each_weaker (JobFits p down d.port works d.last_lease d.version) (JobFits p down d.port ws d.last_lease d.version) job_fewer d.jobs f.jobs;
    cache = f.cache;
    published = f.published;
    versioned = f.versioned;
    idle = f.idle;
    leases = fewer (λ (k : WorkState). k.lease ≤ d.last_lease) f.leases;
  }

pub lawful_fewer : (mode : Mode) (p : Past) (w : WorldState) (ws : List (Option (Port × WorkState))) → ((port : Port) (P : WorkState → Type 0) → Each P (works_of port w.works) → Each P (works_of port ws)) → Lawful mode p w → Lawful mode p (record w { works = ws })
lawful_fewer mode p w ws fewer l = record {
  filter = l.filter;
  keeps = l.keeps;
  opens = l.opens;
  boots = l.boots;
  fits = l.fits;
  mode_kept = l.mode_kept;
  solid = l.solid;
  desks = λ port. desk_fewer p w.down (works_of port w.works) (works_of port ws) (fewer port) (desk_of w port) (l.desks port);
  up = l.up;
}

-- the verdicts that stand
context_held : (p : Past) (ss : Streams) (s : ℕ) (x : Stream) (c : Option ContextState) → stream_at s ss ≡ Some x → ContextFits p ss s c → Each (IsRightEntry p) (held_in s x.generation c)
context_held p ss s x None at h = tt
context_held p ss s x (Some context.Modified) at h = tt
context_held p ss s x (Some (context.Scanning id)) at h = tt
context_held p ss s x (Some (context.Judged v r)) at h =
    let both : Some h.0 ≡ Some x = sym h.1 ∙ at in
    let same : h.0 ≡ x = cc (both) in
    (subst (λ (y : Stream). IsVerdictOf p s y.generation v r) same h.2, tt)

-- each stream of the list is found under its number
IsFound : Streams → ℕ × Stream → Type 0
IsFound ss x = stream_at x.0 ss ≡ Some x.1

low : (k : ℕ) (fs : List File) → Each (λ (x : ℕ × Stream). k ≤ x.0) (seen_from k fs)
unfolding seen_from
low k [] = tt
low k (f ∷ fs) =
    let higher : Each (λ (x : ℕ × Stream). k ≤ x.0) (seen_from (suc k) fs) = each_weaker (λ (x : ℕ × Stream). suc k ≤ x.0) (λ (x : ℕ × Stream). k ≤ x.0) (λ x le. omega arith) (seen_from (suc k) fs) (low (suc k) fs) in
    cond_both f.here ((k, stream_of f) ∷ seen_from (suc k) fs) (seen_from (suc k) fs) (Each (λ (x : ℕ × Stream). k ≤ x.0)) (λ e. (omega arith, higher)) (λ e. higher)

-- behind one of a lower number
found_later : (y : ℕ × Stream) (ys xs : Streams) → Each (λ (x : ℕ × Stream). suc y.0 ≤ x.0) xs → Each (IsFound ys) xs → Each (IsFound (y ∷ ys)) xs
unfolding IsFound
found_later y ys [] above all = tt
found_later y ys (x ∷ xs) above all = (ap (λ o. cond (is_eq o) (Some y.1) (stream_at x.0 ys)) (cmp-above x.0 y.0 (omega (arith, above.0))) ∙ all.0, found_later y ys xs above.1 all.1)

found_from : (k : ℕ) (fs : List File) → Each (IsFound (seen_from k fs)) (seen_from k fs)
unfolding seen_from IsFound
found_from k [] = tt
found_from k (f ∷ fs) =
    let y : ℕ × Stream = (k, stream_of f) in
    let ys : Streams = seen_from (suc k) fs in
    let rest : Each (IsFound ys) ys = found_from (suc k) fs in
    cond_both f.here (y ∷ ys) ys (λ xs. Each (IsFound xs) xs)
    (λ e. (ap (λ o. cond (is_eq o) (Some (stream_of f)) (stream_at k ys)) (cmp-same k), found_later y ys ys (low (suc k) fs) rest))
    (λ e. rest)

contexts_held : (p : Past) (ss : Streams) (contexts : List (ℕ × ContextState)) → ((s : ℕ) → ContextFits p ss s (context_of contexts s)) → (xs : Streams) → Each (IsFound ss) xs → Each (IsRightEntry p) (held_contexts contexts xs)
unfolding held_contexts IsFound
contexts_held p ss contexts fits [] found = tt
contexts_held p ss contexts fits (x ∷ xs) found =
    each-append (IsRightEntry p) (held_in x.0 x.1.generation (context_of contexts x.0)) (held_contexts contexts xs) (context_held p ss x.0 x.1 (context_of contexts x.0) found.0 (fits x.0)) (contexts_held p ss contexts fits xs found.1)

body_held : (p : Past) (down : List Letter) (port : Port) (m : Body) → UpBody p down port m → Each (IsRightEntry p) (held_body down m)
body_held p down port (Reply id (Judged v r)) h = subst (λ o. Each (IsRightEntry p) (held_by o v r)) (sym h.told) (h.right, tt)
body_held p down port (Reply id (Failed why)) h = tt
body_held p down port (Scan id s g l) h = tt
body_held p down port (Chunk id o b) h = tt
body_held p down port (NoChunk id o r) h = tt
body_held p down port (Abort id) h = tt
body_held p down port (Hello n v) h = tt
body_held p down port (Read id o c) h = tt
body_held p down port (Updated v) h = tt

reply_held : (p : Past) (down : List Letter) (m : Letter) → UpFits p down m → Each (IsRightEntry p) (held_reply down m)
reply_held p down m h = body_held p down m.port m.body h

pub held_right : (p : Past) (w : WorldState) → FilterFits p w.volume.streams (core w.table) w.down → Keeps w.volume (map now p.streams) → Each (IsRightEntry p) w.one.cache → Each (IsRightEntry p) w.two.cache → Each (UpFits p w.down) w.up
    → All (IsRightEntry p) (held_among w.table w.volume.streams w.one w.two w.down w.up)
held_right p w f keeps one two u =
    All-from_recursion (IsRightEntry p) (held_among w.table w.volume.streams w.one w.two w.down w.up)
    (each-append (IsRightEntry p) _ (flat_map (held_reply w.down) w.up)
    (each-append (IsRightEntry p) _ w.two.cache
    (each-append (IsRightEntry p) _ w.one.cache
    (each-append (IsRightEntry p) (held_contexts w.table.contexts w.volume.streams) w.table.cache
    (contexts_held p w.volume.streams w.table.contexts f.contexts w.volume.streams (subst (λ ss. Each (IsFound ss) ss) (sym keeps.streams) (found_from 1 (map now p.streams))))
    f.cache)
    one)
    two)
    (each-flat_map (IsRightEntry p) (UpFits p w.down) (held_reply w.down) (reply_held p w.down) w.up u))

-- a verdict that came up at a port was asked there
pub body_there : (p : Past) (down : List Letter) (port : Port) (m : Body) → UpBody p down port m → BodyAskedThere down port m
body_there p down port (Reply id (Judged v r)) h = (h.of, h.told, h.there)
body_there p down port (Reply id (Failed why)) h = tt
body_there p down port (Scan id s g l) h = tt
body_there p down port (Chunk id o b) h = tt
body_there p down port (NoChunk id o r) h = tt
body_there p down port (Abort id) h = tt
body_there p down port (Hello n v) h = tt
body_there p down port (Read id o c) h = tt
body_there p down port (Updated v) h = tt
