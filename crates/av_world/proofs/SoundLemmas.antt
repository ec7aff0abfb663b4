-- The first two parts of the headline, of every world over two ports: what is held is right, and grants are of clean contents.
use Rattle.std.proofs.Common.{slice_index_or, ◌≡◌, ℕ, zero, suc, ◌≤◌, List, [], ◌∷◌, ◌++◌, length, map, Option, Some, None, refl, sym, ap, ◌∙◌, subst, arith, inl, inr, eq-eqb, append-nil, slice_get, slice_set, le-leb}
use Rattle.std.proofs.lemmas.Bool.{true≢false, ne_eqb, lt-leb}
use Rattle.av_base.proofs.AmongLemmas.{among_each}
use Rattle.av_base.specs.Among.{Among}
use Rattle.av_service.specs.Work.{WorkState}
use Rattle.av_sigset.specs.Publication.{Publication, latest_as, published_as, publication_of}
use Rattle.av_store.specs.Files as change
use Rattle.av_filter.specs.Conduct.{FilterEvent, filter_refusal, filter_step}
use Rattle.av_filter_table.specs.Orderly.{Rises}
use Rattle.av_frame.specs.Message.{Letter}
use Rattle.av_base.specs.declared.port.Port.TheVariants.{One, Two}
use Rattle.av_base.specs.declared.port.Port.{Port}
use Rattle.av_service.specs.Audit.{IsNew}
use Rattle.av_service.specs.Conduct.{ServiceEvent, Publishes, Restarts, service_step}
use Rattle.av_service.specs.Desk.{Desk, just_started}
use Rattle.av_history.specs.Whole.{IsAskedThere, ScanOnce}
use Rattle.av_history.specs.Cores.{IsFilterEvent, IsServiceEvent, Names}
use Rattle.av_history.specs.Headline.{GrantsOnlyClean, HoldsOneVerdict, IsJustified, NeverDiffers}
use Rattle.av_history.specs.Held.{asked, held, history_at}
use Rattle.av_history.specs.Safety.{works_of}
use Rattle.av_history.specs.Scene.{past_filter}
use Rattle.av_history.specs.World.{WorldState, after_set, back_at, desk_of, done, given_at, heard, if_there, lent_at, member, start, with_set, work_at, world_of}
use Rattle.av_history.proofs.DeskLemmas.{DeskFits, IsSolid, Told, desk_grows, connects_told, message_told, disconnects_told, restarts_told, publishes_told, finished_told, latest_published}
use Rattle.av_filter.proofs.EachLemmas.{each_weaker, each-append, each-map}
use Rattle.av_history.proofs.FilterLemmas.{Comes}
use Rattle.av_filter.proofs.FitLemmas.{keeps_fit}
use Rattle.av_history.proofs.FitLemmas.{Grown, DownFits, UpFits, same_past}
use Rattle.av_history.proofs.SceneLemmas.{Falling, Lawful, among_work, answers_just, body_there, held_right, lawful_fewer, lawful_filter, lawful_heard, published_before, rewrap, sets_same, works_less}
use Rattle.av_history.proofs.StepLemmas.{IsPublished, Preserves, after_filter, after_service, history_keeps}
use Rattle.av_base.specs.declared.limits.LimitValues.{LimitValues}
use Rattle.av_base.specs.declared.mode.Mode.{Mode}
use Rattle.av_base.specs.declared.verdict.Verdict.{Verdict}
use Rattle.av_cache.specs.declared.entry.Entry.{Entry}
use Rattle.av_match.specs.Match.{verdict}
use Rattle.av_pend.specs.declared.answer.Answer.{Answer}
use Rattle.av_sigset.specs.Set.{NumberedSet}
use Rattle.av_sigset.specs.declared.signature.Pattern.{Pattern}
use Rattle.av_store.proofs.SeenLemmas.{follows}
use Rattle.av_store.specs.History.{now}
use Rattle.av_store.specs.Seen.{Keeps}
use Rattle.av_store.specs.Store.{Store}
use Rattle.std.proofs.lemmas.List.Elements.{All-from_recursion}
use Rattle.std.specs.List.{AllByRecursion as Each}
use Rattle.std.specs.Option.{unwrap_or}
use Rattle.av_world.proofs.PublishLemmas.{is_new, latest_same, made_of}
use Rattle.av_filter.specs.Reaction.{Reaction}
use Rattle.av_service.specs.Response.{Response}
use Rattle.av_history.specs.declared.event.Event.{Event}
use Rattle.av_history.specs.declared.event.Event.TheVariants.{Publish, Run}
use Rattle.av_history.specs.Past.{IsRightEntry, IsVerdictOf, Past, changes, number_then, past}
use Rattle.av_history.specs.declared.given.Given.{Given}

-- the number that a name has now, it had then
named_then : (w : WorldState) (name : List ℕ) (s : ℕ) → Keeps w.volume (map now (past w.history).streams) → Names w name s → number_then (past w.history) name ≡ s
named_then w name s k n = sym (follows.names w.volume (map now (past w.history).streams) name k) ∙ ap (λ o. unwrap_or o 0) n

-- the past after an event of the filter
pub past_of : (w : WorldState) (e : Event) (f : FilterEvent) → Keeps w.volume (map now (past w.history).streams) → IsFilterEvent w e f → past (e ∷ w.history) ≡ past_filter (past w.history) f
unfolding past
past_of w _ _ k (IsFilterEvent.writes name o b s n) = ap (λ m. changes (past w.history) (change.Write m o b)) (named_then w name s k n)
past_of w _ _ k (IsFilterEvent.cuts name l s n) = ap (λ m. changes (past w.history) (change.Cut m l)) (named_then w name s k n)
past_of w _ _ k (IsFilterEvent.removes name s n) = ap (λ m. changes (past w.history) (change.Remove m)) (named_then w name s k n)
past_of w _ _ k _ = refl

pub past_of_service : (w : WorldState) (e : Event) (port : Port) (s : ServiceEvent) → IsServiceEvent w e port s → past (e ∷ w.history) ≡ past w.history
unfolding past
past_of_service w _ _ _ (IsServiceEvent.connects port h) = refl
past_of_service w _ _ _ _ = refl

-- a frame that is named was sent
get_among : {A : Type 0} (xs : List A) (k : ℕ) (x : A) → slice_get xs k ≡ Some x → Among x xs
get_among [] k x at = absurd cc
get_among (y ∷ xs) zero x at = let same : y ≡ x = cc at in inl (sym same)
get_among (y ∷ xs) (suc k) x at = inr (get_among xs k x at)

frame_among : (ms : List Letter) (k : ℕ) (m : Letter) → member ms k ≡ Some m → Among m ms
frame_among ms zero m at = absurd (cc (at))
frame_among ms (suc k) m at = get_among ms k m at

-- an answer is justified by the history at its event
abbrev pub IsJust : Mode → List Event → Given → Type 0
IsJust mode h a = (a.event ≤ length h) × IsJustified mode (past (history_at a.event h)) a.answer

-- earlier answers stay justified, and new ones are so by the history with their event
later_history : (e : Event) (h : List Event) (n : ℕ) → n ≤ length h → history_at n (e ∷ h) ≡ history_at n h
unfolding history_at
later_history e h n le = rw (lt-leb (suc (length h)) n (omega arith)) refl

this_history : (e : Event) (h : List Event) → history_at (suc (length h)) (e ∷ h) ≡ e ∷ h
unfolding history_at
this_history e h = rw (le-leb (suc (length h)) (suc (length h)) (omega arith)) refl

just_later : (mode : Mode) (e : Event) (h : List Event) (a : Given) → IsJust mode h a → IsJust mode (e ∷ h) a
just_later mode e h a j = (omega (arith, j.0), subst (λ k. IsJustified mode (past k) a.answer) (sym (later_history e h a.event j.0)) j.1)

just_now : (mode : Mode) (e : Event) (h : List Event) (a : Answer) → IsJustified mode (past (e ∷ h)) a → IsJust mode (e ∷ h) (given_at (suc (length h)) a)
just_now mode e h a j = (omega arith, subst (λ k. IsJustified mode (past k) a) (sym (this_history e h)) j)

pub record Sound (mode : Mode) (w : WorldState) : Type 0 where
  pub lawful : Lawful mode (past w.history) w
  pub falling : Falling (past w.history).sets
  pub sets : (past w.history).sets ≡ map publication_of w.sets
  pub answers : Each (IsJust mode w.history) w.answers

-- ---- one event of the filter
pub comes : (mode : Mode) (p : Past) (w : WorldState) (e : Event) (f : FilterEvent) → Lawful mode p w → IsFilterEvent w e f → filter_refusal w.table w.volume f ≡ None → Comes p w.down w.table w.volume f
comes mode p w _ _ l (IsFilterEvent.creates name) ok = ok
comes mode p w _ _ l (IsFilterEvent.writes name o b s n) ok = ok
comes mode p w _ _ l (IsFilterEvent.cuts name n s at) ok = ok
comes mode p w _ _ l (IsFilterEvent.removes name s n) ok = ok
comes mode p w _ _ l (IsFilterEvent.comes_up k m h) ok = among_each (UpFits p w.down) w.up m l.up (frame_among w.up k m h)
comes mode p w _ _ l _ ok = tt

pub sound_filter : (mode : Mode) (w : WorldState) → Sound mode w → (e : Event) (f : FilterEvent) → IsFilterEvent w e f → filter_refusal w.table w.volume f ≡ None → Sound mode (after_filter w e f)
sound_filter mode w s e f is ok =
    let p : Past = past w.history in
    let q : Past = past_filter p f in
    let l : Lawful mode p w = s.lawful in
    let r : Reaction = filter_step w.table w.volume f in
    let same : past (e ∷ w.history) ≡ q = past_of w e f l.keeps is in
    let may : Comes p w.down w.table w.volume f = comes mode p w e f l is ok in
    let justified : Each (IsJustified mode (past (e ∷ w.history))) r.answers = subst (λ x. Each (IsJustified mode x) r.answers) (sym same) (answers_just mode p w f l may ok) in
    let sets : q.sets ≡ p.sets = sets_same p f in
    record {
      lawful = subst (λ x. Lawful mode x (after_filter w e f)) (sym same) (lawful_filter mode p w f l may ok e);
      falling = subst (λ (x : Past). Falling x.sets) (sym same) (subst Falling (sym sets) s.falling);
      sets = ap (λ (x : Past). x.sets) same ∙ (sets ∙ s.sets);
      answers =
          each-append (IsJust mode (e ∷ w.history)) w.answers (map (given_at (suc (length w.history))) r.answers)
          (each_weaker (IsJust mode w.history) (IsJust mode (e ∷ w.history)) (just_later mode e w.history) w.answers s.answers)
          (each-map (IsJust mode (e ∷ w.history)) (IsJustified mode (past (e ∷ w.history))) (given_at (suc (length w.history))) (just_now mode e w.history) r.answers justified);
    }

-- ---- one event of the service of a port
told_by : (mode : Mode) (w : WorldState) → Sound mode w → (e : Event) (port : Port) (x : ServiceEvent) → IsServiceEvent w e port x → Told (past w.history) w.down (works_of port w.works) (service_step (desk_of w port) x)
told_by mode w s _ _ _ is =
    let p : Past = past w.history in
    let l : Lawful mode p w = s.lawful in
    elim is as (λ e port x i. Told p w.down (works_of port w.works) (service_step (desk_of w port) x)) [
      | IsServiceEvent.connects port h ↦ connects_told p w.down (works_of port w.works) (desk_of w port) (l.desks port) h
      | IsServiceEvent.comes_down k m h ↦
          message_told p w.down (works_of m.port w.works) (desk_of w m.port) (l.desks m.port) l.solid m (among_each (DownFits p w.down) w.down m l.filter.sent (frame_among w.down k m h))
      | IsServiceEvent.disconnects port ↦ disconnects_told p w.down (works_of port w.works) (desk_of w port) (l.desks port)
      | IsServiceEvent.restarts port ↦
          subst (λ n. Told p w.down (works_of port w.works) (service_step (desk_of w port) (Restarts n))) (sym (latest_same w.sets ∙ ap latest_as (sym s.sets)))
          (restarts_told p w.down (works_of port w.works) (desk_of w port) (l.desks port) (latest_as p.sets) (latest_published p.sets))
    ]

-- a world behind a response, with the same past
behind : (mode : Mode) (w next : WorldState) (e : Event) → Sound mode w → (q : Past) → past (e ∷ w.history) ≡ q → Falling q.sets → q.sets ≡ map publication_of next.sets → next.history ≡ e ∷ w.history → next.answers ≡ w.answers → Lawful mode q next → Sound mode next
behind mode w next e s q is falling sets history answers l = record {
  lawful = subst (λ h. Lawful mode (past h) next) (sym history) (subst (λ x. Lawful mode x next) (sym is) l);
  falling = subst (λ h. Falling (past h).sets) (sym history) (subst (λ (x : Past). Falling x.sets) (sym is) falling);
  sets = ap (λ h. (past h).sets) history ∙ (ap (λ (x : Past). x.sets) is ∙ sets);
  answers =
      subst (λ h. Each (IsJust mode h) next.answers) (sym history)
      (subst (λ xs. Each (IsJust mode (e ∷ w.history)) xs) (sym answers) (each_weaker (IsJust mode w.history) (IsJust mode (e ∷ w.history)) (just_later mode e w.history) w.answers s.answers));
}

pub sound_service : (mode : Mode) (w : WorldState) → Sound mode w → (e : Event) (port : Port) (x : ServiceEvent) → IsServiceEvent w e port x → Sound mode (after_service w e port x)
sound_service mode w s e port x is =
    let p : Past = past w.history in
    let l : Lawful mode p w = s.lawful in
    let r : Response = service_step (desk_of w port) x in
    behind mode w (after_service w e port x) e s p (past_of_service w e port x is) s.falling s.sets refl refl
    (rewrap mode p (heard w port r) (e ∷ w.history) w.sets (lawful_heard mode p p w l (same_past p) refl l.solid port r (told_by mode w s e port x is)))

work_found : (ws : List (Option (Port × WorkState))) (k : ℕ) (x : Port × WorkState) (o : Option (Option (Port × WorkState))) → slice_get ws k ≡ o → if_there o ≡ Some x → slice_get ws k ≡ Some (Some x)
work_found ws k x None at h = absurd (cc (h))
work_found ws k x (Some o) at h = at ∙ ap Some h

pub sound_work : (mode : Mode) (w : WorldState) → Sound mode w → (k : ℕ) (x : Port × WorkState) → work_at w.works k ≡ Some x → Sound mode (after_service (back_at w k) (Run k) x.0 (done (map publication_of w.sets) x.1))
unfolding past
sound_work mode w s zero x at = absurd (cc (at))
sound_work mode w s (suc k) x at =
    let p : Past = past w.history in
    let l : Lawful mode p w = s.lawful in
    let d : Desk = desk_of w x.0 in
    let event : ServiceEvent = done (map publication_of w.sets) x.1 in
    let r : Response = service_step d event in
    let there : slice_get w.works k ≡ Some (Some x) = work_found w.works k x (slice_get w.works k) refl at in
    let told : Told p w.down (works_of x.0 w.works) r =
    subst (λ sets. Told p w.down (works_of x.0 w.works) (service_step d (done sets x.1))) s.sets
    (finished_told p w.down (works_of x.0 w.works) d (l.desks x.0) l.solid x.1 (λ P all. among_work P w.works k x there all)) in
    let full : Lawful mode p (heard w x.0 r) = lawful_heard mode p p w l (same_past p) refl l.solid x.0 r told in
    let less : Lawful mode p (record (heard w x.0 r) { works = slice_set w.works k None ++ map (lent_at x.0) r.works }) =
    lawful_fewer mode p (heard w x.0 r) (slice_set w.works k None ++ map (lent_at x.0) r.works) (λ port P all. works_less P port w.works (map (lent_at x.0) r.works) k all) full in
    behind mode w (after_service (back_at w (suc k)) (Run (suc k)) x.0 event) (Run (suc k)) s p refl s.falling s.sets refl refl
    (rewrap mode p (record (heard w x.0 r) { works = slice_set w.works k None ++ map (lent_at x.0) r.works }) (Run (suc k) ∷ w.history) w.sets less)

-- ---- a publication

-- a world in which both services heard of a version
abbrev told_of : WorldState → Event → NumberedSet → ℕ → WorldState
told_of w e set n =
    let next = heard (heard (with_set w set) One (service_step w.one (Publishes n))) Two (service_step w.two (Publishes n)) in
    record next { history = e ∷ w.history }

pub sound_publish : (mode : Mode) (w : WorldState) → Sound mode w → (v : ℕ) (ps : List Pattern) (set : NumberedSet) → IsPublished w v ps set → Sound mode (after_set w (Publish v ps) set)
unfolding past published_as
sound_publish mode w s v ps set ok =
    let p : Past = past w.history in
    let q : Past = past (Publish v ps ∷ w.history) in
    let l : Lawful mode p w = s.lawful in
    let made : publication_of set ≡ record { version = v; patterns = ps } = made_of v ps set ok.made in
    let version : set.version ≡ v = ap (λ (x : Publication). x.version) made in
    let new : IsNew p.sets v ps = is_new w p.sets v ps set ok s.sets in
    let up : Grown p q = record {
      contents = λ s g c h. h;
      sets = λ u x h.
          let le = published_before p.sets u x s.falling h in
          rw (ne_eqb v u (λ e. absurd (omega (arith, new.later, le)))) h;
    } in
    let at : published_as q.sets v ≡ Some ps = rw (eq-eqb v v refl) refl in
    let some : v ≡ 0 → ⊥ = λ z. absurd (omega (arith, new.later)) in
    let solid : Each IsSolid q.sets = (new.solid, l.solid) in
    let falling : Falling q.sets = (new.later, s.falling) in
    let w' : WorldState = with_set w set in
    let l' : Lawful mode p w' = rewrap mode p w w.history (set ∷ w.sets) l in
    let grown : (works : List WorkState) (d : Desk) → DeskFits p w.down works d → DeskFits q w.down works d =
    λ works d f. subst (λ (ms : List Letter). DeskFits q ms works d) (append-nil w.down) (desk_grows p q w.down [] works d up f) in
    let r1 : Response = service_step w.one (Publishes v) in
    let r2 : Response = service_step w.two (Publishes v) in
    let one : Lawful mode q (heard w' One r1) =
    lawful_heard mode p q w' l' up refl solid One r1 (publishes_told q w.down (works_of One w.works) w.one (grown (works_of One w.works) w.one (l.desks One)) solid v ps at some) in
    let two : Lawful mode q (heard (heard w' One r1) Two r2) =
    lawful_heard mode q q (heard w' One r1) one (same_past q) refl solid Two r2 (publishes_told q w.down (works_of Two (heard w' One r1).works) w.two (one.desks Two) solid v ps at some) in
    let sets : q.sets ≡ map publication_of (set ∷ w.sets) = ap (λ (x : Publication). x ∷ p.sets) (sym made) ∙ ap (λ sets. publication_of set ∷ sets) s.sets in
    subst (λ n. Sound mode (told_of w (Publish v ps) set n)) (sym version)
    (behind mode w (told_of w (Publish v ps) set v) (Publish v ps) s q refl falling sets refl refl
    (rewrap mode q (heard (heard w' One r1) Two r2) (Publish v ps ∷ w.history) (set ∷ w.sets) two))

sound_keeps : (mode : Mode) (w : WorldState) → Sound mode w → Preserves (λ e. Sound mode) w
sound_keeps mode w s = record {
  filter = λ e f is ok. sound_filter mode w s e f is ok;
  service = λ e port x is. sound_service mode w s e port x is;
  publish = λ v ps set ok. sound_publish mode w s v ps set ok;
  work = λ k x at. sound_work mode w s k x at;
}

desk_starts : (number : ℕ) (limits : LimitValues) (port : Port) → DeskFits (record { streams = []; sets = [] }) [] [] (just_started number port limits 0)
desk_starts number limits port = record { jobs = tt; cache = tt; published = λ h. absurd (h refl); versioned = λ on. absurd (true≢false (sym on)); idle = λ off. refl; leases = tt }

desks_start : (number : ℕ) (mode : Mode) (limits : LimitValues) (port : Port) → DeskFits (record { streams = []; sets = [] }) [] [] (desk_of (start number mode limits) port)
desks_start number mode limits One = desk_starts number limits One
desks_start number mode limits Two = desk_starts number limits Two

pub sound_start : (number : ℕ) (mode : Mode) (limits : LimitValues) → Sound mode (start number mode limits)
unfolding past asked Rises
sound_start number mode limits =
    let k = follows.starts number limits in
    let v : Store = (start number mode limits).volume in
    let keeps : Keeps v [] = record { streams = k.streams; last = k.last } in
    record {
      lawful = record {
        filter = record { present = keeps.streams; rises = tt; contexts = λ s. tt; questions = tt; apart = tt; scanning = tt; cache = tt; fresh = λ id later. refl; sent = tt; once = tt };
        keeps = keeps;
        opens = tt;
        boots = refl;
        fits = keeps_fit.mounts mode limits v;
        mode_kept = refl;
        solid = tt;
        desks = desks_start number mode limits;
        up = tt;
      };
      falling = tt;
      sets = refl;
      answers = tt;
    }

pub sound : (number : ℕ) (mode : Mode) (limits : LimitValues) (es : List Event) → Sound mode (world_of (start number mode limits) es)
sound number mode limits es = history_keeps (Sound mode) (sound_keeps mode) (start number mode limits) (sound_start number mode limits) es

pub holds_one_verdict : (number : ℕ) (mode : Mode) (limits : LimitValues) (es : List Event) → HoldsOneVerdict (world_of (start number mode limits) es)
unfolding held
holds_one_verdict number mode limits es =
    let w : WorldState = world_of (start number mode limits) es in
    let s : Sound mode w = sound number mode limits es in
    held_right (past w.history) w s.lawful.filter s.lawful.keeps (s.lawful.desks One).cache (s.lawful.desks Two).cache s.lawful.up

pub grants_only_clean : (number : ℕ) (mode : Mode) (limits : LimitValues) (es : List Event) → GrantsOnlyClean mode (world_of (start number mode limits) es)
grants_only_clean number mode limits es =
    let w : WorldState = world_of (start number mode limits) es in
    All-from_recursion (λ (a : Given). IsJustified mode (past (history_at a.event w.history)) a.answer) w.answers
    (each_weaker (IsJust mode w.history) (λ (a : Given). IsJustified mode (past (history_at a.event w.history)) a.answer) (λ a j. j.1) w.answers (sound number mode limits es).answers)

-- only one verdict is right
right_one : (p : Past) (s g v : ℕ) (r r' : Verdict) → IsVerdictOf p s g v r → IsVerdictOf p s g v r' → r ≡ r'
right_one p s g v r r' h k =
    let sets : Some h.patterns ≡ Some k.patterns = sym h.published ∙ k.published in
    let set : h.patterns ≡ k.patterns = cc (sets) in
    let contents : Some h.bytes ≡ Some k.bytes = sym h.held ∙ k.held in
    let bytes : h.bytes ≡ k.bytes = cc (contents) in
    h.right ∙ (ap (λ x. verdict x h.bytes) set ∙ (ap (verdict k.patterns) bytes ∙ sym k.right))

pub never_differs : (number : ℕ) (mode : Mode) (limits : LimitValues) (es : List Event) → NeverDiffers (world_of (start number mode limits) es)
never_differs number mode limits es = λ i j d lt below s g v.
    let w : WorldState = world_of (start number mode limits) es in
    let x : Entry = slice_index_or (held w) i d in
    let y : Entry = slice_index_or (held w) j d in
    let hx : IsRightEntry (past w.history) x = holds_one_verdict number mode limits es i d (omega arith) in
    let hy : IsRightEntry (past w.history) y = holds_one_verdict number mode limits es j d below in
    right_one (past w.history) x.stream x.generation x.version x.verdict y.verdict hx
    (subst (λ n. IsVerdictOf (past w.history) n x.generation x.version y.verdict) (sym s)
    (subst (λ n. IsVerdictOf (past w.history) y.stream n x.version y.verdict) (sym g) (subst (λ n. IsVerdictOf (past w.history) y.stream y.generation n y.verdict) (sym v) hy)))

pub replies_there : (number : ℕ) (mode : Mode) (limits : LimitValues) (es : List Event) → Each (IsAskedThere (world_of (start number mode limits) es).down) (world_of (start number mode limits) es).up
replies_there number mode limits es =
    let w : WorldState = world_of (start number mode limits) es in
    each_weaker (UpFits (past w.history) w.down) (IsAskedThere w.down) (λ m h. body_there (past w.history) w.down m.port m.body h) w.up (sound number mode limits es).lawful.up

pub scans_once : (number : ℕ) (mode : Mode) (limits : LimitValues) (es : List Event) → ScanOnce (world_of (start number mode limits) es).down
scans_once number mode limits es = (sound number mode limits es).lawful.filter.once
