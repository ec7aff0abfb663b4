-- Every call of a guard, and every list of calls, leaves a history on which all rests that was told.
use Rattle.std.proofs.Common.{◌≡◌, ℕ, Bool, true, false, not, List, [], ◌∷◌, ◌++◌, length, Some, None, Ok, Err, if◌then◌else◌, refl, arith, ap, ◌∙◌, sym, subst, inl, inr, append_assoc, append-nil}
use Rattle.std.proofs.lemmas.Grind.{flat_map-append}
use Rattle.std.proofs.lemmas.List.Elements.{All-from_recursion}
use Rattle.std.specs.List.{AllByRecursion as Each, flat_map}
use Rattle.std.specs.Prelude.{nat_lt}
use Rattle.av_base.proofs.AmongLemmas.{among_left, among_right}
use Rattle.av_base.specs.Among.{Among}
use Rattle.av_base.specs.declared.refusal.Refusal.{Refusal}
use Rattle.av_base.specs.declared.refusal.Refusal.TheVariants.{Fault, NoMemory}
use Rattle.av_filter.proofs.BoundLemmas.{leads_to}
use Rattle.av_filter.proofs.FitLemmas.{mounted_fits}
use Rattle.av_filter.specs.Audit.{FilterEntry}
use Rattle.av_filter.specs.Conduct.{FilterEvent, Changes, Disconnects, Receives, TimesOut, filter_refusal, filter_step}
use Rattle.av_filter_table.specs.Table.{Table}
use Rattle.av_frame.specs.Message.{Letter}
use Rattle.av_guard.proofs.AskLemmas.{asked_story, refused_story}
use Rattle.av_guard.proofs.PastLemmas.{entry_of}
use Rattle.av_guard.proofs.ServingLemmas.{audit_served}
use Rattle.av_guard.proofs.SoundLemmas.{written_removed, written_same}
use Rattle.av_guard.proofs.StoryLemmas.{Story, later, quiet_story}
use Rattle.av_guard.specs.Asking.{GivesNothing, Refuses, Takes, ask_fault, asked, is_busy, place_of, refusal_of}
use Rattle.av_guard.specs.Beginning.{begun, first_table, first_volume, limits_of}
use Rattle.av_guard.specs.Run.{Call, Client, ClientLost, Asks, MakeRoom, Message, ServiceLost, TimeUp, Does, GuardsHaveHistory, IsFounded, Lead, asks_in, given_by, sent_in, taken_by, told_in}
use Rattle.av_guard.specs.Room.{LetGo, MakesRoom, Ordered}
use Rattle.av_guard.specs.State.{Gives, State, Turn, happens, rests}
use Rattle.av_guard.specs.Telling.{is_here}
use Rattle.av_guard.specs.Written.{AreWritten}
use Rattle.av_guard.specs.Ask.{Ask}
use Rattle.av_guard.specs.declared.fault.AskFault.{AskFault}
use Rattle.av_guard.specs.declared.fault.AskFault.TheVariants.{Busy, NoClient, TooLarge}
use Rattle.av_guard.specs.declared.given.GuardOut.{GuardOut}
use Rattle.av_guard.specs.declared.given.Told.{Told}
use Rattle.av_guard.specs.declared.settings.Settings.{Settings}
use Rattle.av_store.proofs.SeenLemmas.{follows}
use Rattle.av_store.specs.Files.{Remove}
use Rattle.av_store.specs.Store.{Store}

-- of the asks that are taken, none is refused
pub asked_now : (g : State) (client : ℕ) (c : List ℕ) → refusal_of g client c ≡ None → ask_fault g c ≡ None
asked_now g client c none = here (is_here g.clients client) none
  where
    last : (b : Bool) → (if b then Some Busy else ask_fault g c) ≡ None → ask_fault g c ≡ None
    last true n = absurd cc
    last false n = n

    small : (b : Bool) → (if b then Some TooLarge else (if is_busy g c then Some Busy else ask_fault g c)) ≡ None → ask_fault g c ≡ None
    small true n = absurd cc
    small false n = last (is_busy g c) n

    here : (b : Bool) → (if not b then Some NoClient else (if nat_lt 1048576 (length c) then Some TooLarge else (if is_busy g c then Some Busy else ask_fault g c))) ≡ None → ask_fault g c ≡ None
    here true n = small (nat_lt 1048576 (length c)) n
    here false n = absurd cc

module _ (t0 : Table) (v0 : Store) (asks : List Ask) (told : List Told) (sent : List Letter) where
  -- some history
  abbrev Left : State → List Told → List Letter → Type 0
  Left g ts ms = (h : List FilterEntry) × Story t0 v0 asks (told ++ ts) (sent ++ ms) h g

  idle : (h : List FilterEntry) (g : State) → Story t0 v0 asks told sent h g → Left g [] []
  idle h g s = (h, subst (λ ms. Story t0 v0 asks (told ++ []) ms h g) (sym (append-nil sent)) (subst (λ ts. Story t0 v0 asks ts sent h g) (sym (append-nil told)) s))

  idle_some : (g : State) → (h : List FilterEntry) × Story t0 v0 asks told sent h g → Left g [] []
  idle_some g s = idle s.0 g s.1

  gives : (given : GuardOut) (new : State) (turn : Turn) → Gives given new turn → Left turn.state turn.told turn.messages → Left new (given.told.items ++ []) (given.messages.items ++ [])
  gives given new turn g s = (
    s.0,
    subst (λ ts. Story t0 v0 asks (told ++ ts) (sent ++ (given.messages.items ++ [])) s.0 new) (sym (append-nil given.told.items ∙ g.told))
        (subst (λ ms. Story t0 v0 asks (told ++ turn.told) (sent ++ ms) s.0 new) (sym (append-nil given.messages.items ∙ g.messages)) (subst (Story t0 v0 asks (told ++ turn.told) (sent ++ turn.messages) s.0) (sym g.state) s.1)),
  )

  nothing : (given : GuardOut) (new : State) → GivesNothing given → Left new [] [] → Left new (given.told.items ++ []) (given.messages.items ++ [])
  nothing given new g s = gives given new (rests new) (record { told = g.told; messages = g.messages; state = refl }) s

  module _ (history : List FilterEntry) (old : State) (s : Story t0 v0 asks told sent history old) where
    same : (new : State) → new ≡ old → Left new [] []
    same new is = idle history new (subst (Story t0 v0 asks told sent history) (sym is) s)

    -- others come or leave
    other : (clients : List ℕ) (last : ℕ) → Story t0 v0 asks told sent history (record old { clients = clients; last = last })
    other clients last = record { past = s.past; stands = s.stands; written = s.written; paired = s.paired; waiting = s.waiting; founded = s.founded }

    -- a call that is an event of the filter
    heard : (new : State) (given : GuardOut) (e : FilterEvent) → Story t0 v0 asks (told ++ (happens old e).told) (sent ++ (happens old e).messages) (history ++ entry_of old.table old.volume e ∷ []) (happens old e).state → Gives given new (happens old e)
        → Left new (given.told.items ++ []) (given.messages.items ++ [])
    heard new given e after g = gives given new (happens old e) g (history ++ entry_of old.table old.volume e ∷ [], after)

    -- an ask that was taken
    taken : (new : State) (given : GuardOut) (client tag : ℕ) (c : List ℕ) → Among (record { client = client; tag = tag; content = c }) asks → refusal_of old client c ≡ None → Takes old new given client tag c → Left new (given.told.items ++ []) (given.messages.items ++ [])
    taken new given client tag c among none (there, g) =
        gives given new (asked old client tag c (place_of old c)) g
        (asked_story t0 v0 asks told sent history old (record { client = client; tag = tag; content = c }) s among (asked_now old client c none) there)

    unasked : (new : State) (client : ℕ) (c : List ℕ) (why : Refusal AskFault) → Refuses old new client c why → Left new [] []
    unasked new client c (Fault f) d = same new d.1
    unasked new client c NoMemory d = idle_some new (refused_story t0 v0 asks told sent history old new c s d)

    let_go : (stream : ℕ) → filter_refusal old.table old.volume (Changes (Remove stream)) ≡ None
        → Story t0 v0 asks (told ++ (happens old (Changes (Remove stream))).told) (sent ++ (happens old (Changes (Remove stream))).messages) (history ++ entry_of old.table old.volume (Changes (Remove stream)) ∷ []) (happens old (Changes (Remove stream))).state
    let_go stream ok = quiet_story t0 v0 asks told sent history old (Changes (Remove stream)) s refl tt ok (written_removed old.key old.table old.volume _ stream refl s.written)

    makes_room : (new : State) (given : GuardOut) → MakesRoom old new given → Left new (given.told.items ++ []) (given.messages.items ++ [])
    makes_room new given (LetGo stream crowded free ok g) = heard new given (Changes (Remove stream)) (let_go stream ok) g
    makes_room new given (Ordered crowded none is) = nothing given new none (same new is)

    -- an event that leaves the volume as it is
    quiet : (e : FilterEvent) → (filter_step old.table old.volume e).volume ≡ old.volume → AreWritten old.key (filter_step old.table old.volume e).volume.streams
    quiet e is = written_same _ _ _ (ap (λ (v : Store). v.streams) is) s.written

    pub step : (call : Call) (new : State) → Does call old new → Each (λ a. Among a asks) (taken_by call) → Left new (flat_map (λ g. g.told.items) (given_by call)) (flat_map (λ g. g.messages.items) (given_by call))
    unfolding filter_refusal
    step (Client None) new d all = same new d
    step (Client (Some n)) new d all = idle history new (subst (Story t0 v0 asks told sent history) (sym d.1) (other _ n))
    step (ClientLost client) new d all = idle history new (subst (Story t0 v0 asks told sent history) (sym d) (other _ old.last))
    step (Asks client tag c (Ok given)) new d all = taken new given client tag c all.0 d.0 d.1
    step (Asks client tag c (Err why)) new d all = unasked new client c why d
    step (MakeRoom (Ok (Some given))) new d all = makes_room new given d
    step (MakeRoom (Ok None)) new d all = same new d
    step (MakeRoom (Err e)) new d all = same new d
    step (Message m (Ok given)) new d all = heard new given (Receives m) (quiet_story t0 v0 asks told sent history old (Receives m) s refl tt refl (quiet (Receives m) (leads_to old.table old.volume (Receives m)))) d
    step (Message m (Err e)) new d all = same new d
    step (ServiceLost port (Ok given)) new d all = heard new given (Disconnects port) (quiet_story t0 v0 asks told sent history old (Disconnects port) s refl tt refl (quiet (Disconnects port) (leads_to old.table old.volume (Disconnects port)))) d
    step (ServiceLost port (Err e)) new d all = same new d
    step (TimeUp seq (Ok given)) new d all = heard new given (TimesOut seq) (quiet_story t0 v0 asks told sent history old (TimesOut seq) s refl tt refl (quiet (TimesOut seq) (leads_to old.table old.volume (TimesOut seq)))) d
    step (TimeUp seq (Err e)) new d all = same new d

pub taken_among : (asks : List Ask) (more : List Ask) → Each (λ a. Among a (asks ++ more)) more
taken_among asks more = go more (λ a h. h)
  where
    go : (xs : List Ask) → ((a : Ask) → Among a xs → Among a more) → Each (λ a. Among a (asks ++ more)) xs
    go [] f = tt
    go (x ∷ xs) f = (among_right x asks more (f x (inl refl)), go xs (λ a h. f a (inr h)))

-- all that calls lead to
run : (t0 : Table) (v0 : Store) (calls : List Call) (asks : List Ask) (told : List Told) (sent : List Letter) (history : List FilterEntry) (old new : State) → Story t0 v0 asks told sent history old → Lead calls old new
    → (h : List FilterEntry) × Story t0 v0 (asks ++ asks_in calls) (told ++ told_in calls) (sent ++ sent_in calls) h new
run t0 v0 [] asks told sent history old new s is = (
  history,
  subst (Story t0 v0 (asks ++ []) (told ++ []) (sent ++ []) history) (sym is)
      (subst (λ x. Story t0 v0 x (told ++ []) (sent ++ []) history old) (sym (append-nil asks)) (subst (λ x. Story t0 v0 asks x (sent ++ []) history old) (sym (append-nil told)) (subst (λ x. Story t0 v0 asks told x history old) (sym (append-nil sent)) s))),
)
run t0 v0 (c ∷ cs) asks told sent history old new s (mid, does, rest) =
    let more = taken_by c in
    let wide = later t0 v0 asks more told sent history old s (λ a h. among_left a asks more h) in
    let one = step t0 v0 (asks ++ more) told sent history old wide c mid does (taken_among asks more) in
    let all = run t0 v0 cs (asks ++ more) (told ++ flat_map (λ g. g.told.items) (given_by c)) (sent ++ flat_map (λ g. g.messages.items) (given_by c)) one.0 mid new one.1 rest in (
      all.0,
      subst (λ x. Story t0 v0 x (told ++ told_in (c ∷ cs)) (sent ++ sent_in (c ∷ cs)) all.0 new) (append_assoc asks more (asks_in cs))
          (subst (λ x. Story t0 v0 (asks ++ more ++ asks_in cs) x (sent ++ sent_in (c ∷ cs)) all.0 new) (append_assoc told _ (told_in cs) ∙ ap (λ x. told ++ x) (sym (flat_map-append (λ g. g.told.items) (given_by c) (flat_map given_by cs))))
          (subst (λ x. Story t0 v0 (asks ++ more ++ asks_in cs) (told ++ flat_map (λ g. g.told.items) (given_by c) ++ told_in cs) x all.0 new) (append_assoc sent _ (sent_in cs) ∙ ap (λ x. sent ++ x) (sym (flat_map-append (λ g. g.messages.items) (given_by c) (flat_map given_by cs)))) all.1)),
    )

pub first_story : (settings : Settings) → Story (first_table settings) (first_volume settings) [] [] [] [] (begun settings)
first_story settings = record {
  past = record { legal = tt; leads = refl; sends = refl; keeps = record { streams = (follows.starts 1 (limits_of settings.questions)).streams; last = (follows.starts 1 (limits_of settings.questions)).last } };
  stands = mounted_fits settings.mode _ (first_volume settings);
  written = tt;
  paired = record { each = λ n. refl; once = λ n. omega arith; streams = tt };
  waiting = tt;
  founded = tt;
}

pub guards_have_history : GuardsHaveHistory
guards_have_history settings calls g leads =
    let all = run (first_table settings) (first_volume settings) calls [] [] [] [] (begun settings) g (first_story settings) leads in (
      all.0,
      record {
        legal = all.1.past.legal;
        leads = all.1.past.leads;
        sent = all.1.past.sends;
        ports = audit_served (first_table settings) (first_volume settings) all.0 tt all.1.past.legal;
        founded = All-from_recursion (IsFounded (asks_in calls) all.0) (told_in calls) all.1.founded;
      },
    )
