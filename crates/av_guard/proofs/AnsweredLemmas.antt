-- The counts of asks over each call, and over all.
use Rattle.std.proofs.Common.{◌≡◌, ℕ, ◌+◌, ◌==◌, Bool, true, false, cond, List, [], ◌∷◌, ◌++◌, Some, None, Ok, Err, if◌then◌else◌, refl, arith, ap, ◌∙◌, sym, subst, inl, inr}
use Rattle.std.proofs.lemmas.Bool.Decides.{nat_tests}
use Rattle.std.proofs.lemmas.Bool.{or_cases, or_left, or_right}
use Rattle.std.proofs.lemmas.Grind.{flat_map-append}
use Rattle.std.specs.BTreeMap.{is_at}
use Rattle.std.specs.BTreeSet.{insert_key}
use Rattle.std.specs.List.{flat_map, list_any}
use Rattle.std.specs.Ordering.{is_eq, match_ordering, nat_cmp}
use Rattle.std.specs.Prelude.{◌||◌}
use Rattle.std.specs.Set.{remove_key}
use Rattle.std.specs.declared.cmp.Ordering.TheVariants.{Less, Equal, Greater}
use Rattle.av_base.proofs.AmongLemmas.{among_left}
use Rattle.av_base.specs.declared.refusal.Refusal.TheVariants.{Fault, NoMemory}
use Rattle.av_filter.specs.Audit.{FilterEntry}
use Rattle.av_filter.specs.Conduct.{FilterEvent, Changes, Disconnects, Receives, TimesOut}
use Rattle.av_filter_table.specs.Table.{Table}
use Rattle.av_frame.specs.Message.{Letter}
use Rattle.av_guard.proofs.AskLemmas.{kept_story}
use Rattle.av_guard.proofs.CallLemmas.{asked_now, first_story, step, taken_among}
use Rattle.av_guard.proofs.KnownLemmas.{client_here}
use Rattle.av_guard.proofs.OnceLemmas.{Adds, IsIn, asks-append, happened, open_asks, opened_counts, told-append}
use Rattle.av_guard.proofs.SoundLemmas.{free_name, number_free}
use Rattle.av_guard.proofs.StoryLemmas.{Story, later}
use Rattle.av_guard.specs.Answering.{AsksAreAnsweredOnce, Stays, asks_of, one_if, told_of}
use Rattle.av_guard.specs.Asking.{IsRefused, IsThere, Takes, ask_fault, asked, kept, place_fault, place_of, refusal_of}
use Rattle.av_guard.specs.Asking as refused_so
use Rattle.av_guard.specs.Beginning.{begun, first_table, first_volume}
use Rattle.av_guard.specs.Place.{Held, Missing, Spot, Unused}
use Rattle.av_guard.specs.Run.{Call, Client, ClientLost, Asks, MakeRoom, Message, ServiceLost, TimeUp, Does, Lead, asks_in, given_by, taken_by, told_in}
use Rattle.av_guard.specs.Room.{LetGo, MakesRoom, Ordered}
use Rattle.av_guard.specs.State.{Gives, State, Turn, happens, rests}
use Rattle.av_guard.specs.Telling.{is_here}
use Rattle.av_guard.specs.Ask.{Ask}
use Rattle.av_guard.specs.declared.fault.AskFault.TheVariants.{OpensSpent}
use Rattle.av_guard.specs.declared.given.GuardOut.{GuardOut}
use Rattle.av_guard.specs.declared.given.Told.{Told}
use Rattle.av_store.specs.Files.{Remove}
use Rattle.av_store.specs.Store.{Store, greatest}

-- who is there stays there as another comes or leaves
come : (clients : List ℕ) (n c : ℕ) → is_here clients c ≡ true → is_here (insert_key nat_cmp clients n) c ≡ true
come [] n c here = absurd cc
come (x ∷ xs) n c here =
    (elim (nat_cmp n x) as (λ o. (is_at (nat_cmp c) x || list_any (is_at (nat_cmp c)) xs) ≡ true → list_any (is_at (nat_cmp c)) (match_ordering o (n ∷ x ∷ xs) (x ∷ xs) (x ∷ insert_key nat_cmp xs n)) ≡ true) [
      | Less ↦ λ h. or_right (is_at (nat_cmp c) n) _ h
      | Equal ↦ λ h. h
      | Greater ↦ λ h. elim (or_cases (is_at (nat_cmp c) x) (list_any (is_at (nat_cmp c)) xs) h) [
        | inl here ↦ or_left (is_at (nat_cmp c) x) _ here
        | inr rest ↦ or_right (is_at (nat_cmp c) x) _ (come xs n c rest)
      ]
    ]) here

apart : (n c x : ℕ) → (n == c) ≡ false → is_eq (nat_cmp n x) ≡ true → is_eq (nat_cmp c x) ≡ false
apart n c x ne at_x = grind (arith, nat_tests, ne, at_x)

go_on : (clients : List ℕ) (n c : ℕ) → (n == c) ≡ false → is_here clients c ≡ true → is_here (remove_key (is_at (nat_cmp n)) clients) c ≡ true
go_on [] n c ne here = absurd cc
go_on (x ∷ xs) n c ne here =
    (elim (is_at (nat_cmp n) x) as (λ b. is_eq (nat_cmp n x) ≡ b → (is_at (nat_cmp c) x || list_any (is_at (nat_cmp c)) xs) ≡ true → list_any (is_at (nat_cmp c)) (cond b xs (x ∷ remove_key (is_at (nat_cmp n)) xs)) ≡ true) [
      | true ↦ λ at_x h. elim (or_cases (is_at (nat_cmp c) x) (list_any (is_at (nat_cmp c)) xs) h) [
        | inl here ↦ let wrong : ◌≡◌ {A = Bool} true false = sym here ∙ apart n c x ne at_x in absurd cc
        | inr rest ↦ rest
      ]
      | false ↦ λ at_x h. elim (or_cases (is_at (nat_cmp c) x) (list_any (is_at (nat_cmp c)) xs) h) [
        | inl here ↦ or_left (is_at (nat_cmp c) x) _ here
        | inr rest ↦ or_right (is_at (nat_cmp c) x) _ (go_on xs n c ne rest)
      ]
    ]) refl here

no_place : (g : State) (c : List ℕ) → ask_fault g c ≡ None → place_of g c ≡ Missing → ⊥
no_place g c none missing = go (g.volume.opens == greatest) none
  where
    go : (b : Bool) → (if b then Some OpensSpent else place_fault g (place_of g c)) ≡ None → ⊥
    go true n = cc
    go false n = let full : place_fault g Missing ≡ None = ap (place_fault g) (sym missing) ∙ n in cc

module _ (client tag : ℕ) (t0 : Table) (v0 : Store) (asks : List Ask) (told : List Told) (sent : List Letter) (history : List FilterEntry) where
  abbrev Counts : State → State → List Told → ℕ → Type 0
  Counts old new ts more = Adds client tag old new ts more

  gives : (old new : State) (given : GuardOut) (turn : Turn) (more : ℕ) → Gives given new turn → Counts old turn.state turn.told more → Counts old new (given.told.items ++ []) more
  gives old new given turn more g a = record {
    sum = omega (arith, a.sum, told-append client tag given.told.items [], ap (told_of client tag) g.told, ap (open_asks client tag) g.state);
    here = subst (IsIn client tag) (sym g.state) a.here;
  }

  same : (old new : State) → new ≡ old → IsIn client tag old → Counts old new [] 0
  same old new is h = record { sum = omega (arith, ap (open_asks client tag) is); here = subst (IsIn client tag) (sym is) h }

  refused : (old new : State) (c : List ℕ) → IsRefused old new c → IsIn client tag old → Counts old new [] 0
  refused old new c (refused_so.Same is) h = same old new is h
  refused old new c (refused_so.Spent name place creates is) h = record { sum = omega (arith, ap (open_asks client tag) is); here = subst (IsIn client tag) (sym is) h }
  refused old new c (refused_so.Kept name place there is) h = record { sum = omega (arith, ap (open_asks client tag) is); here = subst (IsIn client tag) (sym is) h }

  asked_counts : (g : State) (c t : ℕ) (bytes : List ℕ) → Story t0 v0 asks told sent history g → ask_fault g bytes ≡ None → IsThere g bytes (place_of g bytes) → is_here g.clients c ≡ true → IsIn client tag g
      → Counts g (asked g c t bytes (place_of g bytes)).state (asked g c t bytes (place_of g bytes)).told (one_if client tag c t)
  asked_counts g c t bytes s none there here h = go (place_of g bytes) refl there
    where
      go : (spot : Spot) → place_of g bytes ≡ spot → IsThere g bytes spot → Counts g (asked g c t bytes spot).state (asked g c t bytes spot).told (one_if client tag c t)
      go (Held n) place is_there = opened_counts client tag g n c t (number_free g.table g.volume g.waiting s.stands.fits s.paired) here h
      go (Unused name) place is_there =
          let k = kept_story t0 v0 asks told sent history g s name is_there.0 bytes (free_name g.key g.volume bytes name place) is_there in
          let done = opened_counts client tag (kept g name bytes) (g.volume.last + 1) c t (number_free (kept g name bytes).table (kept g name bytes).volume g.waiting k.1.stands.fits k.1.paired) here h in
          record { sum = done.sum; here = done.here }
      go Missing place is_there = absurd (no_place g bytes none place)

  module _ (old : State) (s : Story t0 v0 asks told sent history old) (h : IsIn client tag old) where
    taken : (new : State) (given : GuardOut) (c t : ℕ) (bytes : List ℕ) → refusal_of old c bytes ≡ None → Takes old new given c t bytes → Counts old new (given.told.items ++ []) (one_if client tag c t + 0)
    taken new given c t bytes none (there, g) =
        let done = gives old new given (asked old c t bytes (place_of old bytes)) (one_if client tag c t) g (asked_counts old c t bytes s (asked_now old c bytes none) there (client_here old c bytes none) h) in
        record { sum = omega (arith, done.sum); here = done.here }

    makes_room : (new : State) (given : GuardOut) → MakesRoom old new given → Counts old new (given.told.items ++ []) 0
    makes_room new given (LetGo stream crowded free ok g) = gives old new given (happens old (Changes (Remove stream))) 0 g (happened client tag old (Changes (Remove stream)) h)
    makes_room new given (Ordered crowded nothing is) = gives old new given (rests new) 0 (record { told = nothing.told; messages = nothing.messages; state = refl }) (same old new is h)

    heard : (new : State) (given : GuardOut) (e : FilterEvent) → Gives given new (happens old e) → Counts old new (given.told.items ++ []) 0
    heard new given e g = gives old new given (happens old e) 0 g (happened client tag old e h)

    step_counts : (call : Call) (new : State) → Does call old new → Stays client (call ∷ []) → Counts old new (flat_map (λ g. g.told.items) (given_by call)) (asks_of client tag (taken_by call))
    step_counts (Client None) new d stays = same old new d h
    step_counts (Client (Some n)) new d stays = record {
      sum = omega (arith, ap (open_asks client tag) d.1);
      here = subst (IsIn client tag) (sym d.1) (elim h [ inl here ↦ inl (come old.clients n client here) | inr none ↦ inr none ]);
    }
    step_counts (ClientLost c) new d stays = record {
      sum = omega (arith, ap (open_asks client tag) d);
      here = subst (IsIn client tag) (sym d) (elim h [ inl here ↦ inl (go_on old.clients c client stays.0 here) | inr none ↦ inr none ]);
    }
    step_counts (Asks c t bytes (Ok given)) new d stays = taken new given c t bytes d.0 d.1
    step_counts (Asks c t bytes (Err (Fault f))) new d stays = same old new d.1 h
    step_counts (Asks c t bytes (Err NoMemory)) new d stays = refused old new bytes d h
    step_counts (MakeRoom (Ok (Some given))) new d stays = makes_room new given d
    step_counts (MakeRoom (Ok None)) new d stays = same old new d h
    step_counts (MakeRoom (Err e)) new d stays = same old new d h
    step_counts (Message m (Ok given)) new d stays = heard new given (Receives m) d
    step_counts (Message m (Err e)) new d stays = same old new d h
    step_counts (ServiceLost port (Ok given)) new d stays = heard new given (Disconnects port) d
    step_counts (ServiceLost port (Err e)) new d stays = same old new d h
    step_counts (TimeUp seq (Ok given)) new d stays = heard new given (TimesOut seq) d
    step_counts (TimeUp seq (Err e)) new d stays = same old new d h

stays_first : (client : ℕ) (c : Call) (cs : List Call) → Stays client (c ∷ cs) → Stays client (c ∷ []) × Stays client cs
stays_first client (ClientLost c) cs all = ((all.0, tt), all.1)
stays_first client _ cs all = (tt, all)

run_counts : (client tag : ℕ) (t0 : Table) (v0 : Store) (calls : List Call) (asks : List Ask) (told : List Told) (sent : List Letter) (history : List FilterEntry) (old new : State) → Story t0 v0 asks told sent history old → Lead calls old new → Stays client calls → IsIn client tag old
    → told_of client tag (told_in calls) + open_asks client tag new ≡ asks_of client tag (asks_in calls) + open_asks client tag old
run_counts client tag t0 v0 [] asks told sent history old new s is stays h = omega (arith, ap (open_asks client tag) is)
run_counts client tag t0 v0 (c ∷ cs) asks told sent history old new s (mid, does, rest) stays h =
    let parts = stays_first client c cs stays in
    let more = taken_by c in
    let wide = later t0 v0 asks more told sent history old s (λ a k. among_left a asks more k) in
    let one = step t0 v0 (asks ++ more) told sent history old wide c mid does (taken_among asks more) in
    let count = step_counts client tag t0 v0 asks told sent history old s h c mid does parts.0 in
    let all = run_counts client tag t0 v0 cs (asks ++ more) (told ++ flat_map (λ g. g.told.items) (given_by c)) (sent ++ flat_map (λ g. g.messages.items) (given_by c)) one.0 mid new one.1 rest parts.1 count.here in
    let told_parts : told_of client tag (told_in (c ∷ cs)) ≡ told_of client tag (flat_map (λ g. g.told.items) (given_by c)) + told_of client tag (told_in cs) =
    ap (told_of client tag) (flat_map-append (λ g. g.told.items) (given_by c) (flat_map given_by cs)) ∙ told-append client tag (flat_map (λ g. g.told.items) (given_by c)) (told_in cs) in
    omega (arith, all, count.sum, told_parts, asks-append client tag more (asks_in cs))

pub asks_are_answered_once : AsksAreAnsweredOnce
asks_are_answered_once settings calls g client tag leads stays =
    let all = run_counts client tag (first_table settings) (first_volume settings) calls [] [] [] [] (begun settings) g (first_story settings) leads stays (inr refl) in
    omega (arith, all)
