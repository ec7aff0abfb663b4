-- One more event keeps the book.
use Rattle.std.proofs.Common.{◌≡◌, ℕ, ◌<◌, ◌≤◌, ◌==◌, true, false, List, [], ◌∷◌, ◌++◌, length, map, None, refl, sym, ap, ◌∙◌, subst, arith, length-append, inl, inr}
use Rattle.std.proofs.lemmas.List.{length-map}
use Rattle.std.proofs.lemmas.Bool.Decides.{nat_tests}
use Rattle.av_base.specs.declared.limits.LimitValues.{LimitValues}
use Rattle.av_base.specs.declared.port.Port.{Port}
use Rattle.av_desk.proofs.CatalogueLemmas.{all_opened, latest_of, opened_more}
use Rattle.av_desk.specs.Book.{Book, IsKept, entry, first_desk, given, new_book, opened, opened_at, sets_end, state_of, book}
use Rattle.av_service.proofs.LendLemmas
use Rattle.av_service.specs.Audit.{By, Call, IsAccepted, IsCatalogue, IsResponse, IsServiceAudit, Publishes, ServiceEntry, desk_end, respond, sets_after}
use Rattle.av_service.specs.Call.{Responds}
use Rattle.av_service.specs.Conduct.{Connects, Disconnects, Finishes, Receives, Restarts, connect_refusal}
use Rattle.av_service.specs.Conduct as service
use Rattle.av_service.specs.Desk.{Desk, just_started}
use Rattle.av_service.specs.Response.{Response}
use Rattle.av_service.specs.declared.out.ServiceOut.{ServiceOut}
use Rattle.av_sigset.specs.Publication.{Publication, latest_as, publication_of}
use Rattle.av_sigset.specs.Catalogue.{latest}
use Rattle.av_sigset.specs.Set.{NumberedSet}

desk_end-append : (d : Desk) (xs ys : List ServiceEntry) → desk_end d (xs ++ ys) ≡ desk_end (desk_end d xs) ys
desk_end-append d [] ys = refl
desk_end-append d (x ∷ xs) ys = desk_end-append (respond d x.call).desk xs ys

sets_end-append : (sets : List Publication) (xs ys : List ServiceEntry) → sets_end sets (xs ++ ys) ≡ sets_end (sets_end sets xs) ys
sets_end-append sets [] ys = refl
sets_end-append sets (x ∷ xs) ys = sets_end-append (sets_after sets x.call) xs ys

audit-append : (sets : List Publication) (d : Desk) (xs ys : List ServiceEntry) → IsServiceAudit sets d xs → IsServiceAudit (sets_end sets xs) (desk_end d xs) ys → IsServiceAudit sets d (xs ++ ys)
audit-append sets d [] ys h k = k
audit-append sets d (x ∷ xs) ys h k = (h.0, h.1, audit-append (sets_after sets x.call) (respond d x.call).desk xs ys h.2 k)

-- the version and the opening after an event
version_kept : (sets : List Publication) (d : Desk) (call : Call) → IsAccepted sets d call → d.version ≡ latest_as sets → (respond d call).desk.version ≡ latest_as (sets_after sets call)
version_kept sets d (By Connects) ok is = LendLemmas.lends.version d Connects ∙ is
version_kept sets d (By Disconnects) ok is = LendLemmas.lends.version d Disconnects ∙ is
version_kept sets d (By (Receives m)) ok is = LendLemmas.lends.version d (Receives m) ∙ is
version_kept sets d (By (Finishes lease scan hit)) ok is = LendLemmas.lends.version d (Finishes lease scan hit) ∙ is
version_kept sets d (By (service.Publishes v)) ok is = absurd ok
version_kept sets d (By (Restarts v)) ok is = LendLemmas.lends.version d (Restarts v) ∙ ok
version_kept sets d (Publishes v ps) ok is = LendLemmas.lends.version d (service.Publishes v)

-- a service that connects has a version
some_version : (d : Desk) → connect_refusal d ≡ None → 1 ≤ d.version
some_version d free = elim (d.version == 0) as (λ b. (d.version == 0) ≡ b → 1 ≤ d.version) [ true ↦ λ e. absurd (let h = rw e at free in cc) | false ↦ λ e. grind (arith, nat_tests) ] refl

was_versioned : (sets : List Publication) (d : Desk) (call : Call) → IsAccepted sets d call → d.version ≡ latest_as sets → (d.connected ≡ true → 1 ≤ d.version) → (respond d call).desk.connected ≡ true → 1 ≤ d.version
was_versioned sets d (By Connects) ok is old on = some_version d ok
was_versioned sets d (By Disconnects) ok is old on = elim (LendLemmas.lends.connected d Disconnects on) [ inl e ↦ absurd cc | inr was ↦ old was ]
was_versioned sets d (By (Receives m)) ok is old on = elim (LendLemmas.lends.connected d (Receives m) on) [ inl e ↦ absurd cc | inr was ↦ old was ]
was_versioned sets d (By (Finishes lease scan hit)) ok is old on = elim (LendLemmas.lends.connected d (Finishes lease scan hit) on) [ inl e ↦ absurd cc | inr was ↦ old was ]
was_versioned sets d (By (service.Publishes v)) ok is old on = absurd ok
was_versioned sets d (By (Restarts v)) ok is old on = elim (LendLemmas.lends.connected d (Restarts v) on) [ inl e ↦ absurd cc | inr was ↦ old was ]
was_versioned sets d (Publishes v ps) ok is old on = elim (LendLemmas.lends.connected d (service.Publishes v) on) [ inl e ↦ absurd cc | inr was ↦ old was ]

-- versions only rise
no_less : (sets : List Publication) (d : Desk) (call : Call) → IsAccepted sets d call → d.version ≡ latest_as sets → d.version ≤ latest_as (sets_after sets call)
no_less sets d (By e) ok is = omega (arith, is)
no_less sets d (Publishes v ps) ok is = omega (arith, is, ok.later)

opened_same : (sets : List Publication) (n : ℕ) (call : Call) → n ≤ length sets → opened_at n (sets_after sets call) ≡ opened_at n sets
opened_same sets n (By e) few = refl
opened_same sets n (Publishes v ps) few = opened_more (record { version = v; patterns = ps }) sets n few

longer : (sets : List Publication) (n : ℕ) (call : Call) → n ≤ length sets → n ≤ length (sets_after sets call)
longer sets n (By e) few = few
longer sets n (Publishes v ps) few = omega (arith, few)

pub kept_with_event : (b : Book) (desk : Desk) (call : Call) → IsKept b desk → length b.events < b.limits.audit → IsAccepted b.sets desk call
    → IsKept (record b { sets = sets_after b.sets call; events = b.events ++ entry call (respond desk call) ∷ [] }) (respond desk call).desk
kept_with_event b desk call kept room ok =
    let x = entry call (respond desk call) in
    let one : List ServiceEntry = x ∷ [] in
    let all : List ServiceEntry = b.events ++ one in
    let same = opened_same b.sets b.opening call kept.opening in
    let lone : IsServiceAudit (sets_end (opened b) b.events) (state_of b) one = (
      subst (λ (sets : List Publication). IsAccepted sets (state_of b) call) kept.sets (subst (λ (d : Desk). IsAccepted b.sets d call) kept.leads ok),
      subst (λ (d : Desk). IsResponse x (respond d call)) kept.leads (record { messages = refl; works = refl; note = refl }),
      tt,
    )
    in
    record {
      leads =
          ap (λ (d : Desk). (respond d call).desk) kept.leads ∙ sym (desk_end-append (first_desk b) b.events one)
          ∙ ap (λ (sets : List Publication). desk_end (just_started b.volume_number b.port b.limits (latest_as sets)) all) (sym same);
      legal = subst (λ (sets : List Publication). IsServiceAudit sets (just_started b.volume_number b.port b.limits (latest_as sets)) all) (sym same) (audit-append (opened b) (first_desk b) b.events one kept.legal lone);
      catalogue = subst IsCatalogue (sym same) kept.catalogue;
      sets =
          ap (λ (sets : List Publication). sets_after sets call) kept.sets ∙ sym (sets_end-append (opened b) b.events one)
          ∙ ap (λ (sets : List Publication). sets_end sets all) (sym same);
      opening = longer b.sets b.opening call kept.opening;
      version = version_kept b.sets desk call ok kept.version;
      versioned = λ on. let now = version_kept b.sets desk call ok kept.version in let least = no_less b.sets desk call ok kept.version in let was = was_versioned b.sets desk call ok kept.version kept.versioned on in omega (arith, now, least, was);
      within = omega (arith, room, length-append b.events one);
      behind = omega (arith, kept.behind, length-append b.events one);
    }

-- what the code keeps of an event is the event with what it gave out
pub entry_is : (call : Call) (out : ServiceOut) (d : Desk) (r : Response) → Responds out d r → given call out ≡ entry call r
entry_is call out d r h = cc

pub kept_by : (b : Book) (desk next : Desk) (call : Call) (out : ServiceOut) (events : List ServiceEntry) → IsKept b desk → length b.events < b.limits.audit → IsAccepted b.sets desk call → Responds out next (respond desk call)
    → events ≡ b.events ++ given call out ∷ [] → IsKept (record b { sets = sets_after b.sets call; events = events }) next
kept_by b desk next call out events kept room ok h is =
    let same : events ≡ b.events ++ entry call (respond desk call) ∷ [] = is ∙ ap (λ (x : ServiceEntry). b.events ++ x ∷ []) (entry_is call out next (respond desk call) h) in
    subst (IsKept (record b { sets = sets_after b.sets call; events = events })) (sym h.desk)
    (subst (λ (xs : List ServiceEntry). IsKept (record b { sets = sets_after b.sets call; events = xs }) (respond desk call).desk) (sym same) (kept_with_event b desk call kept room ok))

-- a book of no event, over a catalogue
pub kept_new : (number : ℕ) (port : Port) (limits : LimitValues) (sets : List Publication) → IsCatalogue sets → IsKept (new_book number port limits sets) (just_started number port limits (latest_as sets))
kept_new number port limits sets is =
    let all = all_opened sets in
    record {
      leads = ap (λ (s : List Publication). just_started number port limits (latest_as s)) (sym all);
      legal = tt;
      catalogue = subst IsCatalogue (sym all) is;
      sets = sym all;
      opening = omega arith;
      version = refl;
      versioned = λ on. absurd cc;
      within = omega arith;
      behind = omega arith;
    }

pub kept_first : (number : ℕ) (port : Port) (limits : LimitValues) (sets : List NumberedSet) (opening : ℕ) (events : List ServiceEntry) (desk : Desk) → IsCatalogue (map publication_of sets) → opening ≡ length sets → events ≡ []
    → desk ≡ just_started number port limits (latest sets) → IsKept (book number port limits sets opening events 0) desk
kept_first number port limits sets opening events desk is long none started =
    let new = kept_new number port limits (map publication_of sets) is in
    let size : opening ≡ length (map publication_of sets) = long ∙ sym (length-map sets publication_of) in
    let desk_is : desk ≡ just_started number port limits (latest_as (map publication_of sets)) = started ∙ ap (λ v. just_started number port limits v) (sym (latest_of sets)) in
    rw (size, none, desk_is) new
