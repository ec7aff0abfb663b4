-- The history of a filter that was served, and the answers in it, against the past of both at its end.
use Rattle.std.proofs.Common.{◌≡◌, ◌⊎◌, ℕ, List, [], ◌∷◌, ◌++◌, map, Some, refl, sym, ap, subst, ◌∙◌, inl, inr}
use Rattle.std.specs.List.{AllByRecursion as Each}
use Rattle.std.proofs.lemmas.List.Elements.{recursion_from_All}
use Rattle.av_base.specs.Among.{Among}
use Rattle.av_base.specs.declared.limits.LimitValues.{LimitValues}
use Rattle.av_base.specs.declared.mode.Mode.{Mode}
use Rattle.av_base.specs.declared.port.Port.{Port}
use Rattle.av_filter.specs.Audit.{FilterEntry, IsFilterAudit, answers_given}
use Rattle.av_filter.specs.Conduct.{FilterEvent, Changes}
use Rattle.av_filter_table.specs.Table.{mounted}
use Rattle.av_guard.specs.Run.{all_held, held_after}
use Rattle.av_pend.specs.declared.answer.Answer.{Answer}
use Rattle.av_promise.specs.Promise.{IsServed}
use Rattle.av_service.specs.Audit.{By, Call as ServiceCall, Publishes}
use Rattle.av_sigset.specs.Publication.{Publication}
use Rattle.av_store.specs.Seen.{Keeps}
use Rattle.av_store.specs.Store.{Store}
use Rattle.av_history.proofs.FitLemmas.{Grown, same_past}
use Rattle.av_history.proofs.SceneLemmas.{filter_grows}
use Rattle.av_history.proofs.UnionLemmas.{joined_keeps}
use Rattle.av_history.specs.Audits.{AreLegal, AuditsGrantOnlyClean, OfFilter, OfService, SideEntry, answers_in, filter_side, past_end}
use Rattle.av_history.specs.Headline.{IsJustified}
use Rattle.av_history.specs.Past.{Past}
use Rattle.av_history.specs.Scene.{Answered as AnsweredThen, Started, opening_past, past_call, past_filter, told_at}

-- a past that grew twice
grown_on : (p q r : Past) → Grown p q → Grown q r → Grown p r
grown_on p q r a b = record { contents = λ s g c h. b.contents s g c (a.contents s g c h); sets = λ v set h. b.sets v set (a.sets v set h) }

call_grows : (p : Past) (call : ServiceCall) → Grown p (past_call p call)
call_grows p (By e) = same_past p
call_grows p (Publishes v set) = record { contents = λ s g c h. h; sets = joined_keeps p.sets (record { version = v; patterns = set }) }

all_grows : (es : List SideEntry) (p : Past) → Grown p (past_end p es)
all_grows [] p = same_past p
all_grows (OfFilter x ∷ es) p = let q : Past = past_filter p x.event in grown_on p q (past_end q es) (filter_grows p x.event) (all_grows es q)
all_grows (OfService port x ∷ es) p = let q : Past = past_call p x.call in grown_on p q (past_end q es) (call_grows p x.call) (all_grows es q)

among_split : {A : Type 0} (x : A) (xs ys : List A) → Among x (xs ++ ys) → Among x xs ⊎ Among x ys
among_split x [] ys a = inr a
among_split x (z ∷ zs) ys (inl e) = inl (inl e)
among_split x (z ∷ zs) ys (inr a) = elim (among_split x zs ys a) [ inl b ↦ inl (inr b) | inr b ↦ inr b ]

each_parts : {A : Type 0} (P : A → Type 0) (xs ys : List A) → Each P (xs ++ ys) → Each P xs × Each P ys
each_parts P [] ys all = (tt, all)
each_parts P (x ∷ xs) ys all = let rest = each_parts P xs ys all.1 in ((all.0, rest.0), rest.1)

-- an answer among those that were told in this past
just_then : (mode : Mode) (p : Past) (answers : List Answer) (a : Answer) → Among a answers → Each (λ b. IsJustified mode b.past b.answer) (map (told_at p) answers) → IsJustified mode p a
just_then mode p [] a among all = absurd among
just_then mode p (b ∷ bs) a (inl e) all = subst (IsJustified mode p) (sym e) all.0
just_then mode p (b ∷ bs) a (inr among) all = just_then mode p bs a among all.1

-- an answer of the filter was just in a past that the end has grown from
pub record IsJustThen (mode : Mode) (a : Answer) (end : Past) : Type 0 where
  pub past : Past
  pub just : IsJustified mode past a
  pub grown : Grown past end

just_answer : (mode : Mode) (a : Answer) (es : List SideEntry) (p : Past) → Among a (answers_given (filter_side es)) → Each (λ b. IsJustified mode b.past b.answer) (answers_in p es) → IsJustThen mode a (past_end p es)
just_answer mode a [] p among all = absurd among
just_answer mode a (OfFilter x ∷ es) p among all =
    let q : Past = past_filter p x.event in
    let parts = each_parts (λ b. IsJustified mode b.past b.answer) (map (told_at q) x.answers) (answers_in q es) all in
    elim (among_split a x.answers (answers_given (filter_side es)) among) [
      | inl here ↦ record { past = q; just = just_then mode q x.answers a here parts.0; grown = all_grows es q }
      | inr after ↦ just_answer mode a es q after parts.1
    ]
just_answer mode a (OfService port x ∷ es) p among all = just_answer mode a es (past_call p x.call) among all

-- what streams have held is the filter's alone
held_filter : (p : Past) (e : FilterEvent) → (past_filter p e).streams ≡ held_after p.streams e
held_filter p (Changes c) = refl
held_filter p _ = refl

held_call : (p : Past) (call : ServiceCall) → (past_call p call).streams ≡ p.streams
held_call p (By e) = refl
held_call p (Publishes v set) = refl

held_end : (es : List SideEntry) (p : Past) → (past_end p es).streams ≡ all_held p.streams (filter_side es)
held_end [] p = refl
held_end (OfFilter x ∷ es) p = held_end es (past_filter p x.event) ∙ ap (λ hs. all_held hs (filter_side es)) (held_filter p x.event)
held_end (OfService port x ∷ es) p = held_end es (past_call p x.call) ∙ ap (λ hs. all_held hs (filter_side es)) (held_call p x.call)

-- a filter that was mounted on a volume of no stream, and its history, which was served
module _ (mode : Mode) (bounds : LimitValues) (v : Store) (history : List FilterEntry) (kept : Keeps v []) (audit : IsFilterAudit (mounted mode bounds v.boot) v history) (starts : Port → Started) (sets : Port → List Publication) (es : List SideEntry) (served : IsServed history starts sets es) where
  pub legal : AreLegal mode bounds starts [] v sets es
  legal = record {
    volume = kept;
    catalogues = served.catalogues;
    filter = subst (IsFilterAudit _ v) (sym served.filter) audit;
    services = served.services;
    works = served.works;
    one_sets = served.one_sets;
    delivered = served.delivered;
  }

  pub answer_just : AuditsGrantOnlyClean mode [] sets es → (a : Answer) → Among a (answers_given history) → IsJustThen mode a (past_end (opening_past [] sets) es)
  answer_just clean a among =
      just_answer mode a es (opening_past [] sets) (subst (λ h. Among a (answers_given h)) (sym served.filter) among)
      (recursion_from_All (λ (b : AnsweredThen). IsJustified mode b.past b.answer) (answers_in (opening_past [] sets) es) clean)

  -- what streams have held by the end is what the filter's events tell
  pub held_by_end : (past_end (opening_past [] sets) es).streams ≡ all_held [] history
  held_by_end = held_end es (opening_past [] sets) ∙ ap (λ h. all_held [] h) served.filter
