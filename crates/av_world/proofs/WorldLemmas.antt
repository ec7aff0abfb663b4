-- Which histories a list of events leads to.
use Rattle.std.proofs.Common.{ℕ, ◌≡◌, ◌<◌, ◌+◌, ◌++◌, inl, inr, List, [], ◌∷◌, length, reverse, take, get_or, Ok, Err, refl, sym, ap, ◌∙◌, subst}
use Rattle.std.proofs.lemmas.List.{reverse-append, take_more}
use Rattle.std.specs.Prelude.{IsOk}
use Rattle.av_base.specs.Limits.{AreInRange}
use Rattle.av_base.specs.declared.limits.LimitValues.{LimitValues}
use Rattle.av_base.specs.declared.mode.Mode.{Mode}
use Rattle.av_world.proofs.OnceLemmas.{answers_once}
use Rattle.av_world.proofs.SoundLemmas.{grants_only_clean, holds_one_verdict, never_differs, sound}
use Rattle.av_world.proofs.WholeLemmas.{stays_whole}
use Rattle.av_history.specs.Headline.{AnswersOnce, GrantsOnlyClean, HoldsOneVerdict, NeverDiffers}
use Rattle.av_world.specs.Reached.{IsKept, IsReached, KeepsPromise}
use Rattle.av_world.specs.Stage.{at_history}
use Rattle.av_history.specs.World.{WorldState, Gives, Outcome, nothing, accepted, refused_by_name, without_memory, Passes, after, start, step_of, world_of, world_or}
use Rattle.av_history.specs.declared.event.Event.{Event}
use Rattle.av_history.specs.declared.report.Report.{Report}

-- the world is where its history leads, which these events can give
pub record IsGiven (s w : WorldState) (es : List Event) : Type 0 where
  pub gives : Gives s es w.history
  pub leads : w ≡ world_of s w.history

pub begins : (s : WorldState) → s.history ≡ [] → IsGiven s s []
begins s none = record { gives = subst (Gives s []) (sym none) nothing; leads = ap (world_of s) (sym none) }

pub goes_on : (s w next : WorldState) (es : List Event) (e : Event) → IsGiven s w es → Passes w next e → IsGiven s next (e ∷ es)
goes_on s w next es e given (inl same) = subst (λ x. IsGiven s x (e ∷ es)) (sym same) (record { gives = stays (step_of (world_of s w.history) e) refl; leads = given.leads })
  where
    stays : (r : Outcome) → step_of (world_of s w.history) e ≡ r → Gives s (e ∷ es) w.history
    stays (Ok p) is = without_memory es w.history e given.gives (subst IsOk (sym is) refl)
    stays (Err f) is = refused_by_name es w.history e f given.gives is
goes_on s w next es e given (inr happened) =
    let joined : next.history ≡ e ∷ w.history = happened.2 in
    record {
      gives = subst (Gives s (e ∷ es)) (sym joined) (accepted es w.history e given.gives (subst (λ x. IsOk (step_of x e)) given.leads happened.0));
      leads = happened.1 ∙ ap (λ x. after x e) given.leads ∙ ap (world_of s) (sym joined);
    }

-- one event more
pub reverse_more : (es : List Event) (i : ℕ) (e : Event) → i < length es → e ≡ get_or es i e → reverse (take (i + 1) es) ≡ e ∷ reverse (take i es)
reverse_more es i e lt is = ap reverse (take_more es i e lt) ∙ reverse-append (take i es) (get_or es i e ∷ []) ∙ ap (λ x. reverse (x ∷ []) ++ reverse (take i es)) (sym is)

-- an event that was pushed is the newest of the history
pub pushed : (xs : List Event) (ys : List Event) (e : Event) → ys ≡ xs ++ e ∷ [] → reverse ys ≡ e ∷ reverse xs
pushed xs ys e is = ap reverse is ∙ reverse-append xs (e ∷ [])

-- a step leaves a world whole, and is where its history leads
pub kept_next : (s next : WorldState) (xs ys : List Event) (e : Event) (report : Report) → IsKept (at_history (reverse xs) s) → step_of (at_history (reverse xs) s) e ≡ Ok (report, at_history (e ∷ reverse xs) next) → reverse ys ≡ e ∷ reverse xs
    → IsKept (at_history (reverse ys) next)
kept_next s next xs ys e report kept is joined =
    let old : WorldState = at_history (reverse xs) s in
    let new : WorldState = at_history (e ∷ reverse xs) next in
    let from = kept.reached in
    let leads : new ≡ world_of (start from.number from.mode from.limits) (e ∷ reverse xs) = sym (ap (world_or old) is) ∙ ap (λ w. after w e) from.leads in
    subst (λ h. IsKept (at_history h next)) (sym joined) (record {
      whole = stays_whole.steps old new e report kept.whole is;
      reached = record { number = from.number; mode = from.mode; limits = from.limits; leads = leads };
    })

-- a new world
pub kept_start : (number : ℕ) (mode : Mode) (limits : LimitValues) → AreInRange limits → IsKept (start number mode limits)
kept_start number mode limits ok = record { whole = stays_whole.starts number mode limits ok; reached = record { number = number; mode = mode; limits = limits; leads = refl } }

-- so it keeps the promise
pub promised : (w : WorldState) → IsReached w → KeepsPromise w
promised w from =
    let s : WorldState = start from.number from.mode from.limits in
    let same : (world_of s w.history).table.mode ≡ from.mode = (sound from.number from.mode from.limits w.history).lawful.mode_kept in
    let own : w.table.mode ≡ from.mode = ap (λ (x : WorldState). x.table.mode) from.leads ∙ same in
    record {
      one_verdict = subst HoldsOneVerdict (sym from.leads) (holds_one_verdict from.number from.mode from.limits w.history);
      never_differs = subst NeverDiffers (sym from.leads) (never_differs from.number from.mode from.limits w.history);
      only_clean = subst (λ m. GrantsOnlyClean m w) (sym own) (subst (GrantsOnlyClean from.mode) (sym from.leads) (grants_only_clean from.number from.mode from.limits w.history));
      answers_once = subst AnswersOnce (sym from.leads) (answers_once from.number from.mode from.limits w.history);
    }
