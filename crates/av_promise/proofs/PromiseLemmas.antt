-- A grant of the history, against what was published by the end.
use Rattle.std.proofs.Common.{◌≡◌, ℕ, List, [], ◌∷◌, Some, sym, ap, ◌∙◌}
use Rattle.std.specs.List.{AllByRecursion as Each}
use Rattle.std.proofs.lemmas.List.Elements.{All-from_recursion, recursion_from_All}
use Rattle.std.specs.Prelude.{All}
use Rattle.av_base.specs.declared.port.Port.{Port}
use Rattle.av_base.specs.declared.verdict.Verdict.TheVariants.{Clean}
use Rattle.av_filter.specs.Audit.{FilterEntry}
use Rattle.av_guard.specs.Beginning.{first_volume, limits_of}
use Rattle.av_guard.specs.Run.{Call, IsFounded, IsHistoryOf, RestsOn, asks_in, told_in}
use Rattle.av_guard.specs.State.{State}
use Rattle.av_guard.specs.declared.answered.Answered.{Answered}
use Rattle.av_guard.specs.declared.answered.Answered.TheVariants as told
use Rattle.av_guard.specs.declared.given.Told.{Told}
use Rattle.av_guard.specs.declared.settings.Settings.{Settings}
use Rattle.av_match.specs.Match.{verdict}
use Rattle.av_pend.specs.declared.answer.Answer.TheVariants.{Granted, Unscanned}
use Rattle.av_promise.proofs.ServedLemmas.{answer_just, held_by_end, legal as served_legal}
use Rattle.av_promise.specs.Promise.{IsJust, IsRightlyTold, IsServed, published_by}
use Rattle.av_sigset.specs.Publication.{Publication}
use Rattle.av_store.proofs.SeenLemmas.{follows}
use Rattle.av_store.specs.History.{content}
use Rattle.av_store.specs.Seen.{Keeps}
use Rattle.av_history.proofs.FitLemmas.{right_grows}
use Rattle.av_history.specs.Audits.{AreLegal, AuditsGrantOnlyClean, SideEntry, past_end}
use Rattle.av_history.specs.Past.{IsVerdictOf}
use Rattle.av_history.specs.Scene.{Started, opening_past}

-- a guard's volume keeps no file at first
begins_empty : (s : Settings) → Keeps (first_volume s) []
begins_empty s = record { streams = (follows.starts 1 (limits_of s.questions)).streams; last = (follows.starts 1 (limits_of s.questions)).last }

-- a guard's history that was served
module _ (settings : Settings) (calls : List Call) (g : State) (history : List FilterEntry) (is : IsHistoryOf settings calls g history) (starts : Port → Started) (sets : Port → List Publication) (es : List SideEntry) (served : IsServed history starts sets es) where
  pub legal : AreLegal settings.mode (limits_of settings.questions) starts [] (first_volume settings) sets es
  legal = served_legal settings.mode (limits_of settings.questions) (first_volume settings) history (begins_empty settings) is.legal starts sets es served

  told_just : AuditsGrantOnlyClean settings.mode [] sets es → (c : List ℕ) (a : Answered) → RestsOn history c a → IsJust settings.mode (published_by sets es) c a
  told_just clean c (told.Granted generation version) rests =
      let then = answer_just settings.mode (limits_of settings.questions) (first_volume settings) history (begins_empty settings) is.legal starts sets es served clean (Granted rests.open_id rests.least rests.stream generation version) rests.granted in
      let right : IsVerdictOf (past_end (opening_past [] sets) es) rests.stream generation version Clean = right_grows then.past _ rests.stream generation version Clean then.grown then.just.1 in
      let held : content (past_end (opening_past [] sets) es).streams rests.stream generation ≡ Some c =
      ap (λ hs. content hs rests.stream generation) (held_by_end settings.mode (limits_of settings.questions) (first_volume settings) history (begins_empty settings) is.legal starts sets es served) ∙ rests.bytes in
      let same : right.bytes ≡ c = cc (held, right.held) in
      (right.patterns, right.published, ap (λ b. verdict right.patterns b) (sym same) ∙ sym right.right)
  told_just clean c (told.Unscanned generation cause) rests = (answer_just settings.mode (limits_of settings.questions) (first_volume settings) history (begins_empty settings) is.legal starts sets es served clean (Unscanned rests.open_id rests.stream generation cause) rests.let_through).just
  told_just clean c (told.Infected version i e) rests = tt
  told_just clean c (told.Denied cause) rests = tt

  told_rightly : AuditsGrantOnlyClean settings.mode [] sets es → (t : Told) → IsFounded (asks_in calls) history t → IsRightlyTold settings.mode (published_by sets es) (asks_in calls) t
  told_rightly clean t f = record { ask = f.ask; taken = f.taken; client = f.client; tag = f.tag; just = told_just clean f.ask.content t.answer f.rests }

  all_rightly : AuditsGrantOnlyClean settings.mode [] sets es → (ts : List Told) → Each (IsFounded (asks_in calls) history) ts → Each (IsRightlyTold settings.mode (published_by sets es) (asks_in calls)) ts
  all_rightly clean [] all = tt
  all_rightly clean (t ∷ ts) all = (told_rightly clean t all.0, all_rightly clean ts all.1)

  pub clean_grants : AuditsGrantOnlyClean settings.mode [] sets es → All (IsRightlyTold settings.mode (published_by sets es) (asks_in calls)) (told_in calls)
  clean_grants clean =
      All-from_recursion (IsRightlyTold settings.mode (published_by sets es) (asks_in calls)) (told_in calls) (all_rightly clean (told_in calls) (recursion_from_All (IsFounded (asks_in calls) history) (told_in calls) is.founded))
