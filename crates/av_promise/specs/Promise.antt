-- The calls of a guard, and the audits of the services at its two ports, put together.
use Rattle.std.specs.Prelude.{◌≡◌, ◌≢◌, ℕ, List, [], All, Some}
use Rattle.av_base.specs.Among.{Among}
use Rattle.av_base.specs.declared.mode.Mode.{Mode}
use Rattle.av_base.specs.declared.mode.Mode.TheVariants.{FailClosed}
use Rattle.av_base.specs.declared.port.Port.{Port}
use Rattle.av_base.specs.declared.port.Port.TheVariants.{One, Two}
use Rattle.av_base.specs.declared.verdict.Verdict.TheVariants.{Clean}
use Rattle.av_filter.specs.Audit.{FilterEntry}
use Rattle.av_guard.specs.Beginning.{begun}
use Rattle.av_guard.specs.Run.{Call, IsHistoryOf, Lead, asks_in, told_in}
use Rattle.av_guard.specs.State.{State}
use Rattle.av_guard.specs.declared.answered.Answered.{Answered}
use Rattle.av_guard.specs.declared.answered.Answered.TheVariants as told
use Rattle.av_guard.specs.Ask.{Ask}
use Rattle.av_guard.specs.declared.given.Told.{Told}
use Rattle.av_guard.specs.declared.settings.Settings.{Settings}
use Rattle.av_match.specs.Match.{verdict}
use Rattle.av_service.specs.Audit.{IsCatalogue, IsServiceAudit}
use Rattle.av_sigset.specs.Publication.{Publication, published_as}
use Rattle.av_sigset.specs.declared.signature.Pattern.{Pattern}
use Rattle.av_history.specs.Audits.{AreOneSets, FinishesItsWorks, IsDelivered, SideEntry, filter_side, past_end, service_side, sets_end}
use Rattle.av_history.specs.Scene.{Started, desk_at_first, opening_past}

-- The list has the events of a filter, of this history, and those of a service at each port, each side's in its order. Each service keeps the
-- conduct, from a catalogue in which a version names one set, and it is the same set in both. Each work that came back is one that
-- its service lent; and each message that came to one side had been sent by the other before. At a port without a service there is no event.
pub record IsServed (history : List FilterEntry) (starts : Port → Started) (sets : Port → List Publication)
    (es : List SideEntry) : Type 0 where
  pub filter : filter_side es ≡ history
  pub catalogues : (port : Port) → IsCatalogue (sets port)
  pub services : (port : Port) → IsServiceAudit (sets port) (desk_at_first port (starts port) (sets port)) (service_side port es)
  pub works : (port : Port) → FinishesItsWorks (sets port) [] (service_side port es)
  pub one_sets : AreOneSets (sets_end (sets One) (service_side One es)) (sets_end (sets Two) (service_side Two es))
  pub delivered : IsDelivered [] [] es

-- what was published by the end, by either
abbrev pub published_by : (Port → List Publication) → List SideEntry → List Publication
published_by sets es = (past_end (opening_past [] sets) es).sets

-- Where a content was granted, it is clean under the patterns that were published as the version that is named. Nothing else
-- lets it through in fail-closed mode.
abbrev pub IsJust : Mode → List Publication → List ℕ → Answered → Type 0
IsJust mode sets c (told.Granted generation version) =
    (patterns : List Pattern) × (published_as sets version ≡ Some patterns) × (verdict patterns c ≡ Clean)
IsJust mode sets c (told.Unscanned generation cause) = mode ≢ FailClosed
IsJust mode sets c _ = Unit {0}

-- it was told to an ask that was taken, and is just
pub record IsRightlyTold (mode : Mode) (sets : List Publication) (asks : List Ask) (t : Told) : Type 0 where
  pub ask : Ask
  pub taken : Among ask asks
  pub client : t.client ≡ ask.client
  pub tag : t.tag ≡ ask.tag
  pub just : IsJust mode sets ask.content t.answer

-- all that a guard's calls told, wherever its messages came from and went to
abbrev pub GrantsAreClean : Type 0
GrantsAreClean =
    (settings : Settings) (calls : List Call) (g : State) → Lead calls (begun settings) g
    → (history : List FilterEntry)
    × IsHistoryOf settings calls g history
    × ((starts : Port → Started) (sets : Port → List Publication) (es : List SideEntry) → IsServed history starts sets es
    → All (IsRightlyTold settings.mode (published_by sets es) (asks_in calls)) (told_in calls))
