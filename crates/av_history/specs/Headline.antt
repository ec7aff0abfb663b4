-- The headline, in three parts.
use Rattle.std.specs.Prelude.{ℕ, ◌≡◌, ◌≢◌, ◌+◌, All, AllPairs}
use Rattle.av_base.specs.declared.mode.Mode.{Mode}
use Rattle.av_base.specs.declared.mode.Mode.TheVariants.{FailClosed}
use Rattle.av_base.specs.declared.verdict.Verdict.TheVariants.{Clean}
use Rattle.av_filter.specs.Once.{once_up_to, times}
use Rattle.av_pend.specs.declared.answer.Answer.{Answer}
use Rattle.av_pend.specs.declared.answer.Answer.TheVariants.{Granted, Unscanned, Denied}
use Rattle.av_store.specs.History.{generation_of}
use Rattle.av_history.specs.Held.{held, pended, answered, submitted, history_at}
use Rattle.av_history.specs.Past.{Past, past, IsVerdictOf, IsRightEntry}
use Rattle.av_history.specs.World.{WorldState}

-- no two verdicts: each that stands is the verdict of the content under the set
abbrev pub HoldsOneVerdict : WorldState → Type 0
HoldsOneVerdict w = All (IsRightEntry (past w.history)) (held w)

-- so no two of them differ
abbrev pub NeverDiffers : WorldState → Type 0
NeverDiffers w =
    AllPairs (λ x y. x.stream ≡ y.stream → x.generation ≡ y.generation → x.version ≡ y.version → x.verdict ≡ y.verdict) (held w)

-- a grant names the stream's present generation, whose content is clean under the version that it names; nothing else lets an
-- open through in fail-closed mode
abbrev pub IsJustified : Mode → Past → Answer → Type 0
IsJustified mode p (Granted n least s g v) = (g ≡ generation_of p.streams s) × IsVerdictOf p s g v Clean
IsJustified mode p (Unscanned n s g cause) = mode ≢ FailClosed
IsJustified mode p (Denied n cause) = Unit {0}

-- so it was when each answer was given
abbrev pub GrantsOnlyClean : Mode → WorldState → Type 0
GrantsOnlyClean mode w = All (λ a. IsJustified mode (past (history_at a.event w.history)) a.answer) w.answers

-- each open that was submitted is pended or answered, once
abbrev pub AnswersOnce : WorldState → Type 0
AnswersOnce w = (n : ℕ) → times n (pended w) + times n (answered w) ≡ once_up_to (submitted w.history) n
