-- Each open of a run has one bar, and at most one answer.
use Rattle.std.specs.Prelude.{ℕ, ◌≡◌, ◌≤◌, List, [], ◌∷◌, map, count_by}
use Rattle.av_base.specs.Line.{lines_of}
use Rattle.av_base.specs.declared.port.Port.TheVariants.{One}
use Rattle.av_filter.specs.Once.{once_up_to, times}
use Rattle.av_history.specs.Held.{answered, pended, submitted}
use Rattle.av_script.specs.Script.{ScriptText}
use Rattle.av_history.specs.World.{WorldState}
use Rattle.av_chart.specs.Chart.{begun, run_of}
use Rattle.av_chart.specs.Examples.{three_opens}
use Rattle.av_chart.specs.Life.{Life, lives_as}
use Rattle.av_chart.specs.Story.{Story, number_id}
use Rattle.av_chart.specs.Told.{world_after}

-- the numbers that lives have
abbrev pub numbers_of : List Life → List ℕ
numbers_of lives = map (λ l. l.id.seq) lives

-- of a world and of what happened until then: no open that was submitted has two bars, or two answers, and no other has one; and
-- the opens that wait are those that have a bar without an end
pub record HaveOneBar (w : WorldState) (s : Story) : Type 0 where
  pub bars : (n : ℕ) → times n (numbers_of s.opens) ≤ once_up_to (submitted w.history) n
  pub answers : (n : ℕ) → times n (answered w) ≤ once_up_to (submitted w.history) n
  pub waits : (n : ℕ) → count_by (lives_as One (number_id n)) s.opens ≡ times n (pended w)

-- in every run of a script's text
abbrev pub OpensHaveOneBar : Type 0
OpensHaveOneBar =
    (s : ScriptText) (text : List ℕ) → HaveOneBar (world_after (begun s) (lines_of text)) (run_of (begun s) text)

-- worked: of three opens the first ended, and the others wait
pub record IsWorked : Type 0 where
  pub numbers : numbers_of three_opens ≡ 1 ∷ 2 ∷ 3 ∷ []
  pub ended : count_by (lives_as One (number_id 1)) three_opens ≡ 0
  pub waits : count_by (lives_as One (number_id 2)) three_opens ≡ 1
  pub again : times 2 (1 ∷ 2 ∷ 3 ∷ 2 ∷ []) ≡ 2
  pub last : once_up_to 3 3 ≡ 1
  pub next : once_up_to 3 4 ≡ 0
  pub none : once_up_to 3 0 ≡ 0
