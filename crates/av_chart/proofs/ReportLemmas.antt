use Rattle.std.proofs.Common.{ℕ, ◌≡◌, ◌-◌, ◌++◌, List, [], ◌∷◌, length, fold, ◌∙◌, ap}
use Rattle.av_frame.specs.Message.{Letter}
use Rattle.av_history.specs.World.{WorldState}
use Rattle.av_history.specs.declared.given.Given.{Given}
use Rattle.av_history.specs.declared.report.Report.{Report}
use Rattle.av_chart.specs.Life.{Life}
use Rattle.av_chart.specs.Marks.{given_in, submitted_id}
use Rattle.av_chart.specs.Row.{asked_lines, spanned}
use Rattle.av_chart.specs.Story.{Post, Story, accepted, answered, asked, counted, delivered_down, delivered_up, in_turn, jobs_over, lent, named, opened, posted, questions_over, run_ends, sent_down, sent_up, step_of, worked, works_lines}
use Rattle.av_chart.specs.Told.{Told}
use Rattle.av_chart.specs.Words.{word_at}
use Rattle.av_chart.specs.declared.happened.Counts.{Counts}
use Rattle.av_chart.specs.declared.happened.Step.{Step}
use Rattle.av_chart.specs.declared.happening.marks.Deed.{Deed}

-- a story of these parts
made : List Step → List Post → List Post → List Life → List Life → List Life → List Life → List (List ℕ) → List (List ℕ) → Counts → Story
made a b c d e f g h i j =
    record { steps = a; down = b; up = c; opens = d; questions = e; jobs = f; works = g; works_told = h; names = i; counts = j }

made_is : (a a' : List Step) (b b' c c' : List Post) (d d' e e' f f' g g' : List Life) (h h' i i' : List (List ℕ)) (j j' : Counts)
    → a ≡ a' → b ≡ b' → c ≡ c' → d ≡ d' → e ≡ e' → f ≡ f' → g ≡ g' → h ≡ h' → i ≡ i' → j ≡ j' → made a b c d e f g h i j ≡ made a' b' c' d' e' f' g' h' i' j'
made_is a a' b b' c c' d d' e e' f f' g g' h h' i i' j j' p q r s t u v w x y = cc

-- a story by its parts
story_is : (s t : Story) → s.steps ≡ t.steps → s.down ≡ t.down → s.up ≡ t.up → s.opens ≡ t.opens → s.questions ≡ t.questions → s.jobs ≡ t.jobs → s.works ≡ t.works
    → s.works_told ≡ t.works_told → s.names ≡ t.names → s.counts ≡ t.counts → s ≡ t
unfolding made
story_is s t a b c d e f g h i j = made_is _ _ _ _ _ _ _ _ _ _ _ _ _ _ _ _ _ _ _ _ a b c d e f g h i j

-- the parts that an accepted event leaves, as code takes them, are those of the story
pub report_taken : (s new : Story) (t : Told) (d : Deed) (r : Report) (w : WorldState) (at : ℕ) (step : Step) (given : List Given) (downs ups : List Letter) (name : List ℕ)
    → at ≡ length s.steps → step ≡ step_of s t d r w → given ≡ spanned step.answers w.answers → downs ≡ spanned step.down w.down → ups ≡ spanned step.up w.up
    → name ≡ word_at 1 t.text → new.steps ≡ s.steps ++ step ∷ [] → new.down ≡ delivered_down at d s.down ++ posted at 0 (length downs)
    → new.up ≡ delivered_up at d s.up ++ posted at (length downs) (length ups)
    → new.opens ≡ opened at name (submitted_id r.note) given (in_turn (answered at) (asked_lines step) given s.opens)
    → new.questions ≡ questions_over w at step.note d (in_turn (asked new.names at) 0 (spanned step.down w.down) s.questions)
    → new.jobs ≡ jobs_over w at step.note d (in_turn (worked at) (length (spanned step.down w.down)) (spanned step.up w.up) s.jobs)
    → new.works ≡ lent at r.before.works (r.after.works - r.before.works) (run_ends at d s.works)
    → new.works_told ≡ s.works_told ++ works_lines w r.before.works (r.after.works - r.before.works) → new.names ≡ named r.line name s.names
    → new.counts ≡ fold (λ c g. counted c g.answer) s.counts given → new ≡ accepted s t d r w
report_taken s new t d r w at step given downs ups name is_at is_step is_given is_downs is_ups is_name steps down up opens questions jobs works told names counts =
    let own_given : given ≡ given_in r w = rw is_step at is_given in
    let own_downs : downs ≡ sent_down r w = rw is_step at is_downs in
    let own_ups : ups ≡ sent_up r w = rw is_step at is_ups in
    let own_names : new.names ≡ named r.line (word_at 1 t.text) s.names = names ∙ ap (λ n. named r.line n s.names) is_name in
    story_is new (accepted s t d r w) (rw is_step at steps) (rw (is_at, own_downs) at down) (rw (is_at, own_downs, own_ups) at up)
    (rw (is_at, is_name, own_given, is_step) at opens) (rw (is_at, is_step, own_names) at questions) (rw (is_at, is_step) at jobs) (rw is_at at works) told own_names
    (rw own_given at counts)
