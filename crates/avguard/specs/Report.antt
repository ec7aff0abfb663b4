-- What is printed of a guard.
use Rattle.std.specs.Prelude.{ℕ, ◌≡◌, ◌==◌, ◌||◌, ◌⊎◌, Bool, true, false, List, map, Option}
use Rattle.std.specs.Io.KnownBytes.{Appends}
use Rattle.av_base.specs.Device.{AppendsPrefix}
use Rattle.av_health.specs.Figures.{metrics, names, object_of, text_lines}
use Rattle.av_health.specs.Report.{numbers_of}
use Rattle.av_health.specs.declared.figure.Figure.{Figure}
use Rattle.av_health.specs.declared.report.Report.{Report}
use Rattle.avguard_words.specs.declared.request.View.{View}
use Rattle.avguard_words.specs.declared.request.View.TheVariants.{Text, Json, Metrics}

-- figures as they are shown
abbrev pub shown : View → List Figure → List ℕ
shown Text figures = text_lines figures
shown Json figures = object_of figures
shown Metrics figures = metrics figures

-- the figures of a report, each under its name, as they are shown
abbrev pub IsText : View → Report → List ℕ → Type 0
IsText view r said = (figures : List Figure) × (map (λ f. f.name.now) figures ≡ names) × (map (λ f. f.number) figures ≡ numbers_of r) × (said ≡ shown view figures)

-- that was written, or a front of it
abbrev pub IsShown : View → Report → Option (List ℕ) → Option (List ℕ) → Type 0
IsShown view r old new = (said : List ℕ) × IsText view r said × Appends old new said

abbrev pub IsShownSoFar : View → Option (List ℕ) → Option (List ℕ) → Type 0
IsShownSoFar view old new = (new ≡ old) ⊎ ((r : Report) × (said : List ℕ) × IsText view r said × AppendsPrefix old new said)

-- a service that has greeted is there; for metrics none needs to be
abbrev pub is_metrics : View → Bool
is_metrics Text = false
is_metrics Json = false
is_metrics Metrics = true

abbrev pub is_enough : View → Report → Bool
is_enough view r = is_metrics view || r.ready == 1

-- all was written of a guard that is as it is to be
abbrev pub HasShown : View → Option (List ℕ) → Option (List ℕ) → Type 0
HasShown view old new = (r : Report) × (is_enough view r ≡ true) × IsShown view r old new
