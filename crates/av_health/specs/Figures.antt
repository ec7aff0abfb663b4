-- The figures of a report by their names: as text, as metrics, and as an object.
use Rattle.std.specs.Prelude.{ℕ, List, [], ◌∷◌, ◌++◌, codes, decimal, map}
use Rattle.av_health.specs.declared.figure.Figure.{Figure}
use Rattle.av_health.specs.declared.figure.Sort.{Sort}
use Rattle.av_health.specs.declared.figure.Sort.TheVariants.{Gauge, Counter}
use Rattle.av_json.specs.Line.{object_line}
use Rattle.av_json.specs.Member.{number_tokens, object_tokens}

-- the names, in their order
abbrev pub names : List (List ℕ)
names =
    codes "ready" ∷ codes "version" ∷ codes "services" ∷ codes "clients" ∷ codes "unanswered" ∷ codes "questions" ∷ codes "contents"
    ∷ codes "content_bytes" ∷ codes "asks_total" ∷ codes "grants_total" ∷ codes "denials_total" ∷ codes "unscanned_total"
    ∷ codes "timeouts_total" ∷ codes "dropped_lines_total" ∷ codes "uptime_seconds" ∷ codes "service_seconds"
    ∷ codes "memory_bytes" ∷ codes "parts" ∷ codes "open_contents" ∷ codes "signatures" ∷ codes "version_time_seconds" ∷ []

-- a line: the name, a space and the number
abbrev pub text_line : Figure → List ℕ
text_line f = f.name.now ++ 32 ∷ (decimal f.number ++ 10 ∷ [])

abbrev pub text_lines : List Figure → List ℕ
text_lines [] = []
text_lines (f ∷ figures) = text_line f ++ text_lines figures

abbrev pub sort_word : Sort → List ℕ
sort_word Gauge = codes "gauge"
sort_word Counter = codes "counter"

-- three lines of a metric: what it counts, of which sort it is, and its number
unfoldable pub help_line : List ℕ → List ℕ → List ℕ
help_line name help = codes "# HELP avguard_" ++ name ++ 32 ∷ (help ++ 10 ∷ [])

unfoldable pub sort_line : List ℕ → List ℕ → List ℕ
sort_line name word = codes "# TYPE avguard_" ++ name ++ 32 ∷ (word ++ 10 ∷ [])

unfoldable pub number_line : Figure → List ℕ
number_line f = codes "avguard_" ++ text_line f

abbrev pub metric_lines : Figure → List ℕ
metric_lines f = help_line f.name.now f.help.now ++ sort_line f.name.now (sort_word f.sort) ++ number_line f

abbrev pub metrics : List Figure → List ℕ
metrics [] = []
metrics (f ∷ figures) = metric_lines f ++ metrics figures

-- an object with a member a figure
abbrev pub object_of : List Figure → List ℕ
object_of figures = object_line (object_tokens (map (λ f. number_tokens f.name.now f.number) figures))
