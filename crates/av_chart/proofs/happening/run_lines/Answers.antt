use Rattle.std.proofs.Common.{◌≡◌, ◌≤◌, ◌+◌, ◌∙◌, length, fold, refl, ap, subst, arith}
use Rattle.av_base.specs.Line.{lines_of}
use Rattle.av_chart.proofs.StoryLemmas.{line_taken, size_first, size_of, size_within, world_taken}
use Rattle.av_chart.specs.Story.{story_after, story_of}
use Rattle.av_chart.specs.Told.{Did, Told, tells, told_at}
use Rattle.av_chart.specs.declared.happened.Span.{Span}
use Rattle.av_script.specs.Script.Grammar.{line_of}
use Rattle.av_chart.proofs.happening.run_lines.Goals as goal

pub lines-init : goal.lines-init
lines-init c = (refl, refl, omega arith, omega (arith, size_within c.args.text.now))

pub overflow_add-from : goal.overflow_add-from
overflow_add-from c =
    let first = c.first_line.result.0.now in
    let below = c.first_line.result.1.now in
    let size : size_of (lines_of c.lines.rest.now) ≡ (length first + 1) + size_of (lines_of below) = ap size_of c.first_line.ensures.lines ∙ size_first first (lines_of below) in
    let within : c.lines.from + size_of (lines_of c.lines.rest.now) ≤ 1 + length c.args.text.now = c.lines.invariant.3 in
    omega (arith, size, within)

pub lines-preserved : goal.lines-preserved
lines-preserved c =
    let first = c.first_line.result.0.now in
    let below = c.first_line.result.1.now in
    let size : size_of (lines_of c.lines.rest.now) ≡ (length first + 1) + size_of (lines_of below) = ap size_of c.first_line.ensures.lines ∙ size_first first (lines_of below) in
    let within : c.lines.from + size_of (lines_of c.lines.rest.now) ≤ 1 + length c.args.text.now = c.lines.invariant.3 in
    let told = λ (p : Span) (did : Did). let t : Told = record { line = c.lines.line; command = p; text = first; did = did } in t in
    let run = λ (p : Span). story_of c.run_line.new.happened ≡ fold story_after (story_of c.lines.happened) (tells c.lines.world (told p) (line_of first)) in
    let story : story_of c.run_line.new.happened ≡ fold story_after (story_of c.lines.happened) (tells c.lines.world (told_at c.lines.line c.lines.from first) (line_of first)) =
    subst run c.span.ensures c.in_ok-run_line.ensures.happened
    in (
      world_taken c.lines.world c.run_line.new.world first (lines_of below) (lines_of c.lines.rest.now) c.first_line.ensures.lines c.in_ok-run_line.ensures.world
          ∙ c.lines.invariant.0,
      line_taken c.lines.world c.run_line.new.world (story_of c.lines.happened) (story_of c.run_line.new.happened) c.lines.line c.lines.from first (lines_of below)
          (lines_of c.lines.rest.now) c.first_line.ensures.lines c.in_ok-run_line.ensures.world story
          ∙ c.lines.invariant.1,
      omega (arith, c.lines.invariant.2, c.first_line.ensures.shorter),
      omega (arith, size, within),
    )
