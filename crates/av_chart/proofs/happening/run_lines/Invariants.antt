use Rattle.std.proofs.Common.{◌≡◌, ◌≤◌, ◌+◌, length, fold}
use Rattle.av_base.specs.Line.{lines_of}
use Rattle.av_chart.proofs.StoryLemmas.{size_of}
use Rattle.av_chart.specs.Story.{story_after, story_of}
use Rattle.av_chart.specs.Told.{told_from, world_after}
use Rattle.av_chart.proofs.happening.run_lines.Given as goal

-- what is left leads to the world and the story of all; numbers and places stay within the text
abbrev pub invariant-lines : goal.invariant-lines
invariant-lines l =
    (world_after l.world (lines_of l.rest) ≡ world_after l.initial.world (lines_of l.text))
    × (fold story_after (story_of l.happened) (told_from l.world l.line l.from (lines_of l.rest))
    ≡ fold story_after (story_of l.initial.happened) (told_from l.initial.world 1 0 (lines_of l.text)))
    × (l.line + length l.rest ≤ 1 + length l.text) × (l.from + size_of (lines_of l.rest) ≤ 1 + length l.text)

abbrev pub decreases-lines : goal.decreases-lines
decreases-lines l = length l.rest
