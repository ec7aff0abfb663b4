use Rattle.std.proofs.Common.{ℕ, ◌≡◌, List, Some}
use Rattle.av_history.specs.World.{WorldState}
use Rattle.av_chart.specs.Bars.{behind}
use Rattle.av_chart.specs.Chart.{HaveSlots, IsDrawn, IsPlaced, Shows}
use Rattle.av_chart.specs.Picture.{picture_text}
use Rattle.av_chart.specs.Story.{Story, story_of}
use Rattle.av_chart.specs.declared.chart.Lines.{Lines}
use Rattle.av_chart.specs.declared.picture.Picture.{Picture}

-- a page by the picture that was put
pub drawn_by : (p : Picture) (w : WorldState) (s : Story) (lines : Lines) (title text page : List ℕ) → page ≡ picture_text p title → p.text.now ≡ text → p.world.now ≡ w
    → story_of p.happened.now ≡ s → Shows lines s.steps (Some (p.first, p.count)) → HaveSlots (record { step = behind p; line = 0 }) p.happened.now → IsPlaced p
    → IsDrawn w s lines title text page
drawn_by p w s lines title text page drawn source world happened shown slots placed =
    record { picture = p; source = source; world = world; happened = happened; shown = shown; slots = slots; placed = placed; drawn = drawn }
