-- What is written for a script.
use Rattle.std.specs.Prelude.{ℕ, ◌≡◌, ◌<◌, ◌&&◌, Bool, nat_le, List, length, map, count_by, position, Option, None, Some, Result, Ok, Err}
use Rattle.std.specs.Io.KnownBytes.{Appends, Keeps}
use Rattle.av_base.specs.Device.{AppendsPrefix}
use Rattle.av_base.specs.Line.{lines_of}
use Rattle.av_script.specs.Output.{IsOfRead}
use Rattle.av_script.specs.Script.{ScriptText, script_of}
use Rattle.av_history.specs.World.{WorldState, start}
use Rattle.av_script.specs.declared.run_script.TheConstants.{MAX_SCRIPT}
use Rattle.av_script.specs.declared.script.ScriptFault.{ScriptFault}
use Rattle.av_chart.specs.Bars.{behind}
use Rattle.av_chart.specs.Life.{lives_of}
use Rattle.av_chart.specs.Picture.{picture_text, steps_of}
use Rattle.av_chart.specs.Place.{StandAt, bottom_of}
use Rattle.av_chart.specs.Row.{height_of}
use Rattle.av_chart.specs.Slot.{free_places, slots}
use Rattle.av_chart.specs.Story.{Story, story, story_of}
use Rattle.av_chart.specs.Told.{told_from, world_after}
use Rattle.av_chart.specs.declared.chart.Lines.{Lines}
use Rattle.av_chart.specs.declared.fault.ChartFault.{ChartFault}
use Rattle.av_chart.specs.declared.fault.ChartFault.TheVariants.{BadScript, NoLines, NoMemory, Read, TooLong, Write}
use Rattle.av_chart.specs.declared.happened.Happened.{Happened}
use Rattle.av_chart.specs.declared.happened.Step.{Step}
use Rattle.av_chart.specs.declared.life.Bar.{Bar}
use Rattle.av_chart.specs.declared.life.Moment.{Moment}
use Rattle.av_chart.specs.declared.picture.Picture.{Picture}

-- whether the line of a step is asked for
abbrev pub asks : Lines → Step → Bool
asks l s = nat_le l.from s.line && nat_le s.line l.to

-- the first of the steps that are asked for, and how many there are
abbrev pub Shows : Lines → List Step → Option (ℕ × ℕ) → Type 0
Shows l steps None = position (asks l) steps ≡ None
Shows l steps (Some shown) = (position (asks l) steps ≡ Some shown.0) × (shown.1 ≡ count_by (asks l) steps)

-- each bar of a lane has the first place that is free
abbrev pub HasSlots : Moment → List Bar → Type 0
HasSlots last bars = map (λ b. b.slot) bars ≡ slots last free_places (lives_of bars)

pub record HaveSlots (last : Moment) (h : Happened) : Type 0 where
  pub opens : HasSlots last h.opens
  pub questions : HasSlots last h.questions
  pub jobs : HasSlots last h.jobs
  pub works : HasSlots last h.works

-- the rows of a picture stand one below the other, as high as its steps are
pub record IsPlaced (p : Picture) : Type 0 where
  pub first : p.places.now.first ≡ p.first
  pub tops : StandAt p.places.now.tops.items (map height_of (steps_of p))
  pub bottom : p.places.now.bottom ≡ bottom_of (map height_of (steps_of p))

-- a page is the picture of a world and of what happened in it, of the steps whose lines are asked for, under a title
pub record IsDrawn (w : WorldState) (s : Story) (lines : Lines) (title text page : List ℕ) : Type 0 where
  pub picture : Picture
  pub source : picture.text.now ≡ text
  pub world : picture.world.now ≡ w
  pub happened : story_of picture.happened.now ≡ s
  pub shown : Shows lines s.steps (Some (picture.first, picture.count))
  pub slots : HaveSlots (record { step = behind picture; line = 0 }) picture.happened.now
  pub placed : IsPlaced picture
  pub drawn : page ≡ picture_text picture title

-- what happens in a text's run from a world
abbrev pub run_of : WorldState → List ℕ → Story
run_of w text = story (told_from w 1 0 (lines_of text))

-- a page is the picture of a text's run from a world
abbrev pub IsRunDrawn : WorldState → Lines → List ℕ → List ℕ → List ℕ → Type 0
IsRunDrawn w lines title text page = IsDrawn (world_after w (lines_of text)) (run_of w text) lines title text page

-- the world in which a script begins
abbrev pub begun : ScriptText → WorldState
begun s = start s.number s.mode s.limits

-- a page is the picture of a script's own run
abbrev pub IsPictureOf : Lines → List ℕ → List ℕ → List ℕ → Result ScriptText ScriptFault → Type 0
IsPictureOf lines title text page (Ok s) = IsRunDrawn (begun s) lines title text page
IsPictureOf lines title text page (Err f) = ⊥

abbrev pub IsPicture : Lines → List ℕ → List ℕ → List ℕ → Type 0
IsPicture lines title text page = IsPictureOf lines title text page (script_of text)

-- a picture of a script's run was written
abbrev pub Draws : Lines → List ℕ → Option (List ℕ) → Option (List ℕ) → List ℕ → Type 0
Draws lines title old new text = (page : List ℕ) × IsPicture lines title text page × Appends old new page

-- a front of one
abbrev pub DrawsFront : Lines → List ℕ → Option (List ℕ) → Option (List ℕ) → List ℕ → Type 0
DrawsFront lines title old new text = (page : List ℕ) × IsPicture lines title text page × AppendsPrefix old new page

-- no line of a run that does something is asked for
abbrev pub HasNone : WorldState → Lines → List ℕ → Type 0
HasNone w lines text = Shows lines (run_of w text).steps None

abbrev pub HasNoneOf : Lines → List ℕ → Result ScriptText ScriptFault → Type 0
HasNoneOf lines text (Ok s) = HasNone (begun s) lines text
HasNoneOf lines text (Err f) = ⊥

-- a script that is too long or bad is told as what it is; that no line is asked for, of a script alone
abbrev pub IsTrueOf : Lines → ChartFault → List ℕ → Type 0
IsTrueOf lines (BadScript line) text = script_of text ≡ Err (record { line = line })
IsTrueOf lines TooLong text = MAX_SCRIPT < length text
IsTrueOf lines NoLines text = HasNoneOf lines text (script_of text)
IsTrueOf lines Read text = Unit {0}
IsTrueOf lines NoMemory text = Unit {0}
IsTrueOf lines Write text = Unit {0}

-- a fault of drawing what happened: no line, or no memory
abbrev pub IsNotDrawn : Lines → Story → ChartFault → Type 0
IsNotDrawn lines s NoLines = Shows lines s.steps None
IsNotDrawn lines s NoMemory = Unit {0}
IsNotDrawn lines s Read = ⊥
IsNotDrawn lines s TooLong = ⊥
IsNotDrawn lines s (BadScript line) = ⊥
IsNotDrawn lines s Write = ⊥

-- the same of a text's run
abbrev pub IsOfDrawing : WorldState → Lines → List ℕ → ChartFault → Type 0
IsOfDrawing w lines text f = IsNotDrawn lines (run_of w text) f

-- a fault that comes before anything is written
abbrev pub IsEarly : ChartFault → Type 0
IsEarly Read = Unit {0}
IsEarly TooLong = Unit {0}
IsEarly (BadScript line) = Unit {0}
IsEarly NoLines = Unit {0}
IsEarly NoMemory = Unit {0}
IsEarly Write = ⊥

-- nothing was written but where a write failed; there it was a front of the picture of a text that was read
abbrev pub Leaves : Option (List ℕ) → Lines → List ℕ → Option (List ℕ) → Option (List ℕ) → ChartFault → Type 0
Leaves left lines title old new Write = IsOfRead left (DrawsFront lines title old new)
Leaves left lines title old new Read = Keeps old new
Leaves left lines title old new TooLong = Keeps old new
Leaves left lines title old new (BadScript line) = Keeps old new
Leaves left lines title old new NoLines = Keeps old new
Leaves left lines title old new NoMemory = Keeps old new
