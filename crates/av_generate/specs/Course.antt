-- What a generator carries from one command of its script to the next.
use Rattle.std.specs.Prelude.{ℕ, ◌-◌, ◌==◌, nat_lt, List, [], ◌∷◌, ◌++◌, drop, codes, Option, None, Some, Ok, Err, if◌then◌else◌}
use Rattle.av_frame.specs.Message.{Letter}
use Rattle.av_frame.specs.declared.message.Body.TheVariants.{Scan}
use Rattle.av_frame.specs.declared.message.Body.{Body}
use Rattle.av_script.specs.Script.Grammar.{Line}
use Rattle.av_script.specs.Script.Statement.{command_of}
use Rattle.av_history.specs.World.{WorldState, Outcome, step_of}
use Rattle.av_history.specs.declared.event.Event.{Event}
use Rattle.av_history.specs.declared.event.Event.TheVariants.{Run}
use Rattle.av_history.specs.declared.report.Line.TheVariants.{Booted}
use Rattle.av_history.specs.declared.report.Line as told
use Rattle.av_history.specs.declared.report.Places.{Places}
use Rattle.av_history.specs.declared.report.Report.{Report}
use Rattle.av_script.specs.declared.command.Command.{Command}
use Rattle.av_script.specs.declared.command.Command.TheVariants.{Step, Judge}
use Rattle.av_generate.specs.Draws.{below}
use Rattle.av_generate.specs.Lent.{lent_after}
use Rattle.av_generate.specs.Sight.{sight_of}
use Rattle.av_generate.specs.Temper.{eagerness_drawn, temper_drawn, verb_drawn}
use Rattle.av_generate.specs.Words.{digits, words_drawn}
use Rattle.av_generate.specs.declared.fresh.Fresh.{Fresh}
use Rattle.av_generate.specs.declared.fresh.Fresh.TheVariants as fresh
use Rattle.av_generate.specs.declared.generator.Generator.{Generator}
use Rattle.av_generate.specs.declared.profile.Profile.{Profile}
use Rattle.av_generate.specs.declared.profile.Profile.TheVariants.{Deep, Uniform}
use Rattle.av_generate.specs.declared.verb.TheConstants.{VERBS}

-- ---- the words of a command

-- a new spell of 16 commands, of which the first comes now: a temper, and then an eagerness
unfoldable pub new_spell : Generator → Generator
new_spell g =
    let t = temper_drawn VERBS g.draws in
    let e = eagerness_drawn t.1 in record g { temper = t.0; eager = e.0; draws = e.1; left = 15 }

-- a deep script has spells, a uniform one has none
abbrev pub in_profile : Profile → Generator → Generator
in_profile Deep g = if g.left == 0 then new_spell g else record g { left = g.left - 1 }
in_profile Uniform g = g

unfoldable pub in_spell : Generator → Generator
in_spell g = in_profile g.profile g

-- what was just sent or lent is carried on, in as many of 8 draws as there is eagerness
abbrev pub if_eager : Generator → Option Fresh → Option Fresh × Generator
if_eager g None = (None, g)
if_eager g (Some f) =
    let d = below 8 g.draws in (if nat_lt d.0 g.eager then Some f else None, record g { draws = d.1 })

unfoldable pub carried_drawn : Generator → Option Fresh × Generator
carried_drawn g = if g.eager == 0 then (None, g) else if_eager g g.fresh

-- a command that carries on
abbrev pub fresh_words : Fresh → List ℕ
fresh_words (fresh.Down place) = codes "down " ++ digits place
fresh_words (fresh.Up place) = codes "up " ++ digits place
fresh_words (fresh.Work place) = codes "work " ++ digits place

-- the words of a verb that is drawn by what there is to do
unfoldable pub verb_words : Generator → WorldState → List ℕ × Generator
verb_words g w =
    let sight = sight_of w g.lent g.asked in
    let v = verb_drawn g.profile sight g.temper g.draws in
    let t = words_drawn sight g.lent v.0 v.1 in (t.0, record g { draws = t.1 })

-- what is carried on, or a verb
abbrev pub words_after : WorldState → Option Fresh × Generator → List ℕ × Generator
words_after w (Some f, g) = (fresh_words f, g)
words_after w (None, g) = verb_words g w

-- the words of the next command
unfoldable pub next_words : Generator → WorldState → List ℕ × Generator
next_words g w = words_after w (carried_drawn (in_spell g))

-- ---- what a command leaves behind

-- the last of what a step sent or lent
abbrev pub fresh_of : Places → Places → Option Fresh
fresh_of before after =
    if nat_lt before.down after.down then Some (fresh.Down after.down)
    else if nat_lt before.up after.up then Some (fresh.Up after.up)
    else if nat_lt before.works after.works then Some (fresh.Work after.works)
    else None

-- the work that an event runs
abbrev pub run_place : Event → Option ℕ
run_place (Run place) = Some place
run_place e = None

-- a boot has asked nothing yet
abbrev pub asked_before : told.Line → ℕ → ℕ
asked_before (Booted boot) n = 0
asked_before line n = n

-- the number of a question
abbrev pub asked_in : Body → ℕ → ℕ
asked_in (Scan id s g l) n = id.seq
asked_in m n = n

-- the same of a message
abbrev pub asked_by : Letter → ℕ → ℕ
asked_by m n = asked_in m.body n

-- the number of the last question, after what was sent
abbrev pub asked_after : ℕ → List Letter → ℕ
asked_after n [] = n
asked_after n (m ∷ ms) = asked_after (asked_by m n) ms

-- nothing was sent or lent
abbrev pub quiet : Generator → Generator
quiet g = record g { fresh = None }

-- a step that was taken, which ran the work of a place or none
unfoldable pub noticed : Generator → Option ℕ → Report → WorldState → Generator
noticed g back r w =
    record g {
      fresh = fresh_of r.before r.after;
      lent = lent_after back r.before.works r.after.works g.lent;
      asked = asked_after (asked_before r.line g.asked) (drop r.before.down w.down);
    }

-- an event that happens, or is refused
abbrev pub stepped : Generator → WorldState → Event → Outcome → Generator × WorldState
stepped g w e (Ok p) = (noticed g (run_place e) p.0 p.1, p.1)
stepped g w e (Err f) = (quiet g, w)

-- a command, if a line is one
abbrev pub obeyed : Generator → WorldState → Option Command → Generator × WorldState
obeyed g w None = (quiet g, w)
obeyed g w (Some (Judge name)) = (quiet g, w)
obeyed g w (Some (Step e)) = stepped g w e (step_of w e)

-- what a line says is done
unfoldable pub followed : Generator → WorldState → Option Line → Generator × WorldState
followed g w None = (quiet g, w)
followed g w (Some line) = obeyed g w (command_of line)
