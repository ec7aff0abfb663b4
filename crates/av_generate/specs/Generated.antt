-- The script of a seed.
use Rattle.std.specs.Prelude.{ℕ, zero, suc, List, [], ◌++◌, None, codes}
use Rattle.av_script.specs.Script.Grammar.{line_of}
use Rattle.av_history.specs.World.{WorldState, start}
use Rattle.av_generate.specs.Course.{followed, next_words}
use Rattle.av_generate.specs.Head.{Head, head_drawn}
use Rattle.av_generate.specs.Temper.{even}
use Rattle.av_generate.specs.declared.generator.Generator.{Generator}
use Rattle.av_generate.specs.declared.profile.Profile.{Profile}
use Rattle.av_generate.specs.declared.verb.TheConstants.{VERBS}

-- a generator at its first command
abbrev pub fresh_generator : Profile → ℕ → Generator
fresh_generator profile draws =
    record {
      profile = profile;
      draws = draws;
      temper = even VERBS;
      eager = 0;
      left = 0;
      fresh = None;
      lent = [];
      asked = 0;
    }

-- the line of the next command, with the generator and the world after it
unfoldable pub line_drawn : Generator → WorldState → List ℕ × (Generator × WorldState)
line_drawn g w = let t = next_words g w in (t.0 ++ codes "\n", followed t.1 w (line_of t.0))

-- the lines of so many commands
abbrev pub lines_drawn : ℕ → Generator → WorldState → List ℕ
lines_drawn zero g w = []
lines_drawn (suc n) g w = let t = line_drawn g w in t.0 ++ lines_drawn n t.1.0 t.1.1

-- a script behind its head
abbrev pub behind_head : Profile → ℕ → Head → List ℕ
behind_head profile commands h =
    h.text ++ lines_drawn commands (fresh_generator profile h.draws) (start 1 h.mode h.limits)

-- the script of a seed, a profile and so many commands
unfoldable pub generated : ℕ → ℕ → Profile → List ℕ
generated seed commands profile = behind_head profile commands (head_drawn seed)
