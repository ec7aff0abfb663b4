-- The objects of a script's lines, one line after another.
use Rattle.std.proofs.Common.{ℕ, ◌≡◌, ◌+◌, ◌++◌, List, ◌∷◌, sym, ap, ◌∙◌}
use Rattle.av_base.specs.Line.{lines_of}
use Rattle.av_script.specs.CommandObjects.{lines_json, said_json, said_tokens, said_world}
use Rattle.av_script.specs.Script.Grammar.{line_of}
use Rattle.av_history.specs.World.{WorldState}

-- the objects up to a line, that of the line, and those behind it make up the whole
pub line_told : (done whole : List ℕ) (w : WorldState) (n : ℕ) (text first below : List ℕ) → lines_of text ≡ first ∷ lines_of below
    → done ++ lines_json w n (lines_of text) ≡ whole
    → done ++ (said_json n first (said_tokens w (line_of first)) ++ lines_json (said_world w (line_of first)) (n + 1) (lines_of below)) ≡ whole
line_told done whole w n text first below lines all = ap (λ ls. done ++ lines_json w n ls) (sym lines) ∙ all
