-- The line of an object.
use Rattle.std.specs.Prelude.{ℕ, List, [], ◌∷◌, ◌++◌}
use Rattle.json.specs.Print.{print}
use Rattle.json.specs.Token.{Token}
use Rattle.av_json.specs.Shown.{shown}

-- tokens as JSON with its hidden characters as escapes, and the end of their line
abbrev pub object_line : List Token → List ℕ
object_line ts = shown (print ts) ++ 10 ∷ []
