-- Which paths a glob matches.
use Rattle.std.specs.Prelude.{ℕ, ◌==◌, ◌||◌, ◌&&◌, Bool, true, false, not, if◌then◌else◌, List, [], ◌∷◌}
use Rattle.std.specs.List.{list_any}
use Rattle.av_glob.specs.Class.{is_member_of}
use Rattle.av_glob.specs.declared.item.Item.{Item}
use Rattle.av_glob.specs.declared.item.Item.TheVariants.{Byte, One, Class, Star, Stars}

-- one of two holds, and not both
abbrev pub differs : Bool → Bool → Bool
differs true b = not b
differs false b = b

-- an item takes a byte: 47, a slash, is taken by itself and by two stars alone
abbrev pub fits : Item → ℕ → Bool
fits (Byte wanted) b = wanted == b
fits One b = not (b == 47)
fits (Class is_negated members) b = not (b == 47) && differs (is_member_of members b) is_negated
fits Star b = not (b == 47)
fits Stars b = true

-- an item takes any number of bytes; any other takes one
abbrev pub repeats : Item → Bool
repeats Star = true
repeats Stars = true
repeats i = false

-- nothing is left
abbrev pub is_empty : List ℕ → Bool
is_empty [] = true
is_empty (b ∷ text) = false

-- one byte that is taken, and then the rest
abbrev pub one : (ℕ → Bool) → (List ℕ → Bool) → List ℕ → Bool
one takes after [] = false
one takes after (b ∷ text) = takes b && after text

-- any number of bytes that are taken, and then the rest
abbrev pub many : (ℕ → Bool) → (List ℕ → Bool) → List ℕ → Bool
many takes after [] = after []
many takes after (b ∷ text) = after (b ∷ text) || (takes b && many takes after text)

-- what an item takes, and then the rest
abbrev pub taking : Bool → (ℕ → Bool) → (List ℕ → Bool) → List ℕ → Bool
taking true takes after text = many takes after text
taking false takes after text = one takes after text

-- items match a whole text
abbrev pub matches : List Item → List ℕ → Bool
matches [] text = is_empty text
matches (i ∷ items) text = taking (repeats i) (fits i) (matches items) text

-- what is behind the last slash of what is left, or what was there before
abbrev pub component : List ℕ → List ℕ → List ℕ
component last [] = last
component last (b ∷ text) = if b == 47 then component text text else component last text

-- the last component of a path
abbrev pub last_component : List ℕ → List ℕ
last_component path = component path path

-- a glob: its items, and whether they match a whole path or its last component
pub record GlobValue : Type 0 where
  pub is_of_paths : Bool
  pub items : List Item

-- a path is left out
abbrev pub leaves_out : GlobValue → List ℕ → Bool
leaves_out g path = matches g.items (if g.is_of_paths then path else last_component path)

-- some glob leaves the path out
abbrev pub is_left_out : List GlobValue → List ℕ → Bool
is_left_out globs path = list_any (λ g. leaves_out g path) globs
