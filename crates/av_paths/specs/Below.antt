-- Which paths may be asked about.
use Rattle.std.specs.Prelude.{ℕ, ◌≡◌, ◌==◌, ◌||◌, Bool, false, List, [], ◌∷◌}
use Rattle.std.specs.Borrow.{Bor}
use Rattle.std.specs.List.{Contains}
use Rattle.std.specs.Path.{IsAbsolute, PathStartsWith, parent_dir, path_components}
use Rattle.std.specs.Str.{bytes_eq}

-- a byte is zero
abbrev pub has_zero : List ℕ → Bool
has_zero [] = false
has_zero (b ∷ bs) = b == 0 || has_zero bs

-- one of these components is `..`
abbrev pub has_up : List (List ℕ) → Bool
has_up [] = false
has_up (c ∷ cs) = bytes_eq c parent_dir || has_up cs

-- a path is absolute, and has neither a zero byte nor a component `..`
abbrev pub IsPlain : List ℕ → Type 0
IsPlain path = IsAbsolute path × (has_zero path ≡ false) × (has_up (path_components path) ≡ false)

-- a folder is plain, and the components of a path begin with its components
abbrev pub BeginsWith : List ℕ → List ℕ → Type 0
BeginsWith path folder = IsPlain folder × PathStartsWith path folder

-- so it is of one of these folders
abbrev pub BeginsWithOne : List ℕ → List (Bor (List ℕ)) → Type 0
BeginsWithOne path folders = (folder : Bor (List ℕ)) × Contains folders folder × BeginsWith path folder.now

-- a path is that of one of these folders, or of something below one
abbrev pub IsBelow : List ℕ → List (Bor (List ℕ)) → Type 0
IsBelow path folders = IsPlain path × BeginsWithOne path folders
