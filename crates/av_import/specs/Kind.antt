-- What a file is, by its ending.
use Rattle.std.specs.Prelude.{ℕ, ◌||◌, Bool, List, [], ◌∷◌, map, codes, if◌then◌else◌}
use Rattle.std.specs.Char.{to_ascii_lowercase}
use Rattle.std.specs.Str.{bytes_eq}
use Rattle.av_base.specs.Line.{pieces_of}
use Rattle.av_import.specs.declared.kind.Form.TheVariants.{Ndb, Db}
use Rattle.av_import.specs.declared.kind.Kind.{Kind}
use Rattle.av_import.specs.declared.kind.Kind.TheVariants.{Lines, Yara, Hashes, Unknown}

-- the last of the pieces round each dot
unfoldable pub last_of : List (List ℕ) → List ℕ
last_of [] = []
last_of (p ∷ []) = p
last_of (p ∷ q ∷ ps) = last_of (q ∷ ps)

-- a word is this one, in letters of either case
abbrev pub has_ending : List ℕ → List ℕ → Bool
has_ending ending word = bytes_eq (map to_ascii_lowercase ending) (map to_ascii_lowercase word)

-- the endings of files of hashes, of whole files or of sections
abbrev pub is_of_hashes : List ℕ → Bool
is_of_hashes ending =
    has_ending ending (codes "hdb") || has_ending ending (codes "hdu") || has_ending ending (codes "hsb")
    || has_ending ending (codes "hsu") || has_ending ending (codes "mdb") || has_ending ending (codes "mdu")
    || has_ending ending (codes "msb") || has_ending ending (codes "msu") || has_ending ending (codes "imp")
    || has_ending ending (codes "fp") || has_ending ending (codes "sfp")

-- what a file with this ending is
abbrev pub kind_by : List ℕ → Kind
kind_by ending =
    if has_ending ending (codes "ndb") || has_ending ending (codes "ndu") then Lines Ndb
    else if has_ending ending (codes "db") then Lines Db
    else if has_ending ending (codes "yar") || has_ending ending (codes "yara") then Yara
    else if is_of_hashes ending then Hashes
    else Unknown

-- what a file of this path is: its ending is what stands behind the last dot
abbrev pub kind_of : List ℕ → Kind
kind_of path = kind_by (last_of (pieces_of 46 path))
