-- How a glob is spelt.
use Rattle.std.specs.Prelude.{ℕ, ◌≡◌, ⊤, ◌==◌, ◌&&◌, ◌++◌, Bool, true, false, not, if◌then◌else◌, List, [], ◌∷◌, Result, Ok, Err}
use Rattle.std.specs.declared.vec.Vec.{Vec}
use Rattle.std.specs.declared.alloc.Global.{Global}
use Rattle.av_base.specs.declared.refusal.Refusal.{Refusal}
use Rattle.av_base.specs.declared.refusal.Refusal.TheVariants.{Fault, NoMemory}
use Rattle.av_glob.specs.Glob.{GlobValue}
use Rattle.av_glob.specs.declared.item.Item.{Item}
use Rattle.av_glob.specs.declared.item.Item.TheVariants.{Byte, One, Class, Star, Stars}
use Rattle.av_glob.specs.declared.reading.GlobFault.{GlobFault}
use Rattle.av_glob.specs.declared.reading.GlobFault.TheVariants as fault
use Rattle.av_glob.specs.declared.reading.Place.{Place}
use Rattle.av_glob.specs.declared.reading.Place.TheVariants.{Between, SecondStar, Escaped, Opened, Inside}

-- the first byte is this one
abbrev pub begins : ℕ → List ℕ → Bool
begins c [] = false
begins c (b ∷ text) = b == c

-- the last byte is this one, or so it was before
abbrev pub ends_so : Bool → ℕ → List ℕ → Bool
ends_so is_met c [] = is_met
ends_so is_met c (b ∷ text) = ends_so (b == c) c text

abbrev pub ends : ℕ → List ℕ → Bool
ends c text = ends_so false c text

-- some byte is
abbrev pub has : ℕ → List ℕ → Bool
has c [] = false
has c (b ∷ text) = if b == c then true else has c text

-- these items, and behind them those that are read
abbrev pub with_items : List Item → Result (List Item) GlobFault → Result (List Item) GlobFault
with_items items (Ok more) = Ok (items ++ more)
with_items items (Err e) = Err e

abbrev pub with_item : Item → Result (List Item) GlobFault → Result (List Item) GlobFault
with_item item (Ok more) = Ok (item ∷ more)
with_item item (Err e) = Err e

-- The items of what is left, from a place in the glob on: between two items, at the second of two stars, behind a backslash, behind the
-- bracket that opens a class (and the ! that negates it), and inside a class behind these members.
-- 42 is *, 63 is ?, 92 is \, 91 and 93 are [ and ], and 33 is !.
abbrev pub read : Place → List ℕ → List ℕ → Result (List Item) GlobFault
read Between members [] = Ok []
read Between members (b ∷ text) =
    if b == 42 then (if begins 42 text then read SecondStar [] text else with_item Star (read Between [] text)) else
    (if b == 63 then with_item One (read Between [] text) else
    (if b == 92 then read Escaped [] text else
    (if b == 91 then read (Opened false) [] text else with_item (Byte b) (read Between [] text))))
read SecondStar members [] = Ok []
read SecondStar members (b ∷ text) = with_item Stars (read Between [] text)
read Escaped members [] = Err fault.Escape
read Escaped members (b ∷ text) = with_item (Byte b) (read Between [] text)
read (Opened is_negated) members [] = Err fault.Class
read (Opened is_negated) members (b ∷ text) =
    if (b == 33) && not is_negated then read (Opened true) [] text else read (Inside is_negated) (b ∷ []) text
read (Inside is_negated) members [] = Err fault.Class
read (Inside is_negated) members (b ∷ text) =
    if b == 93 then with_item (Class is_negated members) (read Between [] text) else read (Inside is_negated) (members ++ b ∷ []) text

-- a glob of these items: it is of paths where it has a slash
abbrev pub glob_of_items : List ℕ → Result (List Item) GlobFault → Result GlobValue GlobFault
glob_of_items text (Ok items) = Ok (record { is_of_paths = has 47 text; items = items })
glob_of_items text (Err e) = Err e

-- the glob that a text spells, or the first fault
abbrev pub glob_of : List ℕ → Result GlobValue GlobFault
glob_of [] = Err fault.Empty
glob_of (b ∷ text) = if ends 47 (b ∷ text) then Err fault.Slash else glob_of_items (b ∷ text) (read Between [] (b ∷ text))

-- a text was read as is wanted, unless there was no memory
abbrev pub ReadsItems : Result (Vec Item Global) (Refusal GlobFault) → Result (List Item) GlobFault → Type 0
ReadsItems (Ok items) wanted = wanted ≡ Ok items.items
ReadsItems (Err (Fault e)) wanted = wanted ≡ Err e
ReadsItems (Err NoMemory) wanted = ⊤

abbrev pub ReadsGlob : Result GlobValue (Refusal GlobFault) → Result GlobValue GlobFault → Type 0
ReadsGlob (Ok g) wanted = wanted ≡ Ok g
ReadsGlob (Err (Fault e)) wanted = wanted ≡ Err e
ReadsGlob (Err NoMemory) wanted = ⊤
