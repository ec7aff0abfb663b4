-- How a client spells a content in parts.
use Rattle.std.specs.Prelude.{ℕ, ◌==◌, List, [], ◌∷◌, ◌++◌, length, map, Result, Ok, Err, nat_lt, if◌then◌else◌}
use Rattle.av_asks.specs.declared.sizes.TheConstants.{MAX_LABEL, MAX_PART}
use Rattle.av_asks.specs.declared.contents.How.{How}
use Rattle.av_asks.specs.declared.contents.How.TheVariants.{Whole, GivenUp}
use Rattle.av_asks.specs.declared.fault.UnfitPart.{UnfitPart}
use Rattle.av_asks.specs.declared.fault.UnfitPart.TheVariants as unfit
use Rattle.av_asks.specs.Spelling.{Asked, field8, framed}

-- what a client says: it asks about a content, or a content begins, some of it comes, and it ends, or it wants to be told of a newer
-- version
pub data Saying : Type 0 where
  Asks : (ask : Asked) → Saying
  Begins : (tag : ℕ) (label : List ℕ) → Saying
  Brings : (tag : ℕ) (some : List ℕ) → Saying
  Ends : (tag : ℕ) (how : How) → Saying
  Watches : (tag version : ℕ) → Saying

-- the number of how a content ends
abbrev pub how_number : How → ℕ
how_number Whole = 0
how_number GivenUp = 1

-- the body that begins a content: its kind, the tag, how long the label is, and the label
abbrev pub begin_body : ℕ → List ℕ → List ℕ
begin_body tag label = 5 ∷ (field8 tag ++ length label ∷ label)

-- the body of some of it: its kind, the tag, and the bytes
abbrev pub part_body : ℕ → List ℕ → List ℕ
part_body tag some = 6 ∷ (field8 tag ++ some)

-- the body that ends it: its kind, the tag, how, and the count of its bytes
abbrev pub end_body : ℕ → How → ℕ → List ℕ
end_body tag how count = 7 ∷ (field8 tag ++ how_number how ∷ field8 count)

-- the body that asks for a newer version than this one: its kind, the tag, and the version
abbrev pub watch_body : ℕ → ℕ → List ℕ
watch_body tag version = 8 ∷ (field8 tag ++ field8 version)

-- the body that tells it: its kind, the tag, and the newer version
abbrev pub newer_body : ℕ → ℕ → List ℕ
newer_body tag version = 9 ∷ (field8 tag ++ field8 version)

-- its frame
abbrev pub newer_frame : ℕ → ℕ → List ℕ
newer_frame tag version = framed (newer_body tag version)

-- the frame that ends a content
abbrev pub end_frame : ℕ → How → ℕ → List ℕ
end_frame tag how count = framed (end_body tag how count)

-- a beginning after what was written, unless its label is too long
abbrev pub begin_written : List ℕ → ℕ → List ℕ → Result (List ℕ) UnfitPart
begin_written out tag label = if nat_lt MAX_LABEL (length label) then Err unfit.Label else Ok (out ++ framed (begin_body tag label))

-- a part after what was written, unless it has no bytes or too many
abbrev pub part_written : List ℕ → ℕ → List ℕ → Result (List ℕ) UnfitPart
part_written out tag some =
    if length some == 0 then Err unfit.Empty else
    (if nat_lt MAX_PART (length some) then Err unfit.TooLong else Ok (out ++ framed (part_body tag some)))

-- bytes of a content, one at a time
abbrev pub singly : ℕ → List ℕ → List Saying
singly tag some = map (λ b. Brings tag (b ∷ [])) some

-- what is said byte by byte: of a part that begins no byte has come
abbrev pub bytewise : Saying → List Saying
bytewise (Asks ask) = Asks ask ∷ []
bytewise (Begins tag label) = Begins tag label ∷ []
bytewise (Brings tag []) = Brings tag [] ∷ []
bytewise (Brings tag (b ∷ some)) = singly tag (b ∷ some)
bytewise (Ends tag how) = Ends tag how ∷ []
bytewise (Watches tag version) = Watches tag version ∷ []
