-- What is sent of a content in parts.
use Rattle.std.specs.Prelude.{ℕ, ◌≡◌, ◌≤◌, ◌++◌, List, Option, length}
use Rattle.std.specs.Io.KnownBytes.{Appends, Consumes, IsAtEnd}
use Rattle.std.specs.List.{AllByRecursion, concat, flat_map}
use Rattle.av_asks.specs.Contents.{begin_body, end_frame, part_body}
use Rattle.av_asks.specs.Spelling.{framed}
use Rattle.av_asks.specs.declared.contents.How.{How}
use Rattle.av_asks.specs.declared.contents.How.TheVariants.{Whole}
use Rattle.av_client.specs.declared.sending.Sent.{Sent}

-- the frames that begin a content, and bring some of it
abbrev pub begin_frame : ℕ → List ℕ → List ℕ
begin_frame tag label = framed (begin_body tag label)

abbrev pub part_frame : ℕ → List ℕ → List ℕ
part_frame tag some = framed (part_body tag some)

-- the frames of a content in these parts, which ends so, with the count of its bytes
abbrev pub content_frames : ℕ → List ℕ → List (List ℕ) → How → List ℕ
content_frames tag label parts how = begin_frame tag label ++ flat_map (part_frame tag) parts ++ end_frame tag how (length (concat parts))

-- a part as a guard takes one
abbrev pub IsPart : List ℕ → Type 0
IsPart some = (1 ≤ length some) × (length some ≤ 1_048_576)

-- All that a reader gave was written in parts, and counted.
pub record IsBrought (tag count : ℕ) (unread rest old new : Option (List ℕ)) : Type 0 where
  pub parts : List (List ℕ)
  pub fit : AllByRecursion IsPart parts
  pub read : Consumes unread rest (concat parts)
  pub written : Appends old new (flat_map (part_frame tag) parts)
  pub counted : count ≡ length (concat parts)

-- The same, and the content is whole only where the reader is at its end.
pub record SendsParts (tag : ℕ) (sent : Sent) (unread rest old new : Option (List ℕ)) : Type 0 where
  pub brought : IsBrought tag sent.count unread rest old new
  pub all : sent.how ≡ Whole → IsAtEnd rest

-- What was written is the frames of a content, which ends so: all bytes that a reader gave, in their order, in parts, with their count.
-- It is whole only where the reader is at its end.
pub record IsSent (tag : ℕ) (label : List ℕ) (how : How) (unread rest old new : Option (List ℕ)) : Type 0 where
  pub parts : List (List ℕ)
  pub fit : AllByRecursion IsPart parts
  pub read : Consumes unread rest (concat parts)
  pub written : Appends old new (content_frames tag label parts how)
  pub all : how ≡ Whole → IsAtEnd rest
