-- The stretches into which a large file is cut.
use Rattle.std.specs.Prelude.{◌≡◌, ℕ, ◌*◌, ◌/◌, ◌-◌, nat_lt, List, drop, take, Option, IfSome, if◌then◌else◌}
use Rattle.av_files.specs.Findings.{NamedSet}
use Rattle.av_segments.specs.Segments.{Stretch, segment_of}

-- where a stretch begins, of so many in a file of so many bytes: they have the same length, but for the last one, which ends with the file
unfoldable pub place_of : (size count : ℕ) → ℕ → ℕ
place_of size count number = if nat_lt number count then size / count * number else size

-- a read at this place gave so many bytes, which stand in front of the buffer, as far as the file's are known
abbrev pub GivesFrom : Option (List ℕ) → ℕ → ℕ → List ℕ → Type 0
GivesFrom left place count buffer = IfSome left (λ all. take count buffer ≡ take count (drop place all))

-- these are the bytes of a file from one place up to another, as far as its bytes are known
abbrev pub AreFromTo : Option (List ℕ) → ℕ → ℕ → List ℕ → Type 0
AreFromTo left from to content = IfSome left (λ all. content ≡ take (to - from) (drop from all))

-- this was found in the bytes of a file from one place up to another
pub record IsFoundFrom (left : Option (List ℕ)) (sets : List NamedSet) (from to : ℕ) (s : Stretch) : Type 0 where
  pub content : List ℕ
  pub bytes : AreFromTo left from to content
  pub found : s ≡ segment_of sets content
