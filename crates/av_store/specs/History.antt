-- The streams of a volume with all that they have held.
use Rattle.std.specs.Prelude.{ℕ, suc, ◌≡◌, ◌≢◌, Bool, true, false, ◌==◌, List, [], ◌∷◌, ◌++◌, map, take, Option, Some, None, if◌then◌else◌}
use Rattle.av_store.specs.Files.{Change, File, Create, Write, Cut, Remove, numbered, changed, files_after, file_of, written}

-- all that one stream holds and has held since generation `first`, the newest of its earlier contents first
pub record StreamHistory : Type 0 where
  pub name : List ℕ
  pub here : Bool
  pub first : ℕ
  pub bytes : List ℕ
  pub earlier : List (List ℕ)

-- a stream with a newer content
abbrev pub add_content : List ℕ → StreamHistory → StreamHistory
add_content c s = record { name = s.name; here = s.here; first = s.first; bytes = c; earlier = s.bytes ∷ s.earlier }

-- the streams with all their contents after a change: a removal takes none away
unfoldable pub histories_after : List StreamHistory → Change → List StreamHistory
histories_after hs (Create name) = hs ++ record { name = name; here = true; first = 1; bytes = []; earlier = [] } ∷ []
histories_after hs (Write s o b) = changed (λ x. add_content (written o b x.bytes) x) s hs
histories_after hs (Cut s n) = changed (λ x. add_content (take n x.bytes) x) s hs
histories_after hs (Remove s) =
    changed (λ x. record { name = x.name; here = false; first = x.first; bytes = x.bytes; earlier = x.earlier }) s hs

-- the generation that comes after these contents: one more for each
unfoldable pub generation_after : ℕ → List (List ℕ) → ℕ
generation_after first [] = first
generation_after first (c ∷ cs) = suc (generation_after first cs)

-- of the contents that a stream has had since generation `first`, the newest first, the one of generation g
unfoldable pub content_of : ℕ → List (List ℕ) → ℕ → Option (List ℕ)
content_of first [] g = None
content_of first (c ∷ cs) g = if g == generation_after first cs then Some c else content_of first cs g

-- the content of a generation, and the present generation, of a stream that may not be there
abbrev pub content_in : Option StreamHistory → ℕ → Option (List ℕ)
content_in None g = None
content_in (Some x) g = content_of x.first (x.bytes ∷ x.earlier) g

-- the present generation of a stream, 0 of none
abbrev pub generation_in : Option StreamHistory → ℕ
generation_in None = 0
generation_in (Some x) = generation_after x.first x.earlier

-- what stream s held at generation g, and its present generation
abbrev pub content : List StreamHistory → ℕ → ℕ → Option (List ℕ)
content hs s g = content_in (numbered hs s) g

-- the present generation of a stream, by its number
abbrev pub generation_of : List StreamHistory → ℕ → ℕ
generation_of hs s = generation_in (numbered hs s)

-- the present file of a stream
abbrev pub now : StreamHistory → File
now s = record { name = s.name; here = s.here; generation = generation_after s.first s.earlier; bytes = s.bytes }

-- the stream that a change is of
abbrev pub IsOf : Change → ℕ → Type 0
IsOf (Create name) s = ⊥
IsOf (Write t o b) s = t ≡ s
IsOf (Cut t n) s = t ≡ s
IsOf (Remove t) s = t ≡ s

-- What streams hold is what their histories end with; no change takes an earlier content away; the present content is that
-- of the present generation; and a change of one stream leaves the others.
pub record Remembers : Type 0 where
  pub present : (hs : List StreamHistory) (c : Change) → map now (histories_after hs c) ≡ files_after (map now hs) c
  pub stays : (hs : List StreamHistory) (c : Change) (s g : ℕ) (bytes : List ℕ) → content hs s g ≡ Some bytes
      → content (histories_after hs c) s g ≡ Some bytes
  pub current : (hs : List StreamHistory) (s : ℕ) (f : File) → file_of (map now hs) s ≡ Some f
      → (content hs s f.generation ≡ Some f.bytes) × (f.generation ≡ generation_of hs s)
  pub others : (fs : List File) (c : Change) (s u : ℕ) → IsOf c s → u ≢ s → file_of (files_after fs c) u ≡ file_of fs u
