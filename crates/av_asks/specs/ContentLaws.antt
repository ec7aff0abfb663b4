-- What a client says in parts is read as itself, however it is cut.
use Rattle.std.specs.Prelude.{ℕ, ◌≡◌, ◌+◌, ◌<◌, ◌≤◌, ◌^◌, List, [], ◌∷◌, ◌++◌, length, Option, Some}
use Rattle.av_asks.specs.declared.client_reader.Content.{Content}
use Rattle.av_asks.specs.declared.contents.How.{How}
use Rattle.av_asks.specs.declared.sizes.TheConstants.{MAX_COUNT, MAX_LABEL, MAX_PART}
use Rattle.av_asks.specs.Contents.{Asks, Begins, Brings, Ends, Watches, begin_body, bytewise, end_frame, part_body, watch_body}
use Rattle.av_asks.specs.Speaking.{Speaking, after, fresh, heard_of, left_of}
use Rattle.av_asks.specs.Spelling.{Asked, IsAsk, ask_frame, framed}

-- two pieces do what both together do
abbrev pub IsCutAnywhere : Type 0
IsCutAnywhere =
    (first second : List ℕ) (s : Speaking) → heard_of (first ++ second) s ≡ after (heard_of first s).1 (heard_of second (heard_of first s).0)

-- a reader between frames, within this content if any
abbrev pub within : Option Content → Speaking
within content = record fresh { content = content }

-- a content that begins
abbrev pub begun : ℕ → Content
begun tag = record { tag = tag; count = 0; left = 0 }

abbrev pub BeginsAreReadBack : Type 0
BeginsAreReadBack =
    (tag : ℕ) (label : List ℕ) → tag < 2 ^ 64 → length label ≤ MAX_LABEL
    → heard_of (framed (begin_body tag label)) fresh ≡ (within (Some (begun tag)), Begins tag label ∷ [])

-- some of an open content, between whose parts: first that it begins, and then its bytes
abbrev pub PartsAreReadBack : Type 0
PartsAreReadBack =
    (tag count : ℕ) (some : List ℕ) → tag < 2 ^ 64 → 1 ≤ length some → length some ≤ MAX_PART → count + length some ≤ MAX_COUNT
    → heard_of (framed (part_body tag some)) (within (Some (record { tag = tag; count = count; left = 0 })))
    ≡ (within (Some (record { tag = tag; count = count + length some; left = 0 })), Brings tag [] ∷ bytewise (Brings tag some))

abbrev pub EndsAreReadBack : Type 0
EndsAreReadBack =
    (tag count : ℕ) (how : How) → tag < 2 ^ 64 → count < 2 ^ 64
    → heard_of (end_frame tag how count) (within (Some (record { tag = tag; count = count; left = 0 }))) ≡ (fresh, Ends tag how ∷ [])

-- an ask is read within a content as outside of one
abbrev pub AsksAreReadBack : Type 0
AsksAreReadBack =
    (a : Asked) (content : Option Content) → IsAsk a → left_of content ≡ 0
    → heard_of (ask_frame a) (within content) ≡ (within content, Asks a ∷ [])

-- so is what asks for a newer version
abbrev pub WatchesAreReadBack : Type 0
WatchesAreReadBack =
    (tag version : ℕ) (content : Option Content) → tag < 2 ^ 64 → version < 2 ^ 64 → left_of content ≡ 0
    → heard_of (framed (watch_body tag version)) (within content) ≡ (within content, Watches tag version ∷ [])
