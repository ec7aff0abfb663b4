-- A content that is sent whole, in pieces.
use Rattle.std.proofs.Common.{ℕ, ◌≡◌, ◌+◌, ◌-◌, ◌<◌, ◌≤◌, ◌^◌, List, [], ◌∷◌, ◌++◌, length, Bool, true, false, cond, nat_eq, nat_le, nat_lt, ◌&&◌, inl, inr, refl, sym, ◌∙◌, ap, arith, append_assoc, length-append}
use Rattle.std.specs.Prelude.{map}
use Rattle.std.specs.Int.{w32, from_be_bytes, to_be_bytes}
use Rattle.std.specs.List.{concat}
use Rattle.std.proofs.lemmas.List.{append-nil, map-append}
use Rattle.std.proofs.lemmas.Nat.{from_be_bytes-to_be_bytes_4}
use Rattle.std.proofs.lemmas.Bool.{cases_lt, le-ltb}
use Rattle.std.proofs.lemmas.Bool.Decides.{nat_tests}
use Rattle.av_clamd.specs.declared.door.Sending.{Sending}
use Rattle.av_clamd.specs.declared.door.Sending.TheVariants.{Whole, InParts}
use Rattle.av_clamd.specs.declared.door.Handling.{Handling}
use Rattle.av_clamd.specs.declared.door.Handling.TheVariants.{Collected, Relayed}
use Rattle.av_clamd.specs.declared.door.Reading.TheVariants.{Piece, Size}
use Rattle.av_clamd.specs.declared.door.TheConstants.{MAX_CONTENT, MOST_KEPT}
use Rattle.av_clamd.specs.Door.{Opened, Told, Asked, Began, Brought, Ended, by_way, content_with, enlarged, goes_in_parts, handed_out, heard_of, onto, sized, step}
use Rattle.av_clamd.specs.Laws.{ArePieces, AsksAboutTheWhole, PartsAreTheWhole, behind_content, most_of, spelled}
use Rattle.av_clamd.proofs.HearLemmas.{cut_anywhere, piece_whole}

-- a door that reads a length, of a content of which this came
abbrev at_length : List ℕ → Handling → Opened → Opened
at_length content way d = record d { reading = Size; begun = []; content = content; way = way }

-- a door that reads a piece of it
abbrev at_piece : ℕ → List ℕ → Handling → Opened → Opened
at_piece left content way d = record d { reading = Piece left; begun = []; content = content; way = way }

-- ---- a length

four_read : (sending : Sending) (a b c e : ℕ) (more content : List ℕ) (way : Handling) (d : Opened) → heard_of sending (a ∷ b ∷ c ∷ e ∷ more) (at_length content way d) ≡ onto (sized sending (from_be_bytes w32 (a ∷ b ∷ c ∷ e ∷ [])) (at_length content way d)).1 (heard_of sending more (sized sending (from_be_bytes w32 (a ∷ b ∷ c ∷ e ∷ [])) (at_length content way d)).0)
unfolding step
four_read sending a b c e more content way d = refl

length_read : (sending : Sending) (n : ℕ) (more content : List ℕ) (way : Handling) (d : Opened) → n < 2 ^ 32 → heard_of sending (to_be_bytes w32 n ++ more) (at_length content way d) ≡ onto (sized sending n (at_length content way d)).1 (heard_of sending more (sized sending n (at_length content way d)).0)
length_read sending n more content way d fits =
    four_read sending _ _ _ _ more content way d
    ∙ ap (λ k. onto (sized sending k (at_length content way d)).1 (heard_of sending more (sized sending k (at_length content way d)).0)) (from_be_bytes-to_be_bytes_4 n fits)

-- the length of a piece leads to a turn
size_read : (sending : Sending) (n : ℕ) (more content : List ℕ) (way : Handling) (d : Opened) (turn : Opened × List Told) → 1 ≤ n → n < 2 ^ 32 → by_way way sending n (at_length content way d) ≡ turn → heard_of sending (to_be_bytes w32 n ++ more) (at_length content way d) ≡ onto turn.1 (heard_of sending more turn.0)
size_read sending n more content way d turn some fits is =
    let not_none : nat_eq n 0 ≡ false = grind (arith, nat_tests, some) in
    let sizes : sized sending n (at_length content way d) ≡ turn = rw not_none is in
    length_read sending n more content way d fits ∙ ap (λ t. onto t.1 (heard_of sending more t.0)) sizes

-- ---- a piece

piece_read : (sending : Sending) (p more content : List ℕ) (way : Handling) (d : Opened) → 1 ≤ length p → heard_of sending (p ++ more) (at_piece (length p) content way d) ≡ onto (handed_out way p) (heard_of sending more (at_length (content_with way content p) way d))
piece_read sending p more content way d some =
    let start = at_piece (length p) content way d in
    let last : nat_lt (length p) (length p) ≡ false = le-ltb _ _ (omega arith) in
    cut_anywhere sending p more start
    ∙ ap (λ t. onto t.1 (heard_of sending more t.0)) (piece_whole sending p (length p) start refl some (omega arith))
    ∙ ap (λ t. onto (handed_out way p) (heard_of sending more (record start { reading = cond t (Piece (length p - length p)) Size; content = content_with way content p }))) last

-- ---- a content that comes in parts

-- a piece of it, and all behind
parts_behind : (p : List ℕ) (pieces : List (List ℕ)) (d : Opened) → 1 ≤ length p → heard_of InParts (spelled pieces) (at_length [] Relayed d) ≡ (behind_content d, map Brought (concat pieces) ++ Ended ∷ []) → heard_of InParts (p ++ spelled pieces) (at_piece (length p) [] Relayed d) ≡ (behind_content d, map Brought (concat (p ∷ pieces)) ++ Ended ∷ [])
parts_behind p pieces d some others =
    piece_read InParts p (spelled pieces) [] Relayed d some
    ∙ ap (onto (map Brought p)) others
    ∙ ap (λ told. (behind_content d, told)) (sym (append_assoc (map Brought p) (map Brought (concat pieces)) (Ended ∷ [])) ∙ ap (λ told. told ++ Ended ∷ []) (sym (map-append Brought p (concat pieces))))

parts_read : (pieces : List (List ℕ)) (d : Opened) → ArePieces pieces → heard_of InParts (spelled pieces) (at_length [] Relayed d) ≡ (behind_content d, map Brought (concat pieces) ++ Ended ∷ [])
parts_read [] d are = length_read InParts 0 [] [] Relayed d (omega arith)
parts_read (p ∷ pieces) d are =
    size_read InParts (length p) (p ++ spelled pieces) [] Relayed d (at_piece (length p) [] Relayed d, []) are.0.0 are.0.1 refl
    ∙ parts_behind p pieces d are.0.0 (parts_read pieces d are.1)

-- ---- a content that is collected

and_false : (a b : Bool) → b ≡ false → (a && b) ≡ false
and_false true b e = e
and_false false b e = refl

-- the next piece is collected
stays_whole : (sending : Sending) (kept size : ℕ) → kept + size ≤ most_of sending → goes_in_parts sending kept size ≡ false
stays_whole Whole kept size few = refl
stays_whole InParts kept size few = and_false (nat_le kept MOST_KEPT) _ (le-ltb _ _ few)

is_short : (sending : Sending) (kept size : ℕ) → kept + size ≤ most_of sending → nat_lt MAX_CONTENT (kept + size) ≡ false
is_short Whole kept size few = le-ltb _ _ few
is_short InParts kept size few = le-ltb _ _ (omega (arith, few))

collects : (sending : Sending) (n : ℕ) (content : List ℕ) (d : Opened) → length content + n ≤ most_of sending → enlarged sending n (at_length content Collected d) ≡ (at_piece n content Collected d, [])
collects sending n content d few =
    let a = stays_whole sending (length content) n few in
    let b = is_short sending (length content) n few in
    rw (a, b) refl

-- a piece is read and collected
collected_behind : (sending : Sending) (p content : List ℕ) (pieces : List (List ℕ)) (d : Opened) → (1 ≤ length p) × (length p < 2 ^ 32) → length content + length p ≤ most_of sending → heard_of sending (spelled (p ∷ pieces)) (at_length content Collected d) ≡ heard_of sending (spelled pieces) (at_length (content ++ p) Collected d)
collected_behind sending p content pieces d is few =
    size_read sending (length p) (p ++ spelled pieces) content Collected d (at_piece (length p) content Collected d, []) is.0 is.1 (collects sending (length p) content d few)
    ∙ piece_read sending p (spelled pieces) content Collected d is.0

collected_read : (sending : Sending) (content : List ℕ) (pieces : List (List ℕ)) (d : Opened) → ArePieces pieces → length content + length (concat pieces) ≤ most_of sending → heard_of sending (spelled pieces) (at_length content Collected d) ≡ (behind_content d, Asked d.number d.end (content ++ concat pieces) ∷ [])
collected_read sending content [] d are few =
    length_read sending 0 [] content Collected d (omega arith)
    ∙ ap (λ c. (behind_content d, Asked d.number d.end c ∷ [])) (sym (append-nil content))
collected_read sending content (p ∷ pieces) d are few =
    let all = length-append p (concat pieces) in
    let joined = length-append content p in
    collected_behind sending p content pieces d are.0 (omega (arith, few, all))
    ∙ collected_read sending (content ++ p) pieces d are.1 (omega (arith, few, all, joined))
    ∙ ap (λ c. (behind_content d, Asked d.number d.end c ∷ [])) (append_assoc content p (concat pieces))

pub asks_about_the_whole : AsksAboutTheWhole
asks_about_the_whole sending pieces d are few = collected_read sending [] pieces d are (omega (arith, few))

-- ---- a content that grows too large to be collected

begins : (n : ℕ) (content : List ℕ) (d : Opened) → length content ≤ MOST_KEPT → MOST_KEPT < length content + n → enlarged InParts n (at_length content Collected d) ≡ (at_piece n [] Relayed d, Began d.number d.end content ∷ [])
begins n content d few many =
    let a : goes_in_parts InParts (length content) n ≡ true = grind (arith, nat_tests, few, many) in
    rw a refl

abbrev ComesInParts : List ℕ → Opened → Opened × List Told → Type 0
ComesInParts content d turn =
    (first rest : List ℕ) × (first ++ rest ≡ content) × (turn ≡ (behind_content d, Began d.number d.end first ∷ (map Brought rest ++ Ended ∷ [])))

comes_alike : (all same : List ℕ) (d : Opened) (turn last : Opened × List Told) → all ≡ same → turn ≡ last → ComesInParts all d last → ComesInParts same d turn
comes_alike all same d turn last e f c = (c.0, c.1, c.2 ∙ e, f ∙ c.3)

-- the piece that makes it too large is read
begun_read : (p content : List ℕ) (pieces : List (List ℕ)) (d : Opened) → ArePieces (p ∷ pieces) → length content ≤ MOST_KEPT → MOST_KEPT < length content + length p → heard_of InParts (spelled (p ∷ pieces)) (at_length content Collected d) ≡ (behind_content d, Began d.number d.end content ∷ (map Brought (p ++ concat pieces) ++ Ended ∷ []))
begun_read p content pieces d are few many =
    size_read InParts (length p) (p ++ spelled pieces) content Collected d (at_piece (length p) [] Relayed d, Began d.number d.end content ∷ []) are.0.0 are.0.1 (begins (length p) content d few many)
    ∙ ap (onto (Began d.number d.end content ∷ [])) (parts_behind p pieces d are.0.0 (parts_read pieces d are.1))

grown_read : (content : List ℕ) (pieces : List (List ℕ)) (d : Opened) → ArePieces pieces → length content ≤ MOST_KEPT → MOST_KEPT < length content + length (concat pieces) → ComesInParts (content ++ concat pieces) d (heard_of InParts (spelled pieces) (at_length content Collected d))
grown_read content [] d are few many = absurd (omega (arith, few, many))
grown_read content (p ∷ pieces) d are few many =
    elim (cases_lt MOST_KEPT (length content + length p)) [
      | inl lt ↦ (content, p ++ concat pieces, refl, begun_read p content pieces d are few lt)
      | inr le ↦
          let all = length-append p (concat pieces) in
          let joined = length-append content p in
          let others = grown_read (content ++ p) pieces d are.1 (omega (arith, joined, le)) (omega (arith, joined, all, many)) in
          comes_alike _ _ d _ _ (append_assoc content p (concat pieces)) (collected_behind InParts p content pieces d are.0 le) others
    ]

pub parts_are_the_whole : PartsAreTheWhole
parts_are_the_whole pieces d are many = grown_read [] pieces d are (omega arith) (omega (arith, many))
