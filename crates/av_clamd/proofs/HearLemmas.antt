-- Bytes that are heard one after another.
use Rattle.std.proofs.Common.{ℕ, suc, ◌≡◌, ◌+◌, ◌-◌, ◌≤◌, List, [], ◌∷◌, ◌++◌, length, take, drop, true, false, cond, nat_lt, inl, inr, refl, sym, ◌∙◌, ap, arith, append_assoc, length-drop}
use Rattle.std.specs.Prelude.{Option, None, Some, is_some, max}
use Rattle.std.proofs.Math.Seq.{take-add}
use Rattle.std.proofs.lemmas.List.{append-nil, take-append-drop, length-take-le}
use Rattle.std.proofs.lemmas.Bool.{cases_lt, le-ltb, lt-ltb}
use Rattle.av_clamd.specs.declared.door.Sending.{Sending}
use Rattle.av_clamd.specs.declared.door.Handling.{Handling}
use Rattle.av_clamd.specs.declared.door.Handling.TheVariants.{Collected, Relayed, Dropped}
use Rattle.av_clamd.specs.declared.door.Heard.{Heard}
use Rattle.av_clamd.specs.declared.door.Reading.{Reading}
use Rattle.av_clamd.specs.declared.door.Reading.TheVariants.{Piece, Size}
use Rattle.av_clamd.specs.Door.{Opened, Told, by_reading, content_with, handed_out, heard_of, onto, option_told, pieced, step}
use Rattle.av_clamd.specs.Laws.{IsCutAnywhere}

-- what comes of a byte comes before what comes of the bytes behind it
pub onto_onto : (first : List Told) (x : Opened × List Told) (sending : Sending) (second : List ℕ) → onto first (onto x.1 (heard_of sending second x.0)) ≡ onto (onto first x).1 (heard_of sending second (onto first x).0)
onto_onto first x sending second = ap (λ told. ((heard_of sending second x.0).0, told)) (sym (append_assoc first x.1 (heard_of sending second x.0).1))

pub cut_anywhere : IsCutAnywhere
cut_anywhere sending [] second d = refl
cut_anywhere sending (b ∷ first) second d =
    let turn = step sending b d in
    ap (onto turn.1) (cut_anywhere sending first second turn.0) ∙ onto_onto turn.1 (heard_of sending first turn.0) sending second

-- ---- a piece at once

abbrev left_after : ℕ → ℕ → Reading
left_after count left = cond (nat_lt count left) (Piece (left - count)) Size

one_less : (n left : ℕ) → 1 ≤ left → left_after n (left - 1) ≡ left_after (suc n) left
one_less n left some =
    elim (cases_lt n (left - 1)) [
      | inl lt ↦
          let a : nat_lt n (left - 1) ≡ true = lt-ltb _ _ lt in
          let b : nat_lt (suc n) left ≡ true = lt-ltb _ _ (omega (arith, lt)) in
          let c : left - 1 - n ≡ left - suc n = omega arith in
          ap (λ t. cond t (Piece (left - 1 - n)) Size) a ∙ ap Piece c ∙ ap (λ t. cond t (Piece (left - suc n)) Size) (sym b)
      | inr le ↦
          let a : nat_lt n (left - 1) ≡ false = le-ltb _ _ le in
          let b : nat_lt (suc n) left ≡ false = le-ltb _ _ (omega (arith, le)) in
          ap (λ t. cond t (Piece (left - 1 - n)) Size) a ∙ ap (λ t. cond t (Piece (left - suc n)) Size) (sym b)
    ]

kept_after : (way : Handling) (content xs : List ℕ) (b : ℕ) → content_with way (content_with way content (b ∷ [])) xs ≡ content_with way content (b ∷ xs)
kept_after Collected content xs b = append_assoc content (b ∷ []) xs
kept_after Relayed content xs b = refl
kept_after Dropped content xs b = refl

told_after : (way : Handling) (xs : List ℕ) (b : ℕ) → handed_out way (b ∷ []) ++ handed_out way xs ≡ handed_out way (b ∷ xs)
told_after Collected xs b = refl
told_after Relayed xs b = refl
told_after Dropped xs b = refl

piece_step : (sending : Sending) (b left : ℕ) (d : Opened) → d.reading ≡ Piece left → step sending b d ≡ pieced left (b ∷ []) d
unfolding step
piece_step sending b left d is = ap (λ r. by_reading r sending b d) is

-- a piece's bytes do one after another what they do at once
piece_all : (sending : Sending) (b : ℕ) (xs : List ℕ) (left : ℕ) (d : Opened) → d.reading ≡ Piece left → length xs ≤ left - 1 → heard_of sending (b ∷ xs) d ≡ pieced left (b ∷ xs) d
piece_all sending b [] left d is few =
    let first = piece_step sending b left d is in
    ap (λ t. onto t.1 (t.0, [])) first ∙ ap (λ told. ((pieced left (b ∷ []) d).0, told)) (append-nil (handed_out d.way (b ∷ [])))
piece_all sending b (x ∷ xs) left d is few =
    let tail = x ∷ xs in
    let first = (pieced left (b ∷ []) d).0 in
    let several : nat_lt 1 left ≡ true = lt-ltb _ _ (omega (arith, few)) in
    let reading : first.reading ≡ Piece (left - 1) = ap (λ t. cond t (Piece (left - 1)) Size) several in
    let others = piece_all sending x xs (left - 1) first reading (omega (arith, few)) in
    ap (λ t. onto t.1 (heard_of sending tail t.0)) (piece_step sending b left d is)
    ∙ ap (onto (handed_out d.way (b ∷ []))) others
    ∙ ap (λ r. onto (handed_out d.way (b ∷ [])) (record d { reading = r; content = content_with d.way first.content tail }, handed_out d.way tail)) (one_less (length tail) left (omega (arith, few)))
    ∙ ap (λ c. onto (handed_out d.way (b ∷ [])) (record d { reading = left_after (suc (length tail)) left; content = c }, handed_out d.way tail)) (kept_after d.way d.content tail b)
    ∙ ap (λ told. ((pieced left (b ∷ tail) d).0, told)) (told_after d.way tail b)

pub piece_whole : (sending : Sending) (xs : List ℕ) (left : ℕ) (d : Opened) → d.reading ≡ Piece left → 1 ≤ length xs → length xs ≤ max left 1 → heard_of sending xs d ≡ pieced left xs d
piece_whole sending [] left d is some few = absurd (omega (arith, some))
piece_whole sending (b ∷ xs) left d is some few = piece_all sending b xs left d is (omega (arith, few))

pub piece_taken : (sending : Sending) (rest : List ℕ) (n left : ℕ) (d new : Opened) (told : List Told) → d.reading ≡ Piece left → 1 ≤ n → n ≤ max left 1 → n ≤ length rest → (new, told) ≡ pieced left (take n rest) d → heard_of sending (take n rest) d ≡ (new, told)
piece_taken sending rest n left d new told is some few there same =
    let len : length (take n rest) ≡ n = length-take-le n rest there in
    piece_whole sending (take n rest) left d is (omega (arith, len, some)) (omega (arith, len, few)) ∙ sym same

-- ---- bytes that were taken

-- some bytes, and then some more, where nothing came of the first
pub more_taken : (sending : Sending) (bytes rest : List ℕ) (n k : ℕ) (d mid new : Opened) (told : List Told) → rest ≡ drop n bytes → heard_of sending (take n bytes) d ≡ (mid, []) → heard_of sending (take k rest) mid ≡ (new, told) → heard_of sending (take (n + k) bytes) d ≡ (new, told)
more_taken sending bytes rest n k d mid new told is first second =
    ap (λ bs. heard_of sending bs d) (take-add n k bytes)
    ∙ cut_anywhere sending (take n bytes) (take k (drop n bytes)) d
    ∙ ap (λ t. onto t.1 (heard_of sending (take k (drop n bytes)) t.0)) first
    ∙ ap (λ bs. heard_of sending (take k bs) mid) (sym is)
    ∙ second

pub within_all : (bytes rest : List ℕ) (n k : ℕ) → rest ≡ drop n bytes → n ≤ length bytes → k ≤ length rest → n + k ≤ length bytes
within_all bytes rest n k is within few = let len : length rest ≡ length bytes - n = ap length is ∙ length-drop n bytes in omega (arith, within, few, len)

pub none_told : (o : Option Heard) → is_some o ≡ false → option_told o ≡ []
none_told None e = refl
none_told (Some h) e = absurd cc

-- what came of bytes, and then what the rest gives, is what all give
pub rest_heard : (sending : Sending) (bytes : List ℕ) (n : ℕ) (d new : Opened) (told : List Told) → heard_of sending (take n bytes) d ≡ (new, told) → onto told (heard_of sending (drop n bytes) new) ≡ heard_of sending bytes d
rest_heard sending bytes n d new told taken =
    ap (λ t. onto t.1 (heard_of sending (drop n bytes) t.0)) (sym taken)
    ∙ sym (cut_anywhere sending (take n bytes) (drop n bytes) d)
    ∙ ap (λ bs. heard_of sending bs d) (take-append-drop n bytes)
