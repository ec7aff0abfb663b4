-- How much a door keeps.
use Rattle.std.proofs.Common.{ℕ, ◌≡◌, ◌+◌, ◌-◌, ◌<◌, ◌≤◌, List, [], ◌∷◌, ◌++◌, length, take, Bool, true, false, cond, nat_eq, nat_lt, not, ◌&&◌, refl, sym, ap, subst, arith, length-append}
use Rattle.std.specs.Prelude.{Option, Some, None, codes}
use Rattle.std.specs.List.{AllByRecursion}
use Rattle.std.specs.Int.{w32, from_be_bytes}
use Rattle.std.specs.Str.{bytes_eq}
use Rattle.std.proofs.lemmas.Bool.{ltb-true, ltb-false}
use Rattle.std.proofs.lemmas.Bool.Decides.{nat_tests}
use Rattle.av_clamd.specs.declared.door.Reading.TheVariants.{Command, Size, Piece, Nothing}
use Rattle.av_clamd.specs.declared.door.Sending.{Sending}
use Rattle.av_clamd.specs.declared.door.Sending.TheVariants.{Whole, InParts}
use Rattle.av_clamd.specs.declared.door.Handling.{Handling}
use Rattle.av_clamd.specs.declared.door.Handling.TheVariants.{Collected, Relayed, Dropped}
use Rattle.av_clamd.specs.declared.door.TheConstants.{LONGEST, MAX_CONTENT, MOST_KEPT}
use Rattle.av_clamd.specs.Text.{answered, end_of, is_marked, path_taken, word_of}
use Rattle.av_clamd.specs.Door.{Opened, Told, answers, by_reading, by_way, content_with, enlarged, finished, goes_in_parts, asks_about, handed_out, heard_of, in_command, in_size, next_number, obeyed, sized, step, told_at_end}
use Rattle.av_clamd.specs.Laws.{BeginsLittle, HasLeft, HoldsNone, IsSmall, KeepsAtMost, KeepsTo, StaysLess, StaysLittle, coming}

pub begins_little : BeginsLittle
begins_little = ((omega arith, omega arith, tt, tt), (omega arith, omega arith, tt, tt))

-- a content that is not told to go in parts, and not too long, has no more than so many bytes with its next piece
abbrev IsBound : ℕ → Sending → Type 0
IsBound most sending = (kept size : ℕ) → kept ≤ most → goes_in_parts sending kept size ≡ false → nat_lt MAX_CONTENT (kept + size) ≡ false → kept + size ≤ most

-- what came is small
abbrev AreSmall : ℕ → List Told → Type 0
AreSmall most told = AllByRecursion (IsSmall most) told

abbrev IsGood : ℕ → Opened × List Told → Type 0
IsGood most turn = KeepsAtMost most turn.0 × AreSmall most turn.1

either : (most : ℕ) (b : Bool) (x y : Opened × List Told) → (b ≡ true → IsGood most x) → (b ≡ false → IsGood most y) → IsGood most (cond b x y)
either most true x y yes_good no_good = yes_good refl
either most false x y yes_good no_good = no_good refl

-- a door whose command and content are within their limits, where no piece is read
abbrev IsCalm : ℕ → Opened → Type 0
IsCalm most d = (length d.begun < LONGEST) × (length d.content ≤ most) × HoldsNone d.way d.content

calm : (most : ℕ) (d : Opened) → KeepsAtMost most d → IsCalm most d
calm most d little = (little.0, omega (arith, little.1), little.3)

after_coming : (session : Bool) (way : Handling) → coming (cond session Command Nothing) way ≡ 0
after_coming true way = refl
after_coming false way = refl

after_left : (session : Bool) → HasLeft (cond session Command Nothing)
after_left true = tt
after_left false = tt

answers_good : (most : ℕ) (o : Option (List ℕ)) (d : Opened) → IsCalm most d → IsGood most (answers o d)
answers_good most (Some text) d is = ((is.0, omega (arith, is.1, after_coming d.session d.way), after_left d.session, is.2), (tt, tt))
answers_good most None d is = ((is.0, omega (arith, is.1), tt, is.2), (tt, tt))

asks_good : (most : ℕ) (o : Option (List ℕ)) (word : List ℕ) (d : Opened) → IsCalm most d → IsGood most (asks_about o word d)
asks_good most (Some path) word d is = ((is.0, omega (arith, is.1, after_coming d.session d.way), after_left d.session, is.2), (tt, tt))
asks_good most None word d is = answers_good most (answered d.about d.paths word) d is

obeyed_good : (most : ℕ) (marked : Bool) (word : List ℕ) (d : Opened) → IsCalm most d → IsGood most (obeyed marked word d)
obeyed_good most marked word d is =
    either most (bytes_eq word (codes "INSTREAM") && marked) _ _ (λ e. ((is.0, omega arith, tt, tt), tt))
    (λ e. either most (bytes_eq word (codes "IDSESSION") && marked && not d.session) _ _ (λ e. ((is.0, omega (arith, is.1), tt, is.2), tt))
    (λ e. either most (bytes_eq word (codes "END") && d.session) _ _ (λ e. ((is.0, omega (arith, is.1), tt, is.2), tt))
    (λ e. asks_good most (path_taken d.paths word) word d is)))

command_good : (most b : ℕ) (d : Opened) → IsCalm most d → d.reading ≡ Command → IsGood most (in_command b d)
command_good most b d is reading =
    let still : (bs : List ℕ) → length bs < LONGEST → KeepsAtMost most (record d { begun = bs }) =
    λ bs short. (short, let none : coming d.reading d.way ≡ 0 = ap (λ r. coming r d.way) reading in omega (arith, is.1, none), subst HasLeft (sym reading) tt, is.2) in
    either most (nat_eq b (end_of d.begun)) _ _
    (λ e. obeyed_good most (is_marked d.begun) (word_of d.begun) (record d { begun = []; number = next_number d; end = end_of d.begun }) (omega arith, is.1, is.2))
    (λ e. either most (nat_lt (length d.begun + 1) LONGEST) _ _
    (λ t. (still (d.begun ++ b ∷ []) (omega (arith, length-append d.begun (b ∷ []), ltb-true _ _ t)), tt))
    (λ t. ((is.0, omega (arith, is.1), tt, is.2), tt)))

told_small : (most : ℕ) (way : Handling) (d : Opened) → length d.content ≤ most → AreSmall most (told_at_end way d)
told_small most Collected d is = (is, tt)
told_small most Relayed d is = (tt, tt)
told_small most Dropped d is = tt

finished_good : (most : ℕ) (d : Opened) → IsCalm most d → IsGood most (finished d)
finished_good most d is = ((is.0, omega (arith, after_coming d.session Collected), after_left d.session, tt), told_small most d.way d is.1)

not_none : (size : ℕ) → nat_eq size 0 ≡ false → 1 ≤ size
not_none size e = grind (arith, nat_tests)

-- what goes in parts was small so far
first_small : (sending : Sending) (kept size : ℕ) → goes_in_parts sending kept size ≡ true → kept ≤ MOST_KEPT
first_small Whole kept size e = absurd cc
first_small InParts kept size e = grind (arith, nat_tests)

enlarged_good : (most : ℕ) (sending : Sending) → IsBound most sending → (size : ℕ) (d : Opened) → IsCalm most d → d.way ≡ Collected → 1 ≤ size → IsGood most (enlarged sending size d)
enlarged_good most sending bound size d is way some =
    either most (goes_in_parts sending (length d.content) size) _ _ (λ e. ((is.0, omega arith, some, refl), (first_small sending (length d.content) size e, tt)))
    (λ not_parts. either most (nat_lt MAX_CONTENT (length d.content + size)) _ _ (λ e. ((is.0, omega arith, some, refl), (tt, tt)))
    (λ fits.
    let all : coming (Piece size) d.way ≡ size = ap (coming (Piece size)) way in
    ((is.0, omega (arith, bound (length d.content) size is.1 not_parts fits, all), some, is.2), tt)))

by_way_good : (most : ℕ) (sending : Sending) → IsBound most sending → (way : Handling) (size : ℕ) (d : Opened) → IsCalm most d → d.way ≡ way → 1 ≤ size → IsGood most (by_way way sending size d)
by_way_good most sending bound Collected size d is way some = enlarged_good most sending bound size d is way some
by_way_good most sending bound Relayed size d is way some =
    let none : coming (Piece size) d.way ≡ 0 = ap (coming (Piece size)) way in
    ((is.0, omega (arith, is.1, none), some, is.2), tt)
by_way_good most sending bound Dropped size d is way some =
    let none : coming (Piece size) d.way ≡ 0 = ap (coming (Piece size)) way in
    ((is.0, omega (arith, is.1, none), some, is.2), tt)

sized_good : (most : ℕ) (sending : Sending) → IsBound most sending → (size : ℕ) (d : Opened) → IsCalm most d → IsGood most (sized sending size d)
sized_good most sending bound size d is =
    either most (nat_eq size 0) _ _ (λ e. finished_good most d is)
    (λ some. by_way_good most sending bound d.way size d is refl (not_none size some))

size_good : (most : ℕ) (sending : Sending) → IsBound most sending → (b : ℕ) (d : Opened) → IsCalm most d → d.reading ≡ Size → IsGood most (in_size sending b d)
size_good most sending bound b d is reading =
    let none : coming d.reading d.way ≡ 0 = ap (λ r. coming r d.way) reading in
    either most (nat_lt (length d.begun + 1) 4) _ _
    (λ t. ((omega (arith, length-append d.begun (b ∷ []), ltb-true _ _ t), omega (arith, is.1, none), subst HasLeft (sym reading) tt, is.2), tt))
    (λ t. sized_good most sending bound (from_be_bytes w32 (take 4 (d.begun ++ b ∷ []))) (record d { begun = [] }) (omega arith, is.1, is.2))

-- a byte of a piece takes the place that was kept for it
piece_good : (most left b : ℕ) (content : List ℕ) (way : Handling) → length content + coming (Piece left) way ≤ most → 1 ≤ left → length (content_with way content (b ∷ [])) + coming (cond (nat_lt 1 left) (Piece (left - 1)) Size) way ≤ most
piece_good most left b content Collected little some =
    let less : coming (cond (nat_lt 1 left) (Piece (left - 1)) Size) Collected ≤ left - 1 = elim (nat_lt 1 left) as (λ t. coming (cond t (Piece (left - 1)) Size) Collected ≤ left - 1) [ true ↦ omega arith | false ↦ omega arith ] in
    omega (arith, little, less, some, length-append content (b ∷ []))
piece_good most left b content Relayed little some =
    let none : coming (cond (nat_lt 1 left) (Piece (left - 1)) Size) Relayed ≡ 0 = elim (nat_lt 1 left) as (λ t. coming (cond t (Piece (left - 1)) Size) Relayed ≡ 0) [ true ↦ refl | false ↦ refl ] in
    omega (arith, little, none)
piece_good most left b content Dropped little some =
    let none : coming (cond (nat_lt 1 left) (Piece (left - 1)) Size) Dropped ≡ 0 = elim (nat_lt 1 left) as (λ t. coming (cond t (Piece (left - 1)) Size) Dropped ≡ 0) [ true ↦ refl | false ↦ refl ] in
    omega (arith, little, none)

piece_left : (left : ℕ) → HasLeft (cond (nat_lt 1 left) (Piece (left - 1)) Size)
piece_left left =
    (elim (nat_lt 1 left) as (λ t. nat_lt 1 left ≡ t → HasLeft (cond t (Piece (left - 1)) Size)) [
      | true ↦ λ e. omega (arith, ltb-true _ _ e)
      | false ↦ λ e. tt
    ]) refl

still_none : (way : Handling) (content bytes : List ℕ) → HoldsNone way content → HoldsNone way (content_with way content bytes)
still_none Collected content bytes none = tt
still_none Relayed content bytes none = none
still_none Dropped content bytes none = none

out_small : (most b : ℕ) (way : Handling) → AreSmall most (handed_out way (b ∷ []))
out_small most b Collected = tt
out_small most b Relayed = (tt, tt)
out_small most b Dropped = tt

step_good : (most : ℕ) (sending : Sending) → IsBound most sending → (b : ℕ) (d : Opened) → KeepsAtMost most d → IsGood most (step sending b d)
unfolding step
step_good most sending bound b d little =
    (elim d.reading as (λ r. d.reading ≡ r → IsGood most (by_reading r sending b d)) [
      | Command ↦ λ e. command_good most b d (calm most d little) e
      | Size ↦ λ e. size_good most sending bound b d (calm most d little) e
      | Piece left ↦ λ e.
          let fits : length d.content + coming (Piece left) d.way ≤ most = subst (λ r. length d.content + coming r d.way ≤ most) e little.1 in
          let some : 1 ≤ left = subst HasLeft e little.2 in
          ((little.0, piece_good most left b d.content d.way fits some, piece_left left, still_none d.way d.content (b ∷ []) little.3), out_small most b d.way)
      | Nothing ↦ λ e. (little, tt)
    ]) refl

small_onto : (most : ℕ) (first second : List Told) → AreSmall most first → AreSmall most second → AreSmall most (first ++ second)
small_onto most [] second a b = b
small_onto most (t ∷ first) second a b = (a.0, small_onto most first second a.1 b)

keeps_to : (most : ℕ) (sending : Sending) → IsBound most sending → KeepsTo most sending
keeps_to most sending bound [] d little = (little, tt)
keeps_to most sending bound (b ∷ bs) d little =
    let turn = step_good most sending bound b d little in
    let rest = keeps_to most sending bound bs (step sending b d).0 turn.0 in
    (rest.0, small_onto most (step sending b d).1 (heard_of sending bs (step sending b d).0).1 turn.1 rest.1)

pub stays_little : StaysLittle
stays_little sending = keeps_to MAX_CONTENT sending (λ kept size few not_parts fits. ltb-false _ _ fits)

parts_bound : IsBound MOST_KEPT InParts
parts_bound kept size few not_parts fits = grind (arith, nat_tests)

pub stays_less : StaysLess
stays_less = keeps_to MOST_KEPT InParts parts_bound
