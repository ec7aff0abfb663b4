-- A door that refuses paths.
use Rattle.std.proofs.Common.{ℕ, ◌≡◌, ◌+◌, List, [], ◌∷◌, ◌++◌, length, take, Bool, true, false, cond, nat_eq, nat_lt, not, ◌&&◌, sym, ap, subst}
use Rattle.std.specs.Prelude.{Option, Some, None, codes}
use Rattle.std.specs.List.{AllByRecursion}
use Rattle.std.specs.Int.{w32, from_be_bytes}
use Rattle.std.specs.Str.{bytes_eq}
use Rattle.av_clamd.specs.declared.door.Reading.TheVariants.{Command, Size, Piece, Nothing}
use Rattle.av_clamd.specs.declared.door.Sending.{Sending}
use Rattle.av_clamd.specs.declared.door.Handling.{Handling}
use Rattle.av_clamd.specs.declared.door.Handling.TheVariants.{Collected, Relayed, Dropped}
use Rattle.av_clamd.specs.declared.door.TheConstants.{LONGEST, MAX_CONTENT}
use Rattle.av_clamd.specs.declared.text.Paths.TheVariants.{Refused}
use Rattle.av_clamd.specs.Text.{answered, end_of, is_marked, path_taken, word_of}
use Rattle.av_clamd.specs.Door.{Opened, Told, answers, asks_about, by_reading, by_way, enlarged, goes_in_parts, handed_out, heard_of, in_command, in_size, next_number, obeyed, sized, step, told_at_end}
use Rattle.av_clamd.specs.Laws.{HandsNoPathOut, IsNoPath}

abbrev HasNone : List Told → Type 0
HasNone told = AllByRecursion IsNoPath told

abbrev IsGood : Opened × List Told → Type 0
IsGood turn = (turn.0.paths ≡ Refused) × HasNone turn.1

either : (b : Bool) (x y : Opened × List Told) → IsGood x → IsGood y → IsGood (cond b x y)
either true x y yes_good no_good = yes_good
either false x y yes_good no_good = no_good

answers_good : (o : Option (List ℕ)) (d : Opened) → d.paths ≡ Refused → IsGood (answers o d)
answers_good (Some text) d is = (is, (tt, tt))
answers_good None d is = (is, (tt, tt))

asks_good : (word : List ℕ) (d : Opened) → d.paths ≡ Refused → IsGood (asks_about (path_taken d.paths word) word d)
asks_good word d is = subst (λ o. IsGood (asks_about o word d)) (sym (ap (λ p. path_taken p word) is)) (answers_good (answered d.about d.paths word) d is)

obeyed_good : (marked : Bool) (word : List ℕ) (d : Opened) → d.paths ≡ Refused → IsGood (obeyed marked word d)
obeyed_good marked word d is =
    either (bytes_eq word (codes "INSTREAM") && marked) _ _ (is, tt)
    (either (bytes_eq word (codes "IDSESSION") && marked && not d.session) _ _ (is, tt)
    (either (bytes_eq word (codes "END") && d.session) _ _ (is, tt) (asks_good word d is)))

command_good : (b : ℕ) (d : Opened) → d.paths ≡ Refused → IsGood (in_command b d)
command_good b d is =
    either (nat_eq b (end_of d.begun)) _ _
    (obeyed_good (is_marked d.begun) (word_of d.begun) (record d { begun = []; number = next_number d; end = end_of d.begun }) is)
    (either (nat_lt (length d.begun + 1) LONGEST) _ _ (is, tt) (is, tt))

told_none : (way : Handling) (d : Opened) → HasNone (told_at_end way d)
told_none Collected d = (tt, tt)
told_none Relayed d = (tt, tt)
told_none Dropped d = tt

enlarged_good : (sending : Sending) (size : ℕ) (d : Opened) → d.paths ≡ Refused → IsGood (enlarged sending size d)
enlarged_good sending size d is =
    either (goes_in_parts sending (length d.content) size) _ _ (is, (tt, tt))
    (either (nat_lt MAX_CONTENT (length d.content + size)) _ _ (is, (tt, tt)) (is, tt))

by_way_good : (way : Handling) (sending : Sending) (size : ℕ) (d : Opened) → d.paths ≡ Refused → IsGood (by_way way sending size d)
by_way_good Collected sending size d is = enlarged_good sending size d is
by_way_good Relayed sending size d is = (is, tt)
by_way_good Dropped sending size d is = (is, tt)

sized_good : (sending : Sending) (size : ℕ) (d : Opened) → d.paths ≡ Refused → IsGood (sized sending size d)
sized_good sending size d is = either (nat_eq size 0) _ _ (is, told_none d.way d) (by_way_good d.way sending size d is)

size_good : (sending : Sending) (b : ℕ) (d : Opened) → d.paths ≡ Refused → IsGood (in_size sending b d)
size_good sending b d is =
    either (nat_lt (length d.begun + 1) 4) _ _ (is, tt)
    (sized_good sending (from_be_bytes w32 (take 4 (d.begun ++ b ∷ []))) (record d { begun = [] }) is)

out_none : (b : ℕ) (way : Handling) → HasNone (handed_out way (b ∷ []))
out_none b Collected = tt
out_none b Relayed = (tt, tt)
out_none b Dropped = tt

step_good : (sending : Sending) (b : ℕ) (d : Opened) → d.paths ≡ Refused → IsGood (step sending b d)
unfolding step
step_good sending b d is =
    elim d.reading as (λ r. IsGood (by_reading r sending b d)) [
      | Command ↦ command_good b d is
      | Size ↦ size_good sending b d is
      | Piece left ↦ (is, out_none b d.way)
      | Nothing ↦ (is, tt)
    ]

none_onto : (first second : List Told) → HasNone first → HasNone second → HasNone (first ++ second)
none_onto [] second a b = b
none_onto (t ∷ first) second a b = (a.0, none_onto first second a.1 b)

pub hands_no_path_out : HandsNoPathOut
hands_no_path_out sending [] d is = (is, tt)
hands_no_path_out sending (b ∷ bs) d is =
    let turn = step_good sending b d is in
    let rest = hands_no_path_out sending bs (step sending b d).0 turn.0 in
    (rest.0, none_onto (step sending b d).1 (heard_of sending bs (step sending b d).0).1 turn.1 rest.1)
