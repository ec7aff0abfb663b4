-- Answers to contents in parts, for the causes that only these have.
use Rattle.std.specs.Prelude.{ℕ, ◌==◌, List, [], ◌∷◌, ◌++◌, codes, Option, None, Some, if◌then◌else◌}
use Rattle.av_asks.specs.declared.large_answer.LargeAnswer.{LargeAnswer}
use Rattle.av_asks.specs.declared.large_answer.LargeAnswer.TheVariants.{Denied, Unscanned}
use Rattle.av_asks.specs.declared.large_answer.LargeCause.{LargeCause}
use Rattle.av_asks.specs.declared.large_answer.LargeCause.TheVariants.{AskAgain, TooLarge, GivenUp, NoParts}
use Rattle.av_asks.specs.declared.sizes.TheConstants.{DENIED_SIZE, UNSCANNED_SIZE}
use Rattle.av_asks.specs.Spelling.{field8, framed}

-- the number of a cause
abbrev pub cause_number : LargeCause → ℕ
cause_number AskAgain = 11
cause_number TooLarge = 12
cause_number GivenUp = 13
cause_number NoParts = 14

-- a cause in words
abbrev pub cause_text : LargeCause → List ℕ
cause_text AskAgain = codes "ask again"
cause_text TooLarge = codes "too large"
cause_text GivenUp = codes "given up"
cause_text NoParts = codes "takes no parts"

-- the cause of a number
abbrev pub cause_of : ℕ → Option LargeCause
cause_of n =
    if n == 11 then Some AskAgain else (if n == 12 then Some TooLarge else
    (if n == 13 then Some GivenUp else (if n == 14 then Some NoParts else None)))

-- the body of an answer, spelled as that of an ask
abbrev pub large_body : LargeAnswer → List ℕ
large_body (Denied tag cause) = 3 ∷ (field8 tag ++ cause_number cause ∷ [])
large_body (Unscanned tag generation cause) = 4 ∷ (field8 tag ++ field8 generation ++ cause_number cause ∷ [])

-- its one spelling
abbrev pub large_frame : LargeAnswer → List ℕ
large_frame a = framed (large_body a)

-- how many bytes the body has
abbrev pub large_size : LargeAnswer → ℕ
large_size (Denied tag cause) = DENIED_SIZE
large_size (Unscanned tag generation cause) = UNSCANNED_SIZE
