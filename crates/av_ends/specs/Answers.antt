-- Which answers a ticket shows.
use Rattle.std.specs.Prelude.{ℕ, Bool, true, ◌&&◌, ◌==◌, nat_le, Option, Some, None}
use Rattle.av_pend.specs.Pend.{open_of}
use Rattle.av_pend.specs.declared.answer.Answer.{Answer}
use Rattle.av_pend.specs.declared.answer.Answer.TheVariants.{Granted, Unscanned, Denied}

-- a grant is for an open of this least, and of no version below it
abbrev pub grants_from : ℕ → Answer → Bool
grants_from least (Granted open_id wanted stream generation version) = (wanted == least) && nat_le least version
grants_from least (Unscanned open_id stream generation cause) = true
grants_from least (Denied open_id cause) = true

-- the answer is to this open, and grants nothing below its least
abbrev pub fits : ℕ → ℕ → Answer → Bool
fits open_id least a = (open_of a == open_id) && grants_from least a

-- what a note knows, if it knows anything, fits
abbrev pub known_fits : ℕ → ℕ → Option Answer → Bool
known_fits open_id least None = true
known_fits open_id least (Some a) = fits open_id least a
