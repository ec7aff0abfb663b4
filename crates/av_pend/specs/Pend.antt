-- Opens that wait for a verdict, and the answers that they get.
use Rattle.std.specs.Prelude.{ℕ, ◌≡◌, ◌<◌, ◌+◌}
use Rattle.av_base.specs.declared.cause.Cause.{Cause}
use Rattle.av_base.specs.declared.mode.Mode.{Mode}
use Rattle.av_base.specs.declared.mode.Mode.TheVariants.{FailClosed, FailOpen}
use Rattle.av_pend.specs.declared.again.Again.{Again}
use Rattle.av_pend.specs.declared.again.Again.TheVariants.{Held, Spent}
use Rattle.av_pend.specs.declared.answer.Answer.{Answer}
use Rattle.av_pend.specs.declared.answer.Answer.TheVariants.{Granted, Unscanned, Denied}
use Rattle.av_pend.specs.Waiting.{Waiting}

-- an open that begins to wait
abbrev pub waiting_from : ℕ → ℕ → ℕ → Waiting
waiting_from open_id stream least = record { open_id = open_id; stream = stream; least = least; rescans = 0 }

-- the open that an answer is for
abbrev pub open_of : Answer → ℕ
open_of (Granted open_id least stream generation version) = open_id
open_of (Unscanned open_id stream generation cause) = open_id
open_of (Denied open_id cause) = open_id

-- what an open gets whose stream is clean
abbrev pub granted : ℕ → ℕ → Waiting → Answer
granted generation version p = Granted p.open_id p.least p.stream generation version

-- what an open gets that is kept out
abbrev pub denied : Cause → Waiting → Answer
denied cause p = Denied p.open_id cause

-- what an open gets that can't be judged
abbrev pub refused : Mode → ℕ → Cause → Waiting → Answer
refused FailClosed generation cause p = Denied p.open_id cause
refused FailOpen generation cause p = Unscanned p.open_id p.stream generation cause

-- one rescan more where fewer than 8 were counted, and otherwise the open as it was
abbrev pub AgainOf : Waiting → Again → Type 0
AgainOf p (Held q) = (p.rescans < 8) × (q ≡ record p { rescans = p.rescans + 1 })
AgainOf p (Spent q) = (p.rescans ≡ 8) × (q ≡ p)
