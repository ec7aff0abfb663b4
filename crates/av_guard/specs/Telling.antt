-- What clients are told.
use Rattle.std.specs.Prelude.{ℕ, Bool, List, [], ◌∷◌, ◌++◌, Option, Some, None, if◌then◌else◌}
use Rattle.std.specs.List.{list_any}
use Rattle.std.specs.Ordering.{nat_cmp}
use Rattle.std.specs.BTreeMap.{is_at}
use Rattle.av_base.specs.declared.cause.Cause.{Cause}
use Rattle.av_base.specs.declared.cause.Cause.TheVariants as cause
use Rattle.av_base.specs.declared.verdict.Verdict.{Verdict}
use Rattle.av_base.specs.declared.verdict.Verdict.TheVariants as verdict
use Rattle.av_context.specs.Contexts.{at, without}
use Rattle.av_filter.specs.Verdict.{verdict_of}
use Rattle.av_filter_table.specs.Table.{Table, context_of}
use Rattle.av_guard.specs.declared.answered.Answered.{Answered}
use Rattle.av_guard.specs.declared.answered.Answered.TheVariants as told
use Rattle.av_guard.specs.declared.given.Told.{Told}
use Rattle.av_guard.specs.declared.waiter.Waiter.{Waiter}
use Rattle.av_pend.specs.Pend.{open_of}
use Rattle.av_pend.specs.declared.answer.Answer.{Answer}
use Rattle.av_pend.specs.declared.answer.Answer.TheVariants.{Granted, Unscanned, Denied}

-- a denial, and what is known of the content: an infection is told with its version and its place
abbrev pub denied_as : Cause → Option (ℕ × Verdict) → Answered
denied_as cause.Infected (Some (version, verdict.Infected index end_at)) = told.Infected version index end_at
denied_as c _ = told.Denied c

-- an answer of the filter to an open of this stream
abbrev pub answered : Table → ℕ → Answer → Answered
answered t s (Granted n least stream generation version) = told.Granted generation version
answered t s (Unscanned n stream generation c) = told.Unscanned generation c
answered t s (Denied n c) = denied_as c (verdict_of (context_of t.contexts s))

-- who waits, by the number of the open
abbrev pub Waiters : Type 0
Waiters = List (ℕ × Waiter)

-- a client is there
abbrev pub is_here : List ℕ → ℕ → Bool
is_here clients client = list_any (is_at (nat_cmp client)) clients

-- who waited for an open is told its answer, where the client is still there
abbrev pub told_one : List ℕ → Table → Answer → Option Waiter → List Told
told_one clients t a None = []
told_one clients t a (Some w) =
    if is_here clients w.client
    then record { client = w.client; tag = w.tag; answer = answered t w.stream a } ∷ []
    else []

-- each answer in turn is told to the one who waits for it, who waits no more
unfoldable pub told_by : List ℕ → Table → Waiters → List Answer → List Told
told_by clients t waiting [] = []
told_by clients t waiting (a ∷ rest) =
    told_one clients t a (at waiting (open_of a)) ++ told_by clients t (without waiting (open_of a)) rest

-- who waits still
unfoldable pub left_by : Waiters → List Answer → Waiters
left_by waiting [] = waiting
left_by waiting (a ∷ rest) = left_by (without waiting (open_of a)) rest
