-- How many answers are owed.
use Rattle.std.proofs.Common.{arith, ℕ, zero, suc, ◌≡◌, ◌≤◌, ◌<◌, ◌+◌, ◌-◌, ◌∙◌, min, length, List, [], ◌∷◌, ◌++◌, refl, ap}
use Rattle.std.specs.Prelude.{Option, None, Some, IsSome, slice_get, slice_set}
use Rattle.std.specs.List.{All}
use Rattle.std.proofs.lemmas.List.{length-set}
use Rattle.std.proofs.lemmas.List.Elements.{All-cons, All-nil}
use Rattle.av_client.specs.declared.reply.Reply.{Reply}
use Rattle.av_client.specs.Asking.{IsKept, IsOwedEach, unanswered}

-- one more content has no answer yet
one_asked : (answers : List (Option Reply)) → unanswered (answers ++ None ∷ []) ≡ unanswered answers + 1
one_asked [] = refl
one_asked (None ∷ answers) = ap (λ n. n + 1) (one_asked answers)
one_asked (Some a ∷ answers) = one_asked answers

-- where an answer is kept one less is owed
one_kept : (answers : List (Option Reply)) (place : ℕ) (a : Reply) → slice_get answers place ≡ Some None → unanswered answers ≡ unanswered (slice_set answers place (Some a)) + 1
one_kept [] place a e = cc
one_kept (None ∷ answers) zero a e = refl
one_kept (Some b ∷ answers) zero a e = cc
one_kept (None ∷ answers) (suc place) a e = ap (λ n. n + 1) (one_kept answers place a e)
one_kept (Some b ∷ answers) (suc place) a e = one_kept answers place a e

none_missing : (answers : List (Option Reply)) → unanswered answers ≡ 0 → All IsSome answers
none_missing [] e = All-nil IsSome
none_missing (None ∷ answers) e = absurd (omega (arith, e))
none_missing (Some a ∷ answers) e = All-cons IsSome (Some a) answers refl (none_missing answers e)

-- where nothing is owed each content has its answer
pub none_left : (owed : ℕ) (answers : List (Option Reply)) → owed < 1 → IsOwedEach owed answers → All IsSome answers
none_left owed answers few each = none_missing answers (omega (arith, few, each))

-- no more are owed than were asked about
at_most_all : (answers : List (Option Reply)) → unanswered answers ≤ length answers
at_most_all [] = omega arith
at_most_all (None ∷ answers) = omega (arith, at_most_all answers)
at_most_all (Some a ∷ answers) = omega (arith, at_most_all answers)

-- an answer that is kept is owed no more
pub kept_each : (owed less : ℕ) (old new : List (Option Reply)) (told : ℕ × Reply) → IsKept old new told → less ≡ owed - 1 → IsOwedEach owed old → IsOwedEach less new
kept_each owed less old new (place, a) kept one each =
    let fewer : unanswered old ≡ unanswered (slice_set old place (Some a)) + 1 = one_kept old place a kept.0 in
    let same : unanswered new ≡ unanswered (slice_set old place (Some a)) = ap (λ l. unanswered l) kept.1 in
    omega (arith, one, each, fewer, same)

-- and no place is lost
pub kept_length : (old new : List (Option Reply)) (told : ℕ × Reply) → IsKept old new told → length new ≡ length old
kept_length old new (place, a) kept = ap (λ l. length l) kept.1 ∙ length-set old place (Some a)

-- one that was asked about is owed its answer
pub asked_each : (owed more : ℕ) (answers : List (Option Reply)) → length answers < 18_446_744_073_709_551_615 → more ≡ min (owed + 1) 18_446_744_073_709_551_615 → IsOwedEach owed answers → IsOwedEach more (answers ++ None ∷ [])
asked_each owed more answers short one each =
    let few : unanswered answers ≤ length answers = at_most_all answers in
    let next : unanswered (answers ++ None ∷ []) ≡ unanswered answers + 1 = one_asked answers in
    omega (arith, short, one, each, few, next)

-- an answer that came is owed no more, so that it may be taken back
one_forgotten : (answers : List (Option Reply)) (a : Reply) → unanswered (answers ++ Some a ∷ []) ≡ unanswered answers
one_forgotten [] a = refl
one_forgotten (None ∷ answers) a = ap (λ n. n + 1) (one_forgotten answers a)
one_forgotten (Some b ∷ answers) a = one_forgotten answers a

pub forgot_each : (owed : ℕ) (old new : List (Option Reply)) (a : Reply) → old ≡ new ++ Some a ∷ [] → IsOwedEach owed old → IsOwedEach owed new
forgot_each owed old new a is each = each ∙ ap (λ l. unanswered l) is ∙ one_forgotten new a
