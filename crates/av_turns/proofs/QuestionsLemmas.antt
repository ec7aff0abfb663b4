-- The times of questions.
use Rattle.std.proofs.Common.{arith, ap, sym, refl, ◌∙◌, ◌≡◌, ℕ, Bool, not, ◌||◌, ◌&&◌, true, false, cond, List, [], ◌∷◌, nat_eq, None, Some}
use Rattle.std.specs.Ordering.{nat_cmp}
use Rattle.std.specs.BTreeMap.{insert_entry}
use Rattle.std.proofs.lemmas.Bool.Decides.{nat_tests}
use Rattle.av_turns.specs.Times.{Changes, Forgets, has}
use Rattle.av_turns.specs.Questions.{is_asked, IsTimed, question_at}
use Rattle.av_turns.specs.declared.questions.Question.{Question}
use Rattle.av_turns.proofs.ClientsLemmas.{and_not, and_true, or_false}

pub at_insert : (q n : ℕ) (es : List (ℕ × Question)) (w : Question) → question_at (insert_entry nat_cmp es n w) q ≡ cond (nat_eq q n) (Some w) (question_at es q)
at_insert q n [] w = grind (arith, nat_tests)
at_insert q n (e ∷ es) w = grind (arith, nat_tests, at_insert q n es w)

asked_by : (b : Bool) (es : List (ℕ × Question)) (due due2 : List (ℕ × ℕ)) (n q time : ℕ) (w : Question) → IsTimed es due → question_at es n ≡ None → Changes due due2 n None (Some w.due) → nat_eq q n ≡ b
    → has time q due2 ≡ is_asked (cond b (Some w) (question_at es q)) time
asked_by true es due due2 n q time w timed none changes e =
    let same_number : q ≡ n = grind (arith, nat_tests, e) in
    let had : has time q due ≡ false = timed.timed q time ∙ ap (λ o. is_asked o time) (ap (question_at es) same_number ∙ none) in
    changes q time ∙ ap (λ b. (b && nat_eq w.due time) || (has time q due && not (b && false))) e ∙ ap (λ h. nat_eq w.due time || (h && not false)) had ∙ or_false (nat_eq w.due time)
asked_by false es due due2 n q time w timed none changes e =
    changes q time ∙ ap (λ b. (b && nat_eq w.due time) || (has time q due && not (b && false))) e ∙ and_true (has time q due) ∙ timed.timed q time

pub asked : (es : List (ℕ × Question)) (due due2 : List (ℕ × ℕ)) (n : ℕ) (w : Question) → IsTimed es due → question_at es n ≡ None → Changes due due2 n None (Some w.due) → IsTimed (insert_entry nat_cmp es n w) due2
asked es due due2 n w timed none changes =
    record { timed = λ q time. asked_by (nat_eq q n) es due due2 n q time w timed none changes refl ∙ ap (λ o. is_asked o time) (sym (at_insert q n es w)) }

undone_by : (b : Bool) (es : List (ℕ × Question)) (due due1 due2 : List (ℕ × ℕ)) (n q time d : ℕ) → IsTimed es due → question_at es n ≡ None → Changes due due1 n None (Some d) → Forgets due1 due2 n (Some d) → nat_eq q n ≡ b → has time q due2 ≡ has time q due
undone_by true es due due1 due2 n q time d timed none changes forgets e =
    let same_number : q ≡ n = grind (arith, nat_tests, e) in
    let had : has time q due ≡ false = timed.timed q time ∙ ap (λ o. is_asked o time) (ap (question_at es) same_number ∙ none) in
    forgets q time ∙ ap (λ b. has time q due1 && not (b && nat_eq d time)) e
    ∙ ap (λ h. h && not (nat_eq d time)) (changes q time ∙ ap (λ b. (b && nat_eq d time) || (has time q due && not (b && false))) e ∙ ap (λ h. nat_eq d time || (h && not false)) had ∙ or_false (nat_eq d time))
    ∙ and_not (nat_eq d time) ∙ sym had
undone_by false es due due1 due2 n q time d timed none changes forgets e =
    forgets q time ∙ ap (λ b. has time q due1 && not (b && nat_eq d time)) e ∙ and_true (has time q due1)
    ∙ changes q time ∙ ap (λ b. (b && nat_eq d time) || (has time q due && not (b && false))) e ∙ and_true (has time q due)

pub undone : (es : List (ℕ × Question)) (due due1 due2 : List (ℕ × ℕ)) (n d : ℕ) → IsTimed es due → question_at es n ≡ None → Changes due due1 n None (Some d) → Forgets due1 due2 n (Some d) → IsTimed es due2
undone es due due1 due2 n d timed none changes forgets =
    record { timed = λ q time. undone_by (nat_eq q n) es due due1 due2 n q time d timed none changes forgets refl ∙ timed.timed q time }

ended_by : (b : Bool) (es : List (ℕ × Question)) (due due2 : List (ℕ × ℕ)) (n q time : ℕ) (was : Question) → IsTimed es due → question_at es n ≡ Some was → Forgets due due2 n (Some was.due) → nat_eq q n ≡ b
    → has time q due2 ≡ is_asked (cond b None (question_at es q)) time
ended_by true es due due2 n q time was timed some forgets e =
    let same_number : q ≡ n = grind (arith, nat_tests, e) in
    let had : has time q due ≡ nat_eq was.due time = timed.timed q time ∙ ap (λ o. is_asked o time) (ap (question_at es) same_number ∙ some) in
    forgets q time ∙ ap (λ b. has time q due && not (b && nat_eq was.due time)) e ∙ ap (λ h. h && not (nat_eq was.due time)) had ∙ and_not (nat_eq was.due time)
ended_by false es due due2 n q time was timed some forgets e =
    forgets q time ∙ ap (λ b. has time q due && not (b && nat_eq was.due time)) e ∙ and_true (has time q due) ∙ timed.timed q time

pub ended : (es new : List (ℕ × Question)) (due due2 : List (ℕ × ℕ)) (n : ℕ) (was : Question) → IsTimed es due → question_at es n ≡ Some was → ((q : ℕ) → question_at new q ≡ cond (nat_eq q n) None (question_at es q)) → Forgets due due2 n (Some was.due) → IsTimed new due2
ended es new due due2 n was timed some removed forgets =
    record { timed = λ q time. ended_by (nat_eq q n) es due due2 n q time was timed some forgets refl ∙ ap (λ o. is_asked o time) (sym (removed q)) }
