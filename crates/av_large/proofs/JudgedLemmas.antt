-- Grants are clean where judges say each word.
use Rattle.std.proofs.Common.{inl, inr, List, [], ◌∷◌, subst, sym}
use Rattle.std.specs.List.{AllByRecursion as Each}
use Rattle.av_base.specs.Among.{Among}
use Rattle.av_match.specs.Scanning.{AreSolid, Compiled}
use Rattle.av_parts.specs.Course.{IsRight, IsRightThen, sets_of}
use Rattle.av_parts.specs.Orders.{Order}
use Rattle.av_parts.specs.declared.word.Word.{Word}
use Rattle.av_parts.specs.declared.word.Word.TheVariants as word
use Rattle.av_large.specs.Promise.{AreOfJudges, IsOfJudge, IsSaidByJudge, IsSaidRight, JudgedGrantsAreClean, SaysRight, sent_after}
use Rattle.av_large.specs.Run.{Event, Greets, Begin, Bring, End, Hears, IsLate, Leaves, Loses, step_of}
use Rattle.av_large.specs.State.{State, at_first}
use Rattle.av_large.proofs.PromiseLemmas.{each_weaker, grants_are_clean, judges_say_right}

-- what holds of all holds of each among them
one_of : {A : Type 0} (P : A → Type 0) (x : A) (xs : List A) → Each P xs → Among x xs → P x
one_of P x [] all among = absurd among
one_of P x (y ∷ ys) all (inl is) = subst P (sym is) all.0
one_of P x (y ∷ ys) all (inr among) = one_of P x ys all.1 among

-- a word that is right under some sets is right under more
right_of_more : (some sets : List Compiled) (orders : List Order) (w : Word) → ((s : Compiled) → Among s some → Among s sets) → IsRight some orders w → IsRight sets orders w
right_of_more some sets orders (word.Clean n version count) known right = (right.0, known right.0 right.1, right.2, right.3, right.4, right.5)
right_of_more some sets orders (word.Infected n version index end_at) known right = (right.0, known right.0 right.1, right.2, right.3)
right_of_more some sets orders (word.None n why) known right = tt

said_right : (sets : List Compiled) (sent : List Order) (w : Word) → Each (λ (s : Compiled). AreSolid s.patterns) sets → IsOfJudge sets sent w → IsRightThen sets sent w
said_right sets sent w solid it =
    let own = sets_of it.set it.happened in
    let known : (s : Compiled) → Among s own → Among s sets = λ s among. one_of (λ x. Among x sets) s own it.known among in
    let firm : Each (λ (s : Compiled). AreSolid s.patterns) own = each_weaker (λ x. Among x sets) (λ (s : Compiled). AreSolid s.patterns) own (λ s among. one_of (λ (x : Compiled). AreSolid x.patterns) s sets solid among) it.known in
    let all = judges_say_right it.set it.happened it.judging it.words it.went firm sent it.more it.obeyed in
    let right : IsRightThen own sent w = one_of (IsRightThen own sent) w it.words all it.said in
    (right.0, right.1, right.2, right_of_more own sets right.0 w known right.3)

event_right : (sets : List Compiled) (sent : List Order) (e : Event) → Each (λ (s : Compiled). AreSolid s.patterns) sets → IsSaidByJudge sets sent e → IsSaidRight sets sent e
event_right sets sent (Hears floor w) solid it = said_right sets sent w solid it
event_right sets sent (Greets floor version) solid it = tt
event_right sets sent (Begin service client tag most) solid it = tt
event_right sets sent (Bring client some) solid it = tt
event_right sets sent (End client ending) solid it = tt
event_right sets sent (IsLate client) solid it = tt
event_right sets sent (Leaves client) solid it = tt
event_right sets sent Loses solid it = tt

says_right : (sets : List Compiled) (g : State) (sent : List Order) (es : List Event) → Each (λ (s : Compiled). AreSolid s.patterns) sets → AreOfJudges sets g sent es → SaysRight sets g sent es
unfolding AreOfJudges SaysRight
says_right sets g sent [] solid all = tt
says_right sets g sent (e ∷ es) solid all =
    (event_right sets sent e solid all.0, says_right sets (step_of g e).state (sent_after sent e (step_of g e).orders) es solid all.1)

pub judged_grants_are_clean : JudgedGrantsAreClean
judged_grants_are_clean es sets solid all = grants_are_clean es sets (says_right sets at_first [] es solid all)
