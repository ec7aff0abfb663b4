-- What a change of the clients comes to.
use Rattle.std.proofs.Common.{arith, List, [], ◌∷◌, ◌++◌, length, sym, subst, refl, ◌∙◌, ◌≡◌, ℕ, true, false, Option, None, Some, Result, Ok, Err, IfSome, OnOk, inl, inr}
use Rattle.std.specs.Option.{option_map}
use Rattle.std.specs.declared.alloc.AllocError.{AllocError}
use Rattle.av_turns.specs.declared.budget.Budget.{Budget}
use Rattle.av_turns.specs.declared.client.Client.{Client}
use Rattle.av_turns.specs.Budget.{is_spent}
use Rattle.av_turns.specs.Client.{large_stood, settled, small_stood}
use Rattle.av_turns.specs.Clients.{AreGranted, at, is_due, IsNoneBefore, IsNoneDue, Puts, PutsBy, State, Steps}
use Rattle.av_turns.specs.Places.{since_of}
use Rattle.av_turns.specs.Questions.{is_asked, IsNoneAsked, IsNoneAskedBefore, question_at, Running}
use Rattle.av_turns.specs.Times.{after, earlier}
use Rattle.av_turns.specs.Turns.{All, IsDeadline, Tells, TellsBy, WaitsLarge, WaitsSmall}
use Rattle.av_turns.specs.Line.{Asked, Lined, Stands}
use Rattle.av_turns.proofs.ClientsLemmas.{if_some}
use Rattle.av_turns.proofs.TimesLemmas.{earlier_is}

pub told_by : (o : Option Client) (s : All) (after : State) (n : ℕ) (c k : Client) (step : Client → Client) → o ≡ Some c → k ≡ step c
    → IfSome o (λ was. Puts s.clients after n was (settled k)) → TellsBy o s (record s { clients = after }) n step
told_by None s after n c k step some is puts = grind (arith, some)
told_by (Some d) s after n c k step some is puts =
    let same : d ≡ c = cc in
    (subst (λ e. Puts s.clients after n d (settled (step e))) (sym same) (subst (λ j. Puts s.clients after n d (settled j)) is puts), record { smalls = refl; larges = refl; passed = refl; may_jump = refl; most = refl; wait = refl; places = refl; questions = refl; budget = refl })

pub tells : (s : All) (after : State) (n : ℕ) (c k : Client) (step : Client → Client) (r : Result (Unit {0}) AllocError) → at s.clients.clients n ≡ Some c → k ≡ step c
    → OnOk r (IfSome (at s.clients.clients n) (λ was. Puts s.clients after n was (settled k))) → OnOk r (Tells s (record s { clients = after }) n step)
tells s after n c k step (Ok u) some is puts = told_by (at s.clients.clients n) s after n c k step some is puts
tells s after n c k step (Err e) some is puts = puts

-- the earliest of all times is none behind a client's
pub least : (p q : Option ℕ) (f : Option (ℕ × ℕ)) (s : State) → IfSome f (λ x. IsNoneBefore s x.0) → (f ≡ None → IsNoneDue s) → IfSome (earlier p (earlier q (option_map (λ x. x.0) f))) (λ t. IsNoneBefore s t)
least None None None s some none = tt
least None None (Some x) s some none = some
least None (Some b) None s some none = λ n t here. grind (arith, here, none refl n t)
least None (Some b) (Some x) s some none = λ n t here. let e = some n t here in omega arith
least (Some a) None None s some none = λ n t here. grind (arith, here, none refl n t)
least (Some a) None (Some x) s some none = λ n t here. let e = some n t here in omega arith
least (Some a) (Some b) None s some none = λ n t here. grind (arith, here, none refl n t)
least (Some a) (Some b) (Some x) s some none = λ n t here. let e = some n t here in omega arith

pub never : (p q : Option ℕ) (f : Option (ℕ × ℕ)) (s : State) → (f ≡ None → IsNoneDue s) → earlier p (earlier q (option_map (λ x. x.0) f)) ≡ None → IsNoneDue s
never None None None s none h = none refl
never None None (Some x) s none h = grind (arith, h)
never None (Some b) None s none h = grind (arith, h)
never None (Some b) (Some x) s none h = grind (arith, h)
never (Some a) None None s none h = grind (arith, h)
never (Some a) None (Some x) s none h = grind (arith, h)
never (Some a) (Some b) None s none h = grind (arith, h)
never (Some a) (Some b) (Some x) s none h = grind (arith, h)

pub small_waits : (s : All) (after : State) (line : Lined) (none : Budget) (n : ℕ) (c k : Client) (a : Asked) → at s.clients.clients n ≡ Some c → k ≡ small_stood (length a.content) a.first c
    → IfSome (at s.clients.clients n) (λ was. Puts s.clients after n was (settled k)) → Stands s.smalls line n a → is_spent s.budget ≡ false → none ≡ record { asks = 0; said = 0 } → IfSome (at s.clients.clients n) (λ d. WaitsSmall s (record s { clients = after; smalls = line; budget = none }) n d a)
small_waits s after line none n c k a some is puts stands left is_none =
    if_some _ c _ some (record { counts = subst (λ j. Puts s.clients after n c (settled j)) is (subst (λ o. IfSome o (λ was. Puts s.clients after n was (settled k))) some puts); asks = stands; larges = refl; passed = refl; may_jump = refl; turn = record { some = left; none = is_none }; rest = record { most = refl; wait = refl; places = refl; questions = refl; budget = refl } })

pub large_waits : (s : All) (after : State) (line : Lined) (none : Budget) (n : ℕ) (c k : Client) (a : Asked) → at s.clients.clients n ≡ Some c → k ≡ large_stood (length a.content) a.first c
    → IfSome (at s.clients.clients n) (λ was. Puts s.clients after n was (settled k)) → Stands s.larges line n a → is_spent s.budget ≡ false → none ≡ record { asks = 0; said = 0 } → IfSome (at s.clients.clients n) (λ d. WaitsLarge s (record s { clients = after; larges = line; budget = none }) n d a)
large_waits s after line none n c k a some is puts stands left is_none =
    if_some _ c _ some (record { counts = subst (λ j. Puts s.clients after n c (settled j)) is (subst (λ o. IfSome o (λ was. Puts s.clients after n was (settled k))) some puts); asks = stands; smalls = refl; passed = refl; may_jump = refl; turn = record { some = left; none = is_none }; rest = record { most = refl; wait = refl; places = refl; questions = refl; budget = refl } })

pub not_bare : (xs : List Asked) (a : Asked) → xs ++ a ∷ [] ≡ [] → ⊥
not_bare [] a e = grind (arith, e)
not_bare (x ∷ xs) a e = grind (arith, e)

-- the earliest of all times is none behind a question's
pub least_asked : (p c : Option ℕ) (f : Option (ℕ × ℕ)) (r : Running) → IfSome f (λ x. IsNoneAskedBefore r x.0) → (f ≡ None → IsNoneAsked r) → IfSome (earlier p (earlier (option_map (λ x. x.0) f) c)) (λ t. IsNoneAskedBefore r t)
least_asked None None None r some none = tt
least_asked None None (Some x) r some none = some
least_asked None (Some b) None r some none = λ n t here. grind (arith, here, none refl n t)
least_asked None (Some b) (Some x) r some none = λ n t here. let e = some n t here in omega arith
least_asked (Some a) None None r some none = λ n t here. grind (arith, here, none refl n t)
least_asked (Some a) None (Some x) r some none = λ n t here. let e = some n t here in omega arith
least_asked (Some a) (Some b) None r some none = λ n t here. grind (arith, here, none refl n t)
least_asked (Some a) (Some b) (Some x) r some none = λ n t here. let e = some n t here in omega arith

pub never_asked : (p c : Option ℕ) (f : Option (ℕ × ℕ)) (r : Running) → (f ≡ None → IsNoneAsked r) → earlier p (earlier (option_map (λ x. x.0) f) c) ≡ None → IsNoneAsked r
never_asked None None None r none h = none refl
never_asked None None (Some x) r none h = grind (arith, h)
never_asked None (Some b) None r none h = grind (arith, h)
never_asked None (Some b) (Some x) r none h = grind (arith, h)
never_asked (Some a) None None r none h = grind (arith, h)
never_asked (Some a) None (Some x) r none h = grind (arith, h)
never_asked (Some a) (Some b) None r none h = grind (arith, h)
never_asked (Some a) (Some b) (Some x) r none h = grind (arith, h)

-- a client that is not there has no counts to change
pub steps_none : (old new : State) (n : ℕ) (step : Client → Client) → at old.clients n ≡ None → AreGranted old new → Steps old new n step
steps_none old new n step none grants = record { between = old; puts = subst (λ o. PutsBy o old old n step) (sym none) refl; grants = grants }

-- a client that is there has its counts changed, and then shares are given
pub steps_some : (old between new : State) (n : ℕ) (c k : Client) (step : Client → Client) → at old.clients n ≡ Some c → k ≡ step c
    → IfSome (at old.clients n) (λ was. Puts old between n was (settled k)) → AreGranted between new → Steps old new n step
steps_some old between new n c k step some is puts grants =
    record {
      between = between;
      puts = subst (λ o. PutsBy o old between n step) (sym some) (subst (λ j. Puts old between n c (settled j)) is (subst (λ o. IfSome o (λ was. Puts old between n was (settled k))) some puts));
      grants = grants;
    }

pub same_front : (order rest others : List ℕ) (n m : ℕ) → order ≡ n ∷ rest → order ≡ m ∷ others → n ≡ m
same_front order rest others n m one other = grind (arith, sym one ∙ other)

of_service : (s : All) (p : Option ℕ) → p ≡ after (since_of s.places) s.wait → IfSome p (λ t. IsDeadline s t)
of_service s None e = tt
of_service s (Some t) e = inr (inr (sym e))

of_question : (s : All) (q : Option (ℕ × ℕ)) → IfSome q (λ x. is_asked (question_at s.questions.running x.1) x.0 ≡ true) → IfSome (option_map (λ x. x.0) q) (λ t. IsDeadline s t)
of_question s None h = tt
of_question s (Some x) h = inr (inl (x.1, h))

of_client : (s : All) (f : Option (ℕ × ℕ)) → IfSome f (λ x. is_due s.clients.wait (at s.clients.clients x.1) x.0 ≡ true) → IfSome (option_map (λ x. x.0) f) (λ t. IsDeadline s t)
of_client s None h = tt
of_client s (Some x) h = inl (x.1, h)

-- the earliest of all times is one of them
pub deadline : (s : All) (p : Option ℕ) (q f : Option (ℕ × ℕ)) → p ≡ after (since_of s.places) s.wait → IfSome q (λ x. is_asked (question_at s.questions.running x.1) x.0 ≡ true)
    → IfSome f (λ x. is_due s.clients.wait (at s.clients.clients x.1) x.0 ≡ true) → IfSome (earlier p (earlier (option_map (λ x. x.0) q) (option_map (λ x. x.0) f))) (λ t. IsDeadline s t)
deadline s p q f service question client =
    earlier_is (λ t. IsDeadline s t) p (earlier (option_map (λ x. x.0) q) (option_map (λ x. x.0) f)) (of_service s p service)
    (earlier_is (λ t. IsDeadline s t) (option_map (λ x. x.0) q) (option_map (λ x. x.0) f) (of_question s q question) (of_client s f client))
