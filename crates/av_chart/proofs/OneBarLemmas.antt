-- Each open of a run has one bar, and at most one answer.
use Rattle.std.proofs.Common.{ℕ, ◌≡◌, ◌≤◌, ◌+◌, ◌==◌, ◌&&◌, ◌||◌, ◌++◌, Bool, true, false, cond, List, [], ◌∷◌, length, fold, Option, None, Some, Ok, Err, refl, sym, ap, ◌∙◌, subst, arith, if◌then◌else◌, eqb-true, eq-eqb}
use Rattle.std.proofs.lemmas.Bool.{cond_both, and_parts, and_right, or_parts}
use Rattle.std.proofs.lemmas.Bool.Decides.{nat_tests}
use Rattle.std.proofs.lemmas.List.Sums.{sum_by-cons, sum_by_push}
use Rattle.std.specs.List.{count_by, list_any}
use Rattle.av_base.specs.Line.{lines_of}
use Rattle.av_base.specs.MessageId.{same_id}
use Rattle.av_base.specs.declared.message_id.MessageId.{MessageId}
use Rattle.av_base.specs.declared.port.Port.TheVariants.{One}
use Rattle.av_filter.proofs.TimesLemmas.{times_map-append}
use Rattle.av_filter.specs.Once.{once_up_to, times}
use Rattle.av_pend.specs.Pend.{open_of}
use Rattle.av_world.proofs.OnceLemmas.{Counted, counted_keeps, counted_start}
use Rattle.av_history.proofs.StepLemmas.{step_keeps, Unrefused}
use Rattle.av_history.specs.Held.{pended}
use Rattle.av_script.specs.CommandObjects.{said_world}
use Rattle.av_script.specs.Script.{ScriptText}
use Rattle.av_script.specs.Script.Grammar.{Line, Silent, Limit, Volume, Says, line_of}
use Rattle.av_output.specs.Text.Answers.{is_answered}
use Rattle.av_history.specs.World.{Outcome, WorldState, after, step_of, world_or}
use Rattle.av_world.specs.Judge.{judged_of}
use Rattle.av_history.specs.declared.event.Event.{Event}
use Rattle.av_history.specs.declared.fault.JudgeFault.{JudgeFault}
use Rattle.av_history.specs.declared.given.Given.{Given}
use Rattle.av_history.specs.declared.report.Judged.{Judged}
use Rattle.av_script.specs.declared.command.Command.TheVariants.{Step, Judge}
use Rattle.std.specs.Prelude.{Result}
use Rattle.av_chart.proofs.NumberLemmas.{Takes, answered_in, step_goes, taken_as, Goes}
use Rattle.av_chart.proofs.StoryLemmas.{fold_append}
use Rattle.av_chart.specs.Chart.{begun}
use Rattle.av_chart.specs.Life.{Life, begins, ended, ends, lives_as, lives_at, with_end}
use Rattle.av_chart.specs.Marks.{deed_of, given_in, submitted_id}
use Rattle.av_chart.specs.OneBar.{HaveOneBar, OpensHaveOneBar, numbers_of}
use Rattle.av_chart.specs.Row.{asked_lines}
use Rattle.av_chart.specs.Story.{Story, answered, did_after, in_turn, life, moment, nothing, number_id, opened, story_after}
use Rattle.av_chart.specs.Story as story
use Rattle.av_chart.specs.Told.{Judges, Steps, Told, tells, told_at, told_from, world_after}
use Rattle.av_chart.specs.Words.{word_at}
use Rattle.av_chart.specs.declared.life.End.{End}

-- ---- ends and beginnings

-- how many bars of an open have no end
abbrev living : ℕ → List Life → ℕ
living n lives = count_by (lives_as One (number_id n)) lives

same_number : (id : MessageId) (e : End) (l : Life) → (ended One id e l).id.seq ≡ l.id.seq
same_number id e l = cond_both (lives_as One id l) _ _ (λ (x : Life). x.id.seq ≡ l.id.seq) (λ h. refl) (λ h. refl)

same_numbers : (id : MessageId) (e : End) (lives : List Life) → numbers_of (ends One id e lives) ≡ numbers_of lives
same_numbers id e [] = refl
same_numbers id e (l ∷ lives) = let first = same_number id e l in let rest = same_numbers id e lives in cc

answers_stay : (step k : ℕ) (given : List Given) (lives : List Life) → numbers_of (in_turn (answered step) k given lives) ≡ numbers_of lives
answers_stay step k [] lives = refl
answers_stay step k (g ∷ given) lives = answers_stay step (k + 1) given (answered step k g lives) ∙ same_numbers _ _ lives

-- ---- bars without an end

abbrev once_if : Bool → ℕ
once_if b = if b then 1 else 0

-- what two tests in a row leave
twice : (a b : Bool) (x : ℕ) → cond b 0 (cond a 0 x) ≡ cond (a || b) 0 x
twice true true x = refl
twice true false x = refl
twice false true x = refl
twice false false x = refl

together : (a : Bool) (x y : ℕ) → cond a 0 x + cond a 0 y ≡ cond a 0 (x + y)
together true x y = refl
together false x y = refl

never : (a : Bool) (x : ℕ) → x ≡ 0 → x ≡ cond a 0 x
never true x none = none
never false x none = refl

other_lives : (n m boot seq : ℕ) → ((0 == boot) && (m == seq)) ≡ true → (m == n) ≡ false → ((0 == boot) && (n == seq)) ≡ false
other_lives n m boot seq own other = grind (arith, nat_tests)

own_lives : (n m boot seq : ℕ) (alive : Bool) → (((0 == boot) && (m == seq)) && alive) ≡ false → (m == n) ≡ true → (((0 == boot) && (n == seq)) && alive) ≡ false
own_lives n m boot seq alive none same = let is : m ≡ n = eqb-true m n same in subst (λ k. (((0 == boot) && (k == seq)) && alive) ≡ false) is none

module _ (n m : ℕ) (e : End) (l : Life) where
  by_other : (c : Bool) → (m == n) ≡ c → lives_as One (number_id m) l ≡ true → once_if (lives_as One (number_id n) (with_end e l)) ≡ cond c 0 (once_if (lives_as One (number_id n) l))
  by_other true is own = rw (and_right (same_id (number_id n) l.id) false refl) refl
  by_other false is own =
      let not_it : same_id (number_id n) l.id ≡ false = other_lives n m l.id.boot l.id.seq (and_parts (same_id (number_id m) l.id) (lives_at One l) own).0 is in
      rw not_it refl

  by_own : (c : Bool) → (m == n) ≡ c → lives_as One (number_id m) l ≡ false → once_if (lives_as One (number_id n) l) ≡ cond c 0 (once_if (lives_as One (number_id n) l))
  by_own true is none = let gone : lives_as One (number_id n) l ≡ false = own_lives n m l.id.boot l.id.seq (lives_at One l) none is in rw gone refl
  by_own false is none = refl

  one_ends : once_if (lives_as One (number_id n) (ended One (number_id m) e l)) ≡ cond (m == n) 0 (once_if (lives_as One (number_id n) l))
  one_ends =
      cond_both (lives_as One (number_id m) l) (with_end e l) l (λ x. once_if (lives_as One (number_id n) x) ≡ cond (m == n) 0 (once_if (lives_as One (number_id n) l)))
      (λ own. by_other (m == n) refl own) (λ none. by_own (m == n) refl none)

living_ends : (n m : ℕ) (e : End) (lives : List Life) → living n (ends One (number_id m) e lives) ≡ cond (m == n) 0 (living n lives)
living_ends n m e [] = never (m == n) 0 refl
living_ends n m e (l ∷ lives) =
    let bar : Life → ℕ = λ x. once_if (lives_as One (number_id n) x) in
    let first : living n (l ∷ lives) ≡ once_if (lives_as One (number_id n) l) + living n lives = sum_by-cons bar l lives in
    let all : living n (ends One (number_id m) e (l ∷ lives)) ≡ once_if (lives_as One (number_id n) (ended One (number_id m) e l)) + living n (ends One (number_id m) e lives) = sum_by-cons bar (ended One (number_id m) e l) (ends One (number_id m) e lives) in
    all ∙ omega (arith, one_ends n m e l, living_ends n m e lives, ap (λ x. cond (m == n) 0 x) first, together (m == n) (once_if (lives_as One (number_id n) l)) (living n lives))

living_turned : (n step k : ℕ) (given : List Given) (lives : List Life) → living n (in_turn (answered step) k given lives) ≡ cond (is_answered n given) 0 (living n lives)
living_turned n step k [] lives = refl
living_turned n step k (g ∷ given) lives =
    living_turned n step (k + 1) given (answered step k g lives) ∙ ap (λ x. cond (is_answered n given) 0 x) (living_ends n (open_of g.answer) _ lives)
    ∙ twice (open_of g.answer == n) (is_answered n given) (living n lives)

none_passes : {A : Type 0} (p : A → Bool) (xs : List A) → count_by p xs ≡ 0 → list_any p xs ≡ false
none_passes p [] none = refl
none_passes p (x ∷ xs) none = by (p x) (sym (sum_by-cons (λ y. once_if (p y)) x xs) ∙ none) (none_passes p xs)
  where
    by : (b : Bool) → once_if b + count_by p xs ≡ 0 → (count_by p xs ≡ 0 → list_any p xs ≡ false) → (b || list_any p xs) ≡ false
    by true h rest = absurd (omega (arith, h))
    by false h rest = rest (omega (arith, h))

one_begins : (n id : ℕ) → once_if (((0 == 0) && (n == id)) && true) ≡ once_if (id == n)
one_begins n id = grind (arith, nat_tests)

-- ---- the numbers of answers

none_given : (n : ℕ) (given : List Given) → is_answered n given ≡ false → times n (answered_in given) ≡ 0
none_given n [] none = refl
none_given n (g ∷ given) none =
    let parts = or_parts (open_of g.answer == n) (is_answered n given) none in
    let first : once_if (open_of g.answer == n) ≡ 0 = rw parts.0 refl in
    omega (arith, first, none_given n given parts.1)

some_given : (n : ℕ) (given : List Given) → is_answered n given ≡ true → 1 ≤ times n (answered_in given)
some_given n [] some = absurd (cc)
some_given n (g ∷ given) some = by (open_of g.answer == n) some (some_given n given)
  where
    by : (b : Bool) → (b || is_answered n given) ≡ true → (is_answered n given ≡ true → 1 ≤ times n (answered_in given)) → 1 ≤ once_if b + times n (answered_in given)
    by true h rest = omega arith
    by false h rest = omega (arith, rest h)

at_most_once : (k n : ℕ) → once_up_to k n ≤ 1
at_most_once k n = grind (arith, nat_tests)

own_taken : (id n : ℕ) → (id == 0) ≡ false → taken_as id n ≡ once_if (id == n)
own_taken id n some = rw some refl

-- ---- an open that is submitted

module _ (k id next step line : ℕ) (name : List ℕ) (given : List Given) (lives : List Life) (takes : Takes k id next) where
  abbrev left : List Life
  left = in_turn (answered step) line given lives

  abbrev new : Life
  new = life One (number_id id) name 0 (moment step 0)

  more_bars : (n : ℕ) → times n (numbers_of (begins new left)) ≤ times n (numbers_of lives) + once_if (id == n)
  more_bars n =
      let stay = ap (times n) (answers_stay step line given lives) in
      cond_both (list_any (lives_as One (number_id id)) left) left (left ++ new ∷ []) (λ ls. times n (numbers_of ls) ≤ times n (numbers_of lives) + once_if (id == n))
      (λ h. omega (arith, stay)) (λ h. omega (arith, stay, times_map-append (λ (l : Life). l.id.seq) n left (new ∷ [])))

  bars_after : ((n : ℕ) → times n (numbers_of lives) ≤ once_up_to k n) → (n : ℕ) → times n (numbers_of (opened step name id given left)) ≤ once_up_to next n
  bars_after bars n =
      cond_both ((id == 0) || is_answered id given) left (begins new left) (λ ls. times n (numbers_of ls) ≤ once_up_to next n)
      (λ h. omega (arith, ap (times n) (answers_stay step line given lives), bars n, takes n))
      (λ h. omega (arith, more_bars n, bars n, takes n, own_taken id n (or_parts (id == 0) (is_answered id given) h).0))

  module _ (waiting waiting' : List ℕ) (lived : (n : ℕ) → living n lives ≡ times n waiting) (few : (n : ℕ) → times n waiting ≤ once_up_to k n)
      (moves : (n : ℕ) → times n waiting' + times n (answered_in given) ≡ times n waiting + taken_as id n) where
    wait_after : (n : ℕ) → times n waiting' ≡ cond (is_answered n given) 0 (times n waiting + taken_as id n)
    wait_after n = by (is_answered n given) refl
      where
        by : (a : Bool) → is_answered n given ≡ a → times n waiting' ≡ cond a 0 (times n waiting + taken_as id n)
        by true is = omega (arith, moves n, some_given n given is, few n, takes n, at_most_once next n)
        by false is = omega (arith, moves n, none_given n given is)

    left_living : (n : ℕ) → living n left ≡ cond (is_answered n given) 0 (times n waiting)
    left_living n = living_turned n step line given lives ∙ ap (λ x. cond (is_answered n given) 0 x) (lived n)

    -- nothing was taken, or it was answered at once
    none_begins : ((id == 0) || is_answered id given) ≡ true → (n : ℕ) → living n left ≡ times n waiting'
    none_begins h n = left_living n ∙ by (is_answered n given) refl ∙ sym (wait_after n)
      where
        not_taken : (b c : Bool) → (id == 0) ≡ b → (id == n) ≡ c → is_answered n given ≡ false → taken_as id n ≡ 0
        not_taken true c is_zero same none = rw is_zero refl
        not_taken false false some other none = rw (some, other) refl
        not_taken false true some same none =
            let is : id ≡ n = eqb-true id n same in
            let was : is_answered id given ≡ true = rw some at h in
            let wrong : true ≡ false = sym was ∙ ap (λ i. is_answered i given) is ∙ none in
            absurd (cc)

        by : (a : Bool) → is_answered n given ≡ a → cond a 0 (times n waiting) ≡ cond a 0 (times n waiting + taken_as id n)
        by true is = refl
        by false is = omega (arith, not_taken (id == 0) (id == n) refl refl is)

    -- an open begins to wait
    one_waits : ((id == 0) || is_answered id given) ≡ false → (n : ℕ) → living n (begins new left) ≡ times n waiting'
    one_waits h n =
        let parts = or_parts (id == 0) (is_answered id given) h in
        let own : once_if (id == id) ≡ 1 = rw (eq-eqb id id refl) refl in
        let none : living id left ≡ 0 =
        left_living id ∙ ap (λ a. cond a 0 (times id waiting)) parts.1 ∙ omega (arith, few id, takes id, at_most_once next id, own_taken id id parts.0, own) in
        let begin : begins new left ≡ left ++ new ∷ [] = rw (none_passes (lives_as One (number_id id)) left none) refl in
        let more : living n (left ++ new ∷ []) ≡ living n left + once_if (id == n) =
        sum_by_push (λ l. once_if (lives_as One (number_id n) l)) left new ∙ ap (λ k. living n left + k) (one_begins n id) in
        ap (living n) begin ∙ more ∙ ap (λ k. k + once_if (id == n)) (left_living n)
        ∙ by (is_answered n given) (id == n) refl refl parts.1
        ∙ sym (wait_after n ∙ ap (λ k. cond (is_answered n given) 0 (times n waiting + k)) (own_taken id n parts.0))
      where
        by : (a c : Bool) → is_answered n given ≡ a → (id == n) ≡ c → is_answered id given ≡ false → cond a 0 (times n waiting) + once_if c ≡ cond a 0 (times n waiting + once_if c)
        by true false is other none = refl
        by false c is same none = refl
        by true true is same none =
            let wrong : true ≡ false = sym is ∙ ap (λ i. is_answered i given) (sym (eqb-true id n same)) ∙ none in
            absurd (cc)

    waits_after : (n : ℕ) → living n (opened step name id given left) ≡ times n waiting'
    waits_after n =
        cond_both ((id == 0) || is_answered id given) left (begins new left) (λ ls. living n ls ≡ times n waiting') (λ h. none_begins h n) (λ h. one_waits h n)

-- ---- a run

-- what is known of a world and of what happened until then
record Known (w : WorldState) (s : Story) : Type 0 where
  counted : Counted w
  bars : (n : ℕ) → times n (numbers_of s.opens) ≤ once_up_to w.volume.opens n
  waits : (n : ℕ) → living n s.opens ≡ times n (pended w)

world_counted : (w : WorldState) → Counted w → (e : Event) → Counted (after w e)
world_counted w c e = step_keeps (λ e. Counted) w (λ e. c) (counted_keeps w c) e

module _ (w : WorldState) (s : Story) (known : Known w s) (t : Told) where
  event_known : (e : Event) (o : Outcome) → Unrefused (Goes w.volume.opens (pended w)) o → Counted (world_or w o) → Known (world_or w o) (did_after s t (Steps e o))
  event_known e (Err f) goes counted = record { counted = known.counted; bars = known.bars; waits = known.waits }
  event_known e (Ok p) goes counted =
      let at = length s.steps in
      let line = asked_lines (story.step_of s t (deed_of e) p.0 p.1) in
      let given = given_in p.0 p.1 in
      record {
        counted = counted;
        bars = bars_after w.volume.opens (submitted_id p.0.note) p.1.volume.opens at line (word_at 1 t.text) given s.opens goes.takes known.bars;
        waits = waits_after w.volume.opens (submitted_id p.0.note) p.1.volume.opens at line (word_at 1 t.text) given s.opens goes.takes
            (pended w) (pended p.1) known.waits (λ n. omega (arith, known.counted.once n)) goes.moves;
      }

  judged_known : (r : Result Judged JudgeFault) → Known w (did_after s t (Judges r))
  judged_known (Ok j) = record { counted = known.counted; bars = known.bars; waits = known.waits }
  judged_known (Err f) = record { counted = known.counted; bars = known.bars; waits = known.waits }

line_known : (w : WorldState) (s : Story) → Known w s → (number from : ℕ) (text : List ℕ) (o : Option Line) → Known (said_world w o) (fold story_after s (tells w (told_at number from text) o))
line_known w s known number from text None = known
line_known w s known number from text (Some Silent) = known
line_known w s known number from text (Some (Limit which value)) = known
line_known w s known number from text (Some (Volume volume mode)) = record { counted = known.counted; bars = known.bars; waits = known.waits }
line_known w s known number from text (Some (Says (Step e))) =
    event_known w s known (told_at number from text (Steps e (step_of w e))) e (step_of w e) (step_goes w e) (world_counted w known.counted e)
line_known w s known number from text (Some (Says (Judge name))) = judged_known w s known (told_at number from text (Judges (judged_of w name))) (judged_of w name)

run_known : (w : WorldState) (s : Story) → Known w s → (number from : ℕ) (lines : List (List ℕ)) → Known (world_after w lines) (fold story_after s (told_from w number from lines))
run_known w s known number from [] = known
run_known w s known number from (l ∷ ls) =
    let told = tells w (told_at number from l) (line_of l) in
    let next = said_world w (line_of l) in
    let rest = told_from next (number + 1) (from + length l + 1) ls in
    subst (Known (world_after next ls)) (sym (fold_append story_after s told rest))
    (run_known next (fold story_after s told) (line_known w s known number from l (line_of l)) (number + 1) (from + length l + 1) ls)

none_yet : (n : ℕ) → 0 ≤ once_up_to 0 n
none_yet n = omega arith

known_first : (s : ScriptText) → Known (begun s) nothing
known_first s = record { counted = counted_start s.number s.mode s.limits; bars = none_yet; waits = λ n. refl }

one_bar : (w : WorldState) (s : Story) → Known w s → HaveOneBar w s
one_bar w s known =
    record {
      bars = λ n. omega (arith, known.bars n, ap (λ k. once_up_to k n) known.counted.opens);
      answers = λ n. omega (arith, known.counted.once n, ap (λ k. once_up_to k n) known.counted.opens);
      waits = known.waits;
    }

pub opens_have_one_bar : OpensHaveOneBar
opens_have_one_bar s text = one_bar _ _ (run_known (begun s) nothing (known_first s) 1 0 (lines_of text))
