-- Each word that a judge says was right of the orders that had come.
use Rattle.std.proofs.Common.{◌≡◌, ℕ, ◌+◌, ◌<◌, ◌≤◌, ◌&&◌, Bool, true, false, nat_eq, nat_le, nat_lt, List, [], ◌∷◌, ◌++◌, length, Option, Some, None, Ok, Err, cond, inl, refl, sym, ◌∙◌, ap, subst, arith, append_assoc}
use Rattle.std.specs.List.{AllByRecursion as Each}
use Rattle.std.proofs.lemmas.List.{append-nil}
use Rattle.std.proofs.lemmas.Bool.Decides.{nat_tests}
use Rattle.std.proofs.lemmas.Bool.{and_parts, eqb-true, leb-false, leb-true, ltb-false, ltb-true}
use Rattle.av_base.specs.Among.{Among}
use Rattle.av_base.proofs.AmongLemmas.{among_right, each_self}
use Rattle.av_base.specs.declared.verdict.Verdict.{Verdict}
use Rattle.av_base.specs.declared.verdict.Verdict.TheVariants.{Clean, Infected}
use Rattle.av_sigset.specs.declared.signature.Pattern.{Pattern}
use Rattle.av_match.specs.Match.{if_hit, verdict}
use Rattle.av_match.specs.Scanning.{AreSolid, Compiled, IsScan, ScanState, begin, if_found, moved, moved_by, run, step, word_after}
use Rattle.av_match.specs.Search.{find_at}
use Rattle.av_match.proofs.HitLemmas.{step_keeps}
use Rattle.av_match.proofs.ScanLemmas.{scan_begun, scan_fed, scan_hit}
use Rattle.av_parts.specs.declared.sizes.TheConstants.{MAX_COUNT, MAX_HELD}
use Rattle.av_parts.specs.declared.word.Word.{Word}
use Rattle.av_parts.specs.declared.word.Word.TheVariants as word
use Rattle.av_parts.specs.Course.{BringsBytewise, Happening, Comes, Renews, HoldsFew, IsRight, IsRightThen, JudgesAreRight, by_turn, judged, orders_of, sets_of, then_by}
use Rattle.av_parts.specs.Judge.{Judging, Turn, at, begins, begun, brings, ended_by_newer, ends, goes_on, known, moves, obeyed, renewed, with, without}
use Rattle.av_parts.specs.Orders.{Order, Begins, Brings, Ends, Drops, brought, if_number, singly}
use Rattle.av_parts.proofs.HeldLemmas.{Holds, above, as_many, found, no_more, none_found, one_more, put_in, taken_out}

-- ---- what orders bring

if_number-append : (n m : ℕ) (some xs ys : List ℕ) → if_number n m some (xs ++ ys) ≡ if_number n m some xs ++ ys
if_number-append n m some xs ys =
    elim (nat_eq n m) as (λ b. cond b (some ++ (xs ++ ys)) (xs ++ ys) ≡ cond b (some ++ xs) xs ++ ys) [
      | true ↦ sym (append_assoc some xs ys)
      | false ↦ refl
    ]

brought-append : (n : ℕ) (a b : List Order) → brought n (a ++ b) ≡ brought n a ++ brought n b
unfolding brought
brought-append n [] b = refl
brought-append n (Begins m ∷ a) b = brought-append n a b
brought-append n (Brings m some ∷ a) b = ap (if_number n m some) (brought-append n a b) ∙ if_number-append n m some (brought n a) (brought n b)
brought-append n (Ends m count ∷ a) b = brought-append n a b
brought-append n (Drops m ∷ a) b = brought-append n a b

brings_singly : (n m : ℕ) (some : List ℕ) → brought n (singly m some) ≡ if_number n m some []
unfolding brought
brings_singly n m [] = elim (nat_eq n m) as (λ b. ◌≡◌ {A = List ℕ} [] (cond b [] [])) [ true ↦ refl | false ↦ refl ]
brings_singly n m (b ∷ some) =
    ap (if_number n m (b ∷ [])) (brings_singly n m some)
    ∙ elim (nat_eq n m) as (λ t. ◌≡◌ {A = List ℕ} (cond t (b ∷ cond t (some ++ []) []) (cond t (some ++ []) [])) (cond t (b ∷ (some ++ [])) [])) [ true ↦ refl | false ↦ refl ]

pub brings_bytewise : BringsBytewise
unfolding brought
brings_bytewise n (Begins m) = refl
brings_bytewise n (Brings m []) = refl
brings_bytewise n (Brings m (b ∷ some)) = brings_singly n m (b ∷ some)
brings_bytewise n (Ends m count) = refl
brings_bytewise n (Drops m) = refl

-- an order that brings nothing of a content leaves what came of it
quiet : (n : ℕ) (done : List Order) (o : Order) → brought n (o ∷ []) ≡ [] → brought n (done ++ o ∷ []) ≡ brought n done
quiet n done o none = brought-append n done (o ∷ []) ∙ ap (λ c. brought n done ++ c) none ∙ append-nil (brought n done)

another : (n m : ℕ) → (n ≡ m → ⊥) → nat_eq n m ≡ false
another n m differs = (elim (nat_eq n m) as (λ b. nat_eq n m ≡ b → b ≡ false) [ true ↦ λ e. absurd (differs (eqb-true n m e)) | false ↦ λ e. refl ]) refl

own : (n : ℕ) → nat_eq n n ≡ true
own n = grind (arith, nat_tests)

of_another : (n m : ℕ) (some : List ℕ) → (n ≡ m → ⊥) → brought n (Brings m some ∷ []) ≡ []
unfolding brought
of_another n m some differs = ap (λ b. cond b (some ++ []) []) (another n m differs)

of_this : (n : ℕ) (done : List Order) (some : List ℕ) → brought n (done ++ Brings n some ∷ []) ≡ brought n done ++ some
unfolding brought
of_this n done some =
    brought-append n done (Brings n some ∷ [])
    ∙ ap (λ c. brought n done ++ c) (ap (λ b. cond b (some ++ []) []) (own n) ∙ append-nil some)

-- ---- a scan has counted what came

abbrev Fed : ScanState → ℕ → ScanState → Type 0
Fed s n t = t.fed ≡ s.fed + n

by_fed : (ps : List Pattern) (s : ScanState) (w : List ℕ) (o : Option ℕ) → Fed s 1 (moved_by ps s w o)
by_fed ps s w None = refl
by_fed ps s w (Some i) = refl

moved_fed : (ps : List Pattern) (s : ScanState) (w : List ℕ) → Fed s 1 (moved ps s w)
unfolding moved
moved_fed ps s w = by_fed ps s w (find_at 0 ps w (length w) (s.fed + 1))

run_fed : (ps : List Pattern) (c : List ℕ) (s : ScanState) → Fed s (length c) (run ps s c)
unfolding run
run_fed ps [] s = omega arith
run_fed ps (b ∷ c) s =
    let one : Fed s 1 (step ps s b) = step_keeps (Fed s 1) ps s b refl (moved_fed ps s (word_after ps s.node b)) in
    omega (arith, run_fed ps c (step ps s b), one)

scan_counts : (set : Compiled) (total : ℕ) (c : List ℕ) (s : ScanState) → IsScan set total c s → s.fed ≡ length c
scan_counts set total c s was = ap (λ (x : ScanState). x.fed) was.is ∙ run_fed set.patterns c (begin set.version total) ∙ (let e : 0 + length c ≡ length c = omega arith in e)

-- ---- a verdict by a scan's hit

-- no pattern was found
abbrev IsUnhit : Option Verdict → Type 0
IsUnhit None = Unit {0}
IsUnhit (Some Clean) = Unit {0}
IsUnhit (Some (Infected i e)) = ⊥

hit_is : (v : Verdict) (i e : ℕ) → ◌≡◌ {A = Option Verdict} (Some (Infected i e)) (if_hit v) → v ≡ Infected i e
hit_is Clean i e is = absurd cc
hit_is (Infected j f) i e is = cc

unhit_is : (v : Verdict) (o : Option Verdict) → IsUnhit o → o ≡ if_hit v → v ≡ Clean
unhit_is Clean o un is = refl
unhit_is (Infected i e) o un is = absurd (subst IsUnhit is un)

-- ---- what holds of a judge after the orders that came

record IsHeldOf (set : Compiled) (c : List ℕ) (s : ScanState) : Type 0 where
  scan : IsScan set MAX_COUNT c s
  unhit : IsUnhit (if_found s)

abbrev IsHeld : Compiled → List Order → ℕ × ScanState → Type 0
IsHeld set done e = IsHeldOf set (brought e.0 done) e.1

record IsSoFar (done : List Order) (j : Judging) : Type 0 where
  held : Holds (IsHeld j.set done) 0 j.last j.held
  new : (n : ℕ) → j.last < n → brought n done ≡ []
  few : length j.held ≤ MAX_HELD

-- a content of which nothing came is held as before
keeps : (set : Compiled) (done : List Order) (o : Order) (e : ℕ × ScanState) → brought e.0 (o ∷ []) ≡ [] → IsHeld set done e → IsHeld set (done ++ o ∷ []) e
keeps set done o e none is = subst (λ c. IsHeldOf set c e.1) (sym (quiet e.0 done o none)) is

-- what is said is right, if anything is
abbrev IsRightIf : List Compiled → List Order → Option Word → Type 0
IsRightIf sets done None = Unit {0}
IsRightIf sets done (Some w) = IsRight sets done w

-- what an order does keeps it so, and says what is right
abbrev Follows : Compiled → List Compiled → List Order → Turn → Type 0
Follows set sets done (Ok (o, j)) = (j.set ≡ set) × IsSoFar done j × (Among set sets → AreSolid set.patterns → IsRightIf sets done o)
Follows set sets done (Err f) = Unit {0}

follow_if : (set : Compiled) (sets : List Compiled) (done : List Order) (b : Bool) (x y : Turn) → (b ≡ true → Follows set sets done x) → (b ≡ false → Follows set sets done y) → Follows set sets done (cond b x y)
follow_if set sets done true x y yes_follows no_follows = yes_follows refl
follow_if set sets done false x y yes_follows no_follows = no_follows refl

module _ (sets : List Compiled) (done : List Order) (j : Judging) (so : IsSoFar done j) where
  begins_follows : (n : ℕ) → Follows j.set sets (done ++ Begins n ∷ []) (begins j n)
  unfolding brought
  begins_follows n =
      let o = Begins n in
      let now = done ++ o ∷ [] in
      follow_if j.set sets now (nat_le n j.last) _ _ (λ e. tt) (λ new.
      let higher : j.last < n = leb-false _ _ new in
      let nothing : (m : ℕ) → n < m → brought m now ≡ [] = λ m lt. quiet m done o refl ∙ so.new m (omega (arith, higher, lt)) in
      let empty : brought n now ≡ [] = quiet n done o refl ∙ so.new n higher in
      follow_if j.set sets now (nat_lt (length j.held) MAX_HELD) _ _
      (λ room.
      let s = begin j.set.version MAX_COUNT in
      let here : IsHeldOf j.set (brought n now) s = subst (λ c. IsHeldOf j.set c s) (sym empty) (record { scan = scan_begun j.set j.set.version MAX_COUNT refl; unhit = tt }) in (
        refl,
        record {
          held = put_in (IsHeld j.set done) (IsHeld j.set now) n 0 j.last n s j.held (λ e other is. keeps j.set done o e refl is) (omega (arith, higher)) (omega arith) (omega (arith, higher)) here so.held;
          new = nothing;
          few = omega (arith, one_more n s j.held, ltb-true _ _ room);
        },
        λ among solid. tt,
      ))
      (λ full. (
        refl,
        record {
          held = above (IsHeld j.set done) (IsHeld j.set now) 0 0 j.last n j.held (omega arith) (omega (arith, higher)) (λ e other is. keeps j.set done o e refl is) so.held;
          new = nothing;
          few = so.few;
        },
        λ among solid. tt,
      )))

  -- a content that is not held stays so, whatever comes of it
  not_held : (n : ℕ) (o : Order) → n ≤ j.last → ((m : ℕ) → (m ≡ n → ⊥) → brought m (o ∷ []) ≡ []) → at j.held n ≡ None → Follows j.set sets (done ++ o ∷ []) (Ok (None, j))
  not_held n o old none is = (
    refl,
    record {
      held = none_found (IsHeld j.set done) (IsHeld j.set (done ++ o ∷ [])) n 0 j.last j.held (λ e other h. keeps j.set done o e (none e.0 other) h) so.held is;
      new = λ m lt. quiet m done o (none m (λ same. omega (arith, old, lt, same))) ∙ so.new m lt;
      few = so.few;
    },
    λ among solid. tt,
  )

  -- a content ends: it is held no more
  ended : (n : ℕ) (o : Order) (w : Option Word) → n ≤ j.last → ((m : ℕ) → (m ≡ n → ⊥) → brought m (o ∷ []) ≡ []) → (Among j.set sets → AreSolid j.set.patterns → IsRightIf sets (done ++ o ∷ []) w)
      → Follows j.set sets (done ++ o ∷ []) (Ok (w, record j { held = without j.held n }))
  ended n o w old none right = (
    refl,
    record {
      held = taken_out (IsHeld j.set done) (IsHeld j.set (done ++ o ∷ [])) n 0 j.last j.held (λ e other h. keeps j.set done o e (none e.0 other) h) so.held;
      new = λ m lt. quiet m done o (none m (λ same. omega (arith, old, lt, same))) ∙ so.new m lt;
      few = omega (arith, no_more n j.held, so.few);
    },
    right,
  )

  -- a scan went on with what came
  moves_follows : (n : ℕ) (some : List ℕ) (s : ScanState) → n ≤ j.last → at j.held n ≡ Some s → s.fed + length some ≤ MAX_COUNT
      → Follows j.set sets (done ++ Brings n some ∷ []) (moves j n (goes_on j s some) (if_found (goes_on j s some)))
  moves_follows n some s old is room =
      let o = Brings n some in
      let now = done ++ o ∷ [] in
      let f = found (IsHeld j.set done) n 0 j.last s j.held so.held is in
      let none : (m : ℕ) → (m ≡ n → ⊥) → brought m (o ∷ []) ≡ [] = λ m other. of_another m n some other in
      let t = goes_on j s some in
      let c = brought n done in
      let fits : length c + length some ≤ MAX_COUNT = omega (arith, room, scan_counts j.set MAX_COUNT c s f.2.scan) in
      let scan : IsScan j.set MAX_COUNT (c ++ some) t = scan_fed j.set MAX_COUNT c some s t f.2.scan fits refl in
      let scanned : IsScan j.set MAX_COUNT (brought n now) t = subst (λ x. IsScan j.set MAX_COUNT x t) (sym (of_this n done some)) scan in
      let stays : (v : Option Verdict) → if_found t ≡ v → IsUnhit v → Follows j.set sets now (Ok (None, record j { held = with j.held n t })) = λ v same un. (
        refl,
        record {
          held = put_in (IsHeld j.set done) (IsHeld j.set now) n 0 j.last j.last t j.held (λ e other h. keeps j.set done o e (none e.0 other) h) f.0 old (omega arith)
              (record { scan = scanned; unhit = subst IsUnhit (sym same) un }) so.held;
          new = λ m lt. quiet m done o (none m (λ same. omega (arith, old, lt, same))) ∙ so.new m lt;
          few = omega (arith, as_many (IsHeld j.set done) n 0 j.last s t j.held so.held is, so.few);
        },
        λ among solid. tt,
      ) in
      (elim (if_found t) as (λ v. if_found t ≡ v → Follows j.set sets now (moves j n t v)) [
        | None ↦ λ same. stays None same tt
        | Some Clean ↦ λ same. stays (Some Clean) same tt
        | Some (Infected i e) ↦ λ same.
            ended n o (Some (word.Infected n j.set.version i e)) old none
            (λ among solid. (j.set, among, refl, hit_is (verdict j.set.patterns (brought n now)) i e (sym same ∙ scan_hit j.set MAX_COUNT (brought n now) t scanned solid)))
      ]) refl

  brings_follows : (n : ℕ) (some : List ℕ) → n ≤ j.last → Follows j.set sets (done ++ Brings n some ∷ []) (brings j n some (at j.held n))
  brings_follows n some old =
      let now = done ++ Brings n some ∷ [] in
      (elim (at j.held n) as (λ s. at j.held n ≡ s → Follows j.set sets now (brings j n some s)) [
        | None ↦ λ is. not_held n (Brings n some) old (λ m other. of_another m n some other) is
        | Some s ↦ λ is. follow_if j.set sets now (nat_lt MAX_COUNT (s.fed + length some)) _ _ (λ e. tt) (λ fits. moves_follows n some s old is (ltb-false _ _ fits))
      ]) refl

  ends_follows : (n count : ℕ) → n ≤ j.last → Follows j.set sets (done ++ Ends n count ∷ []) (ends j n count (at j.held n))
  unfolding brought
  ends_follows n count old =
      let o = Ends n count in
      let now = done ++ o ∷ [] in
      (elim (at j.held n) as (λ s. at j.held n ≡ s → Follows j.set sets now (ends j n count s)) [
        | None ↦ λ is. not_held n o old (λ m other. refl) is
        | Some s ↦ λ is. follow_if j.set sets now (nat_eq s.fed count) _ _
            (λ same.
            let f = found (IsHeld j.set done) n 0 j.last s j.held so.held is in
            let h = keeps j.set done o (n, s) refl f.2 in
            ended n o (Some (word.Clean n j.set.version count)) old (λ m other. refl) (λ among solid. (
              j.set,
              among,
              refl,
              among_right o done (o ∷ []) (inl refl),
              sym (scan_counts j.set MAX_COUNT (brought n now) s h.scan) ∙ eqb-true s.fed count same,
              unhit_is (verdict j.set.patterns (brought n now)) (if_found s) h.unhit (scan_hit j.set MAX_COUNT (brought n now) s h.scan solid),
            )))
            (λ e. tt)
      ]) refl

  drops_follows : (n : ℕ) → n ≤ j.last → Follows j.set sets (done ++ Drops n ∷ []) (Ok (None, record j { held = without j.held n }))
  unfolding brought
  drops_follows n old = ended n (Drops n) None old (λ m other. refl) (λ among solid. tt)

  known_follows : (n : ℕ) (o : Order) (t : Turn) → (n ≤ j.last → Follows j.set sets (done ++ o ∷ []) t) → Follows j.set sets (done ++ o ∷ []) (known j n t)
  known_follows n o t follows =
      follow_if j.set sets (done ++ o ∷ []) (nat_le 1 n && nat_le n j.last) _ _ (λ e. follows (leb-true _ _ (and_parts _ _ e).1)) (λ e. tt)

  turn_follows : (o : Order) → Follows j.set sets (done ++ o ∷ []) (obeyed j o)
  unfolding obeyed
  turn_follows (Begins n) = begins_follows n
  turn_follows (Brings n some) = known_follows n (Brings n some) _ (brings_follows n some)
  turn_follows (Ends n count) = known_follows n (Ends n count) _ (ends_follows n count)
  turn_follows (Drops n) = known_follows n (Drops n) _ (drops_follows n)

-- ---- all that happens

each_more : {A : Type 0} (P : A → Type 0) (xs ys : List A) → Each P xs → Each P ys → Each P (xs ++ ys)
each_more P [] ys all more = more
each_more P (x ∷ xs) ys all more = (all.0, each_more P xs ys all.1 more)

each_both : {A : Type 0} (P Q : A → Type 0) (xs : List A) → Each P xs → Each Q xs → Each (λ x. P x × Q x) xs
each_both P Q [] ps qs = tt
each_both P Q (x ∷ xs) ps qs = ((ps.0, qs.0), each_both P Q xs ps.1 qs.1)

first_set : (P : Compiled → Type 0) (hs : List Happening) (set : Compiled) → Each P (sets_of set hs) → P set
unfolding sets_of
first_set P [] set all = all.0
first_set P (Comes o ∷ hs) set all = first_set P hs set all
first_set P (Renews newer ∷ hs) set all = all.0

ended_right : (sets : List Compiled) (all : List Order) (held : List (ℕ × ScanState)) → Each (IsRightThen sets all) (ended_by_newer held)
ended_right sets all [] = tt
ended_right sets all (e ∷ held) = (([], all, refl, tt), ended_right sets all held)

abbrev IsGood : List Compiled → Compiled → Type 0
IsGood sets s = Among s sets × AreSolid s.patterns

abbrev Goes : List Compiled → List Order → List Compiled → Judging → List Word → List Word → Type 0
Goes sets all coming j said words = IsSoFar all j × (Each (IsGood sets) coming → Each (IsRightThen sets all) said → Each (IsRightThen sets all) words)

goes : (sets : List Compiled) (all : List Order) (hs : List Happening) (j last : Judging) (done : List Order) (said words : List Word)
    → all ≡ done ++ orders_of hs → IsSoFar done j → judged hs j said ≡ Ok (last, words) → Goes sets all (sets_of j.set hs) last said words
unfolding judged orders_of sets_of
goes sets all [] j last done said words is so e =
    let pairs : ◌≡◌ {A = Judging × List Word} (j, said) (last, words) = cc in
    let whole : all ≡ done = is ∙ append-nil done in
    (subst (λ p. IsSoFar all p.0) pairs (subst (λ d. IsSoFar d j) (sym whole) so), λ good right. subst (λ p. Each (IsRightThen sets all) p.1) pairs right)
goes sets all (Comes o ∷ hs) j last done said words is so e =
    let now = done ++ o ∷ [] in
    let rest : all ≡ now ++ orders_of hs = is ∙ sym (append_assoc done (o ∷ []) (orders_of hs)) in
    (elim (obeyed j o) as (λ t. Follows j.set sets now t → then_by (judged hs) (by_turn said t) ≡ Ok (last, words) → Goes sets all (sets_of j.set hs) last said words) [
      | Ok (None, k) ↦ λ f go. subst (λ set. Goes sets all (sets_of set hs) last said words) f.0 (goes sets all hs k last now said words rest f.1 go)
      | Ok (Some w, k) ↦ λ f go.
          let others = subst (λ set. Goes sets all (sets_of set hs) last (said ++ w ∷ []) words) f.0 (goes sets all hs k last now (said ++ w ∷ []) words rest f.1 go) in (
            others.0,
            λ good right.
                let first = first_set (IsGood sets) hs j.set good in
                let here : IsRightThen sets all w = (now, orders_of hs, rest, f.2 first.0 first.1) in
                others.1 good (each_more (IsRightThen sets all) said (w ∷ []) right (here, tt)),
          )
      | Err fault ↦ λ f go. absurd cc
    ]) (turn_follows sets done j so o) e
goes sets all (Renews set ∷ hs) j last done said words is so e =
    let after_it : IsSoFar done (renewed j set) = record { held = tt; new = so.new; few = omega arith } in
    let others = goes sets all hs (renewed j set) last done (said ++ ended_by_newer j.held) words is after_it e in
    (others.0, λ good right. others.1 good.1 (each_more (IsRightThen sets all) said (ended_by_newer j.held) right (ended_right sets all j.held)))

at_first : (set : Compiled) → IsSoFar [] (begun set)
unfolding brought
at_first set = record { held = tt; new = λ n lt. refl; few = omega arith }

pub judges_are_right : JudgesAreRight
judges_are_right set hs j words e solid =
    let sets = sets_of set hs in
    (goes sets (orders_of hs) hs (begun set) j [] [] words refl (at_first set) e).1
    (each_both (λ s. Among s sets) (λ (s : Compiled). AreSolid s.patterns) sets (each_self sets) solid) tt

pub holds_few : HoldsFew
holds_few set hs j words e = (goes [] (orders_of hs) hs (begun set) j [] [] words refl (at_first set) e).0.few
