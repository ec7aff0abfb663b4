-- What is counted of asks in line stays so.
use Rattle.std.proofs.Common.{arith, ap, sym, subst, refl, ◌∙◌, ◌≡◌, ◌≤◌, ℕ, zero, suc, ◌+◌, ◌-◌, Bool, true, false, cond, List, [], ◌∷◌, ◌++◌, drop, length, nat_eq, nat_le, nat_lt, ◌||◌, ◌&&◌, is_none, slice_get, if◌then◌else◌, Option, None, Some, is_some, Result, Ok, Err, IfSome, OnErr, OnOk, length-append}
use Rattle.std.specs.Option.{option_map, unwrap_or}
use Rattle.std.specs.Result.{result_ok}
use Rattle.std.specs.Ordering.{nat_cmp}
use Rattle.std.specs.BTreeMap.{insert_entry, is_at}
use Rattle.std.specs.Map.{set_value}
use Rattle.std.proofs.lemmas.Bool.Decides.{nat_tests}
use Rattle.av_turns.specs.Client.{came, granted, large_left, large_stood, may_parse, over, sent, settled, small_left, small_stood, weight_of, written}
use Rattle.av_turns.specs.Clients.{Admits, at, GrantsMany, GrantsOne, IsServed, Looks, marked, Puts, State}
use Rattle.av_turns.specs.Counts.{AreCounted, bytes_in, Counts, counts_of, first_in, IsCounted, kept_at, kept_of}
use Rattle.av_turns.specs.Line.{Asked, IsBare, IsFirst, IsInFront, Lined, queue_of, SameAsks, Sets}
use Rattle.std.specs.declared.alloc.AllocError.{AllocError}
use Rattle.av_turns.specs.declared.client.Client.{Client}
use Rattle.av_turns.specs.declared.clients.Granted.{Granted}
use Rattle.av_turns.specs.declared.clients.Granted.TheVariants.{Given, NoMemory, Waits}
use Rattle.av_turns.specs.declared.clients.Look.{Look}
use Rattle.av_turns.specs.declared.clients.Look.TheVariants.{Later, Nobody, Turn}
use Rattle.av_turns.specs.declared.line.First.{First}
use Rattle.av_turns.specs.declared.client.Left.{Left}
use Rattle.av_turns.specs.declared.client.Left.TheVariants.{Nothing, Part, Whole, Held}
use Rattle.av_turns.proofs.ClientsLemmas.{at_insert, at_set}

kept_by : (b : Bool) (c : Client) (o : Option Client) → option_map kept_of (cond b (Some c) o) ≡ cond b (Some (kept_of c)) (option_map kept_of o)
kept_by true c o = refl
kept_by false c o = refl

-- a client's counts are these now
pub kept_put : (q n : ℕ) (clients : List (ℕ × Client)) (was c : Client) → at clients n ≡ Some was → kept_at (set_value (is_at (nat_cmp n)) clients c) q ≡ cond (nat_eq q n) (Some (kept_of c)) (kept_at clients q)
kept_put q n clients was c there = ap (option_map kept_of) (at_set q n clients was c there) ∙ kept_by (nat_eq q n) c (at clients q)

pub kept_insert : (q n : ℕ) (clients : List (ℕ × Client)) (c : Client) → kept_at (insert_entry nat_cmp clients n (marked c)) q ≡ cond (nat_eq q n) (Some (kept_of c)) (kept_at clients q)
kept_insert q n clients c = ap (option_map kept_of) (at_insert q n clients (marked c)) ∙ kept_by (nat_eq q n) (marked c) (at clients q)

same_by : (b : Bool) (q n : ℕ) (clients : List (ℕ × Client)) (was c : Client) → at clients n ≡ Some was → kept_of c ≡ kept_of was → nat_eq q n ≡ b → cond b (Some (kept_of c)) (kept_at clients q) ≡ kept_at clients q
same_by true q n clients was c there same e =
    let here : q ≡ n = grind (arith, nat_tests, e) in
    ap Some same ∙ sym (ap (kept_at clients) here ∙ ap (option_map kept_of) there)
same_by false q n clients was c there same e = refl

-- other counts of a client have changed
pub kept_same : (q n : ℕ) (clients : List (ℕ × Client)) (was c : Client) → at clients n ≡ Some was → kept_of c ≡ kept_of was → kept_at (set_value (is_at (nat_cmp n)) clients c) q ≡ kept_at clients q
kept_same q n clients was c there same = kept_put q n clients was c there ∙ same_by (nat_eq q n) q n clients was c there same refl

pub kept_granted : (count : ℕ) (old new : State) (q : ℕ) → GrantsMany count old new → kept_at new.clients q ≡ kept_at old.clients q
kept_granted zero old new q many = ap (λ s. kept_at s.clients q) many
kept_granted (suc count) old new q many =
    let one = many.1.2 in
    kept_granted count many.0 new q many.2 ∙ ap (λ e. kept_at e q) one.puts.counts ∙ kept_same q many.1.0 old.clients many.1.1 (marked (granted many.1.1)) one.there refl

-- the same counts are kept, and each has the asks that it had
pub stays : (old new : List (ℕ × Client)) (s s2 l l2 : List (ℕ × List Asked)) → AreCounted old s l → ((q : ℕ) → kept_at new q ≡ kept_at old q) → SameAsks s s2 → SameAsks l l2 → AreCounted new s2 l2
stays old new s s2 l l2 counted kept small large =
    λ q. subst (λ k. IsCounted k (queue_of s2 q) (queue_of l2 q)) (sym (kept q)) (subst (λ a. IsCounted (kept_at old q) a (queue_of l2 q)) (sym (small q)) (subst (λ a. IsCounted (kept_at old q) (queue_of s q) a) (sym (large q)) (counted q)))

changes_by : (b : Bool) (old new : List (ℕ × Client)) (s s2 l l2 : List (ℕ × List Asked)) (n q : ℕ) → AreCounted old s l → (nat_eq q n ≡ false → kept_at new q ≡ kept_at old q) → (nat_eq q n ≡ false → queue_of s2 q ≡ queue_of s q)
    → (nat_eq q n ≡ false → queue_of l2 q ≡ queue_of l q) → IsCounted (kept_at new n) (queue_of s2 n) (queue_of l2 n) → nat_eq q n ≡ b → IsCounted (kept_at new q) (queue_of s2 q) (queue_of l2 q)
changes_by true old new s s2 l l2 n q counted kept small large here e =
    let same : n ≡ q = grind (arith, nat_tests, e) in
    subst (λ m. IsCounted (kept_at new m) (queue_of s2 m) (queue_of l2 m)) same here
changes_by false old new s s2 l l2 n q counted kept small large here e =
    subst (λ k. IsCounted k (queue_of s2 q) (queue_of l2 q)) (sym (kept e)) (subst (λ a. IsCounted (kept_at old q) a (queue_of l2 q)) (sym (small e)) (subst (λ a. IsCounted (kept_at old q) (queue_of s q) a) (sym (large e)) (counted q)))

-- of one client the counts and the asks have changed
pub changes : (old new : List (ℕ × Client)) (s s2 l l2 : List (ℕ × List Asked)) (n : ℕ) → AreCounted old s l → ((q : ℕ) → nat_eq q n ≡ false → kept_at new q ≡ kept_at old q) → ((q : ℕ) → nat_eq q n ≡ false → queue_of s2 q ≡ queue_of s q)
    → ((q : ℕ) → nat_eq q n ≡ false → queue_of l2 q ≡ queue_of l q) → IsCounted (kept_at new n) (queue_of s2 n) (queue_of l2 n) → AreCounted new s2 l2
changes old new s s2 l l2 n counted kept small large here = λ q. changes_by (nat_eq q n) old new s s2 l l2 n q counted (kept q) (small q) (large q) here refl

settled_by : (b : Bool) (c : Client) → kept_of (cond b c (record c { share = 0 })) ≡ kept_of c
settled_by true c = refl
settled_by false c = refl

pub kept_settled : (c : Client) → kept_of (settled c) ≡ kept_of c
kept_settled c = settled_by (c.filling || is_some c.next_large || nat_lt 0 c.want || nat_lt 8192 (c.input + c.lined)) c

came_by : (b : Bool) (count now : ℕ) (more : Bool) (c : Client)
    → kept_of (cond b (record c { readable = more }) (record c { readable = more; input = c.input + count; first = Some (unwrap_or c.first now); idle = None })) ≡ kept_of c
came_by true count now more c = refl
came_by false count now more c = refl

pub kept_came : (count now : ℕ) (more : Bool) (c : Client) → kept_of (came count more now c) ≡ kept_of c
kept_came count now more c = came_by (nat_eq count 0) count now more c

pub kept_over : (left : Left) (now : ℕ) (c : Client) → kept_of (over left now c) ≡ kept_of c
kept_over Nothing now c = refl
kept_over (Whole held) now c = refl
kept_over (Part held total) now c = refl
kept_over (Held held) now c = refl

written_by : (all much : Bool) (count now : ℕ) (c : Client)
    → kept_of (cond all (sent now c) (cond much (record c { out = c.out - count; taken = 0; waits = Some now }) (record c { out = c.out - count; taken = c.taken + count }))) ≡ kept_of c
written_by true much count now c = refl
written_by false true count now c = refl
written_by false false count now c = refl

pub kept_written : (count now : ℕ) (c : Client) → kept_of (written count now c) ≡ kept_of c
kept_written count now c = written_by (nat_le c.out count) (nat_le 4096 (c.taken + count)) count now c

-- a client's counts are put, and those of its asks in line are as before
pub kept_told : (old new : State) (n q : ℕ) (c k : Client) → at old.clients n ≡ Some c → kept_of k ≡ kept_of c → IfSome (at old.clients n) (λ was. Puts old new n was (settled k)) → kept_at new.clients q ≡ kept_at old.clients q
kept_told old new n q c k there same puts =
    let counts = subst (λ o. IfSome o (λ was. Puts old new n was (settled k))) there puts in
    ap (λ e. kept_at e q) counts.counts ∙ kept_same q n old.clients c (marked (settled k)) there (kept_settled k ∙ same)

pub kept_told_or_not : (r : Result (Unit {0}) AllocError) (old new : State) (n q : ℕ) (c k : Client) → at old.clients n ≡ Some c → kept_of k ≡ kept_of c → OnOk r (IfSome (at old.clients n) (λ was. Puts old new n was (settled k)))
    → OnErr r (new ≡ old) → kept_at new.clients q ≡ kept_at old.clients q
kept_told_or_not (Ok u) old new n q c k there same puts unchanged = kept_told old new n q c k there same puts
kept_told_or_not (Err e) old new n q c k there same puts unchanged = ap (λ s. kept_at s.clients q) unchanged

-- a client's counts are put
pub kept_changed : (old new : State) (n q : ℕ) (c k : Client) → at old.clients n ≡ Some c → IfSome (at old.clients n) (λ was. Puts old new n was (settled k)) → kept_at new.clients q ≡ cond (nat_eq q n) (Some (kept_of k)) (kept_at old.clients q)
kept_changed old new n q c k there puts =
    let counts = subst (λ o. IfSome o (λ was. Puts old new n was (settled k))) there puts in
    ap (λ e. kept_at e q) counts.counts ∙ kept_put q n old.clients c (marked (settled k)) there ∙ ap (λ j. cond (nat_eq q n) (Some j) (kept_at old.clients q)) (kept_settled k)

first_of_more : (asks : List Asked) (a : Asked) → first_in (asks ++ a ∷ []) ≡ Some (unwrap_or (first_in asks) a.first)
first_of_more [] a = refl
first_of_more (x ∷ asks) a = refl

bytes_of_more : (asks : List Asked) (a : Asked) → bytes_in (asks ++ a ∷ []) ≡ bytes_in asks + length a.content
bytes_of_more [] a = grind (arith)
bytes_of_more (x ∷ asks) a = grind (arith, bytes_of_more asks a)

abbrev told_as : ℕ → Option ℕ → Option ℕ → ℕ → Counts
told_as small next large bytes = record { small = small; next_small = next; next_large = large; bytes = bytes }

same_counts : (small small2 : ℕ) (next next2 large large2 : Option ℕ) (bytes bytes2 : ℕ) → small ≡ small2 → next ≡ next2 → large ≡ large2 → bytes ≡ bytes2 → told_as small next large bytes ≡ told_as small2 next2 large2 bytes2
same_counts small small2 next next2 large large2 bytes bytes2 one two three four =
    ap (λ x. told_as x next large bytes) one ∙ ap (λ x. told_as small2 x large bytes) two ∙ ap (λ x. told_as small2 next2 x bytes) three ∙ ap (told_as small2 next2 large2) four

-- another small ask of a client is in line
pub small_counted : (c : Client) (a : Asked) (small large : List Asked) → IsCounted (Some (kept_of c)) small large → IsCounted (Some (kept_of (small_stood (length a.content) a.first c))) (small ++ a ∷ []) large
small_counted c a small large counted =
    let k = counted.0 in (
      same_counts (c.line + 1) (length (small ++ a ∷ [])) (Some (unwrap_or c.next_small a.first)) (first_in (small ++ a ∷ [])) c.next_large (first_in large) (c.lined + length a.content) (bytes_in (small ++ a ∷ []) + bytes_in large)
          (grind (arith, ap (λ j. j.small) k, length-append small (a ∷ []))) (ap (λ j. Some (unwrap_or j.next_small a.first)) k ∙ sym (first_of_more small a)) (ap (λ j. j.next_large) k) (grind (arith, ap (λ j. j.bytes) k, bytes_of_more small a)),
      counted.1,
    )

none_in : (asks : List Asked) → first_in asks ≡ None → asks ≡ []
none_in [] h = refl
none_in (a ∷ asks) h = grind (arith, h)

-- the large ask of a client is in line
pub large_counted : (c : Client) (a : Asked) (small large : List Asked) → c.next_large ≡ None → IsCounted (Some (kept_of c)) small large → IsCounted (Some (kept_of (large_stood (length a.content) a.first c))) small (large ++ a ∷ [])
large_counted c a small large none counted =
    let k = counted.0 in
    let bare : large ≡ [] = none_in large (sym (ap (λ j. j.next_large) k) ∙ none) in (
      same_counts c.line (length small) c.next_small (first_in small) (Some a.first) (first_in (large ++ a ∷ [])) (c.lined + length a.content) (bytes_in small + bytes_in (large ++ a ∷ []))
          (ap (λ j. j.small) k) (ap (λ j. j.next_small) k) (sym (ap (λ l. first_in (l ++ a ∷ [])) bare)) (grind (arith, ap (λ j. j.bytes) k, bytes_of_more large a)),
      subst (λ l. length (l ++ a ∷ []) ≤ 1) (sym bare) (grind (arith)),
    )

-- the first small ask of a client left the line
pub small_gone : (c : Client) (a : Asked) (size : ℕ) (next : Option ℕ) (rest large : List Asked) → size ≡ length a.content → next ≡ first_in rest → IsCounted (Some (kept_of c)) (a ∷ rest) large → IsCounted (Some (kept_of (small_left size next c))) rest large
small_gone c a size next rest large long behind counted =
    let k = counted.0 in (
      same_counts (c.line - 1) (length rest) next (first_in rest) c.next_large (first_in large) (c.lined - size) (bytes_in rest + bytes_in large)
          (grind (arith, ap (λ j. j.small) k)) behind (ap (λ j. j.next_large) k) (grind (arith, ap (λ j. j.bytes) k, long)),
      counted.1,
    )

none_behind : (a : Asked) (rest : List Asked) → length (a ∷ rest) ≤ 1 → rest ≡ []
none_behind a [] h = refl
none_behind a (x ∷ rest) h = absurd (grind (arith, h))

-- the large ask of a client left the line
pub large_gone : (c : Client) (a : Asked) (size : ℕ) (small rest : List Asked) → size ≡ length a.content → IsCounted (Some (kept_of c)) small (a ∷ rest) → IsCounted (Some (kept_of (large_left size c))) small rest
large_gone c a size small rest long counted =
    let k = counted.0 in
    let bare : rest ≡ [] = none_behind a rest counted.1 in (
      same_counts c.line (length small) c.next_small (first_in small) None (first_in rest) (c.lined - size) (bytes_in small + bytes_in rest)
          (ap (λ j. j.small) k) (ap (λ j. j.next_small) k) (sym (ap first_in bare)) (grind (arith, ap (λ j. j.bytes) k, long)),
      subst (λ l. length l ≤ 1) (sym bare) (grind (arith)),
    )

-- a client's counts are put, or memory was refused: those of its asks in line are as before
pub still_counted : (r : Result (Unit {0}) AllocError) (old new : State) (most n : ℕ) (s l : List (ℕ × List Asked)) (c k : Client) → (length old.clients ≤ most) × AreCounted old.clients s l → at old.clients n ≡ Some c → kept_of k ≡ kept_of c
    → OnOk r (IfSome (at old.clients n) (λ was. Puts old new n was (settled k))) → OnErr r (new ≡ old) → length new.clients ≡ length old.clients → (length new.clients ≤ most) × AreCounted new.clients s l
still_counted r old new most n s l c k counted there same puts unchanged long =
    (subst (λ x. x ≤ most) (sym long) counted.0, stays old.clients new.clients s s l l counted.1 (λ q. kept_told_or_not r old new n q c k there same puts unchanged) (λ q. refl) (λ q. refl))

-- a look at the ring changes no count of an ask in line
pub kept_looked : (look : Look) (old new : State) (q : ℕ) → Looks old new look → kept_at new.clients q ≡ kept_at old.clients q
kept_looked (Turn n) old new q looks = ap (λ s. kept_at s.clients q) looks.1
kept_looked Later old new q looks = ap (λ e. kept_at e q) looks.counts ∙ kept_same q looks.who old.clients looks.was (record looks.was { is_ready = false }) looks.there refl
kept_looked Nobody old new q looks = ap (λ s. kept_at s.clients q) looks.0

-- nor does a share that was given, or not
pub kept_shared : (r : Granted) (old new : State) (q : ℕ) → (r ≡ Given → GrantsOne old new) → (r ≡ Waits → (new ≡ old) × IsServed new) → (r ≡ NoMemory → new ≡ old) → kept_at new.clients q ≡ kept_at old.clients q
kept_shared Given old new q given waits refused = kept_granted 1 old new q (new, given refl, refl)
kept_shared Waits old new q given waits refused = ap (λ s. kept_at s.clients q) (waits refl).0
kept_shared NoMemory old new q given waits refused = ap (λ s. kept_at s.clients q) (refused refl)

its_own : (n : ℕ) → nat_eq n n ≡ true
its_own n = grind (arith, nat_tests)

counted_at : (clients : List (ℕ × Client)) (s l : List (ℕ × List Asked)) (n : ℕ) (c : Client) → AreCounted clients s l → at clients n ≡ Some c → IsCounted (Some (kept_of c)) (queue_of s n) (queue_of l n)
counted_at clients s l n c counted there = subst (λ o. IsCounted o (queue_of s n) (queue_of l n)) (ap (option_map kept_of) there) (counted n)

kept_here : (old new : State) (n : ℕ) (c k : Client) → at old.clients n ≡ Some c → IfSome (at old.clients n) (λ was. Puts old new n was (settled k)) → kept_at new.clients n ≡ Some (kept_of k)
kept_here old new n c k there puts = kept_changed old new n n c k there puts ∙ ap (λ b. cond b (Some (kept_of k)) (kept_at old.clients n)) (its_own n)

kept_others : (old new : State) (n q : ℕ) (c k : Client) → at old.clients n ≡ Some c → IfSome (at old.clients n) (λ was. Puts old new n was (settled k)) → nat_eq q n ≡ false → kept_at new.clients q ≡ kept_at old.clients q
kept_others old new n q c k there puts e = kept_changed old new n q c k there puts ∙ ap (λ b. cond b (Some (kept_of k)) (kept_at old.clients q)) e

set_others : (s s2 : List (ℕ × List Asked)) (n q : ℕ) (queue : List Asked) → Sets s s2 n queue → nat_eq q n ≡ false → queue_of s2 q ≡ queue_of s q
set_others s s2 n q queue sets e = sets q ∙ ap (λ b. cond b queue (queue_of s q)) e

set_here : (s s2 : List (ℕ × List Asked)) (n : ℕ) (queue : List Asked) → Sets s s2 n queue → queue_of s2 n ≡ queue
set_here s s2 n queue sets = sets n ∙ ap (λ b. cond b queue (queue_of s n)) (its_own n)

-- another small ask of a client is in line
pub small_stands : (old new : State) (most n : ℕ) (s s2 l : List (ℕ × List Asked)) (c k : Client) (a : Asked) → (length old.clients ≤ most) × AreCounted old.clients s l → at old.clients n ≡ Some c → k ≡ small_stood (length a.content) a.first c
    → IfSome (at old.clients n) (λ was. Puts old new n was (settled k)) → Sets s s2 n (queue_of s n ++ a ∷ []) → length new.clients ≡ length old.clients → (length new.clients ≤ most) × AreCounted new.clients s2 l
small_stands old new most n s s2 l c k a counted there is puts sets long =
    let here = small_counted c a (queue_of s n) (queue_of l n) (counted_at old.clients s l n c counted.1 there) in (
      subst (λ x. x ≤ most) (sym long) counted.0,
      changes old.clients new.clients s s2 l l n counted.1 (λ q e. kept_others old new n q c k there puts e) (λ q e. set_others s s2 n q (queue_of s n ++ a ∷ []) sets e) (λ q e. refl)
          (subst (λ o. IsCounted o (queue_of s2 n) (queue_of l n)) (sym (kept_here old new n c k there puts ∙ ap (λ j. Some (kept_of j)) is)) (subst (λ x. IsCounted (Some (kept_of (small_stood (length a.content) a.first c))) x (queue_of l n)) (sym (set_here s s2 n (queue_of s n ++ a ∷ []) sets)) here)),
    )

-- the large ask of a client is in line
pub large_stands : (old new : State) (most n : ℕ) (s l l2 : List (ℕ × List Asked)) (c k : Client) (a : Asked) → (length old.clients ≤ most) × AreCounted old.clients s l → at old.clients n ≡ Some c → c.next_large ≡ None → k ≡ large_stood (length a.content) a.first c
    → IfSome (at old.clients n) (λ was. Puts old new n was (settled k)) → Sets l l2 n (queue_of l n ++ a ∷ []) → length new.clients ≡ length old.clients → (length new.clients ≤ most) × AreCounted new.clients s l2
large_stands old new most n s l l2 c k a counted there none is puts sets long =
    let here = large_counted c a (queue_of s n) (queue_of l n) none (counted_at old.clients s l n c counted.1 there) in (
      subst (λ x. x ≤ most) (sym long) counted.0,
      changes old.clients new.clients s s l l2 n counted.1 (λ q e. kept_others old new n q c k there puts e) (λ q e. refl) (λ q e. set_others l l2 n q (queue_of l n ++ a ∷ []) sets e)
          (subst (λ o. IsCounted o (queue_of s n) (queue_of l2 n)) (sym (kept_here old new n c k there puts ∙ ap (λ j. Some (kept_of j)) is)) (subst (λ x. IsCounted (Some (kept_of (large_stood (length a.content) a.first c))) (queue_of s n) x) (sym (set_here l l2 n (queue_of l n ++ a ∷ []) sets)) here)),
    )

length_is : (size : ℕ) (a : Asked) (rest asks : List Asked) → asks ≡ a ∷ rest → Some size ≡ option_map (λ a. length a.content) (slice_get asks 0) → size ≡ length a.content
length_is size a rest asks is first = grind (arith, first ∙ ap (λ x. option_map (λ a. length a.content) (slice_get x 0)) is)

second_by : (a : Asked) (rest : List Asked) → option_map (λ a. a.first) (slice_get (a ∷ rest) 1) ≡ first_in rest
second_by a [] = refl
second_by a (x ∷ rest) = refl

second_is : (next : Option ℕ) (a : Asked) (rest asks : List Asked) → asks ≡ a ∷ rest → next ≡ option_map (λ a. a.first) (slice_get asks 1) → next ≡ first_in rest
second_is next a rest asks is behind = behind ∙ ap (λ x. option_map (λ a. a.first) (slice_get x 1)) is ∙ second_by a rest

-- the first small ask of a client left the line
pub small_leaves : (old new : State) (most n : ℕ) (s s2 l : List (ℕ × List Asked)) (c k : Client) (a : Asked) (f : First) → (length old.clients ≤ most) × AreCounted old.clients s l → at old.clients n ≡ Some c → k ≡ small_left f.length f.next c
    → IfSome (at old.clients n) (λ was. Puts old new n was (settled k)) → f.client ≡ n → IsFirst s f → queue_of s n ≡ a ∷ queue_of s2 n → ((q : ℕ) → nat_eq q n ≡ false → queue_of s2 q ≡ queue_of s q)
    → length new.clients ≡ length old.clients → (length new.clients ≤ most) × AreCounted new.clients s2 l
small_leaves old new most n s s2 l c k a f counted there is puts same first ask others long =
    let before = subst (λ x. IsCounted (Some (kept_of c)) x (queue_of l n)) ask (counted_at old.clients s l n c counted.1 there) in
    let here = small_gone c a f.length f.next (queue_of s2 n) (queue_of l n) (length_is f.length a (queue_of s2 n) (queue_of s n) ask (subst (λ m. Some f.length ≡ option_map (λ a. length a.content) (slice_get (queue_of s m) 0)) same first.length)) (second_is f.next a (queue_of s2 n) (queue_of s n) ask (subst (λ m. f.next ≡ option_map (λ a. a.first) (slice_get (queue_of s m) 1)) same first.next)) before in (
      subst (λ x. x ≤ most) (sym long) counted.0,
      changes old.clients new.clients s s2 l l n counted.1 (λ q e. kept_others old new n q c k there puts e) others (λ q e. refl)
          (subst (λ o. IsCounted o (queue_of s2 n) (queue_of l n)) (sym (kept_here old new n c k there puts ∙ ap (λ j. Some (kept_of j)) is)) here),
    )

-- the large ask of a client left the line
pub large_leaves : (old new : State) (most n : ℕ) (s l l2 : List (ℕ × List Asked)) (c k : Client) (a : Asked) (f : First) → (length old.clients ≤ most) × AreCounted old.clients s l → at old.clients n ≡ Some c → k ≡ large_left f.length c
    → IfSome (at old.clients n) (λ was. Puts old new n was (settled k)) → f.client ≡ n → IsFirst l f → queue_of l n ≡ a ∷ queue_of l2 n → ((q : ℕ) → nat_eq q n ≡ false → queue_of l2 q ≡ queue_of l q)
    → length new.clients ≡ length old.clients → (length new.clients ≤ most) × AreCounted new.clients s l2
large_leaves old new most n s l l2 c k a f counted there is puts same first ask others long =
    let before = subst (λ x. IsCounted (Some (kept_of c)) (queue_of s n) x) ask (counted_at old.clients s l n c counted.1 there) in
    let here = large_gone c a f.length (queue_of s n) (queue_of l2 n) (length_is f.length a (queue_of l2 n) (queue_of l n) ask (subst (λ m. Some f.length ≡ option_map (λ a. length a.content) (slice_get (queue_of l m) 0)) same first.length)) before in (
      subst (λ x. x ≤ most) (sym long) counted.0,
      changes old.clients new.clients s s l l2 n counted.1 (λ q e. kept_others old new n q c k there puts e) (λ q e. refl) others
          (subst (λ o. IsCounted o (queue_of s n) (queue_of l2 n)) (sym (kept_here old new n c k there puts ∙ ap (λ j. Some (kept_of j)) is)) here),
    )

absent : (clients : List (ℕ × Client)) (s l : List (ℕ × List Asked)) (n : ℕ) → AreCounted clients s l → at clients n ≡ None → (queue_of s n ≡ []) × (queue_of l n ≡ [])
absent clients s l n counted none = subst (λ o. IsCounted o (queue_of s n) (queue_of l n)) (ap (option_map kept_of) none) (counted n)

bare : (f : First) (asks : List (ℕ × List Asked)) → IsFirst asks f → queue_of asks f.client ≡ [] → ⊥
bare f asks first none = grind (arith, first.length ∙ ap (λ x. option_map (λ a. length a.content) (slice_get x 0)) none)

-- who has an ask in line is there
pub small_there : (clients : List (ℕ × Client)) (s l : List (ℕ × List Asked)) (f : First) → AreCounted clients s l → IsFirst s f → at clients f.client ≡ None → ⊥
small_there clients s l f counted first none = bare f s first (absent clients s l f.client counted none).0

pub large_there : (clients : List (ℕ × Client)) (s l : List (ℕ × List Asked)) (f : First) → AreCounted clients s l → IsFirst l f → at clients f.client ≡ None → ⊥
large_there clients s l f counted first none = bare f l first (absent clients s l f.client counted none).1

-- a client that is let in has no ask in line
pub admitted_counted : (old new : State) (n : ℕ) (s l : List (ℕ × List Asked)) (c : Client) → AreCounted old.clients s l → at old.clients n ≡ None → kept_of c ≡ counts_of [] [] → Admits old new n c → AreCounted new.clients s l
admitted_counted old new n s l c counted none is admits =
    let away = absent old.clients s l n counted none in
    let kept : (q : ℕ) → kept_at new.clients q ≡ cond (nat_eq q n) (Some (kept_of c)) (kept_at old.clients q) = λ q. ap (λ e. kept_at e q) admits.counts ∙ kept_insert q n old.clients c in
    changes old.clients new.clients s s l l n counted (λ q e. kept q ∙ ap (λ b. cond b (Some (kept_of c)) (kept_at old.clients q)) e) (λ q e. refl) (λ q e. refl)
    (subst (λ o. IsCounted o (queue_of s n) (queue_of l n)) (sym (kept n ∙ ap (λ b. cond b (Some (kept_of c)) (kept_at old.clients n)) (its_own n) ∙ ap Some is))
    (subst (λ x. IsCounted (Some (counts_of [] [])) x (queue_of l n)) (sym away.0) (subst (λ x. IsCounted (Some (counts_of [] [])) [] x) (sym away.1) (refl, grind (arith)))))

gone_kept : (b : Bool) (o : Option Client) → option_map kept_of (cond b None o) ≡ cond b None (option_map kept_of o)
gone_kept true o = refl
gone_kept false o = refl

-- a client is gone with its asks
pub gone_counted : (old new : List (ℕ × Client)) (n : ℕ) (s s2 l l2 : List (ℕ × List Asked)) → AreCounted old s l → ((q : ℕ) → at new q ≡ (if nat_eq q n then None else at old q)) → Sets s s2 n [] → Sets l l2 n [] → AreCounted new s2 l2
gone_counted old new n s s2 l l2 counted gone small large =
    let kept : (q : ℕ) → kept_at new q ≡ cond (nat_eq q n) None (kept_at old q) = λ q. ap (option_map kept_of) (gone q) ∙ gone_kept (nat_eq q n) (at old q) in
    changes old new s s2 l l2 n counted (λ q e. kept q ∙ ap (λ b. cond b None (kept_at old q)) e) (λ q e. set_others s s2 n q [] small e) (λ q e. set_others l l2 n q [] large e)
    (subst (λ o. IsCounted o (queue_of s2 n) (queue_of l2 n)) (sym (kept n ∙ ap (λ b. cond b None (kept_at old n)) (its_own n))) (set_here s s2 n [] small, set_here l l2 n [] large))

pub not_there : (o : Option Client) → is_some o ≡ false → o ≡ None
not_there None h = refl
not_there (Some c) h = grind (arith, h)

none_by : (a b : Bool) (o : Option ℕ) → (a && b && is_none o) ≡ true → o ≡ None
none_by a b None h = refl
none_by true true (Some x) h = grind (arith, h)
none_by true false (Some x) h = grind (arith, h)
none_by false b (Some x) h = grind (arith, h)

-- a client of which another thing may be parsed has no large ask in line
pub no_large : (c : Client) → may_parse c ≡ true → c.next_large ≡ None
no_large c h = none_by (nat_le (weight_of c) 20480) (nat_lt c.line 16) c.next_large h

-- who stands in front has an ask
pub not_in_front : (l : Lined) (f : First) → IsInFront l f → IsBare l → ⊥
not_in_front l f front bare_line = bare f l.asks front.first (bare_line (drop 1 l.order) f.client front.front)

by_ok : (P : Type 0) (r : Result (Unit {0}) AllocError) (u : Unit {0}) → result_ok r ≡ Some u → OnOk r P → P
by_ok P (Ok u) v e h = h
by_ok P (Err x) v e h = absurd (grind (arith, e))

pub put_is_ok : (P : Type 0) (r : Result (Unit {0}) AllocError) (o : Option (Unit {0})) (u : Unit {0}) → o ≡ result_ok r → o ≡ Some u → OnOk r P → P
put_is_ok P r o u is some h = by_ok P r u (sym is ∙ some) h
