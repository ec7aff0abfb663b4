-- Grants are of what clients wrote, and clean.
use Rattle.std.proofs.Common.{◌≡◌, ℕ, ◌+◌, ◌-◌, ◌^◌, ◌<◌, ◌==◌, Bool, true, false, nat_eq, nat_lt, map, length, List, [], ◌∷◌, ◌++◌, is_some, Option, Some, None, Result, Ok, Err, cond, inl, refl, sym, ◌∙◌, ap, subst, arith, append_assoc, eqb-true}
use Rattle.std.specs.List.{AllByRecursion as Each}
use Rattle.std.proofs.lemmas.List.{append-nil, length-append}
use Rattle.std.proofs.lemmas.Bool.Decides.{nat_tests}
use Rattle.av_base.specs.Among.{Among}
use Rattle.av_base.proofs.AmongLemmas.{among_left, among_right}
use Rattle.av_large.specs.Calls.{answer_of, begins, brought_by, brings, decides, empty, ends, ends_at, expires, expires_at, grows, heard_of, not_taken, number_of, opened, unwelcome}
use Rattle.av_large.specs.Promise.{IsJust, IsSaidRight, LargeGrantsAreClean, JudgesSayRight, SaysRight, Writing, Written, begun_in, grown_in, sent_after, whole_of, writing_after, written_by, written_in}
use Rattle.av_large.specs.Run.{Event, Greets, Begin, Bring, End, Hears, IsLate, Leaves, Loses, begun, greeted, step_of, told_in, turned}
use Rattle.av_large.specs.State.{State, Step, at_first, forget, others, tell, theirs}
use Rattle.av_large.specs.declared.answer.Answer.{Answer}
use Rattle.av_large.specs.declared.answer.Answer.TheVariants.{Granted, Infected, Lacks, Unjudged}
use Rattle.av_large.specs.declared.answer.Told.{Told}
use Rattle.av_large.specs.declared.content.Content.{Content}
use Rattle.av_large.specs.declared.content.Ending.{Ending}
use Rattle.av_large.specs.declared.content.Ending.TheVariants.{Whole, GivenUp}
use Rattle.av_large.specs.declared.fault.BeginFault.{BeginFault}
use Rattle.av_large.specs.declared.fault.BeginFault.TheVariants.{NumbersSpent, Within}
use Rattle.av_large.specs.declared.fault.Unwelcome.{Unwelcome}
use Rattle.av_large.specs.declared.fault.Unwelcome.TheVariants.{Count, NotEnded}
use Rattle.av_large.specs.Laws.{GrantsNone}
use Rattle.av_large.proofs.FloorLemmas.{words_grant_at_the_floor}
use Rattle.av_asks.specs.declared.large_answer.LargeCause.TheVariants.{AskAgain}
use Rattle.av_parts.specs.declared.word.Unjudged.TheVariants.{Full, Newer}
use Rattle.av_large.proofs.MapLemmas.{by_number, found_other, found_without, here_with, other_with, other_without}
use Rattle.av_large.proofs.StateLemmas.{Inv, anothers, first_kept, held_rises, is_none, keeps, none_of, none_open, not_both, out, same_content}
use Rattle.av_match.specs.Match.{verdict}
use Rattle.av_match.specs.Scanning.{Compiled}
use Rattle.av_parts.proofs.JudgeLemmas.{judges_are_right}
use Rattle.av_parts.specs.Course.{IsRightThen, orders_of, sets_of}
use Rattle.av_parts.specs.Judge.{at, with, without}
use Rattle.av_parts.specs.Orders.{Order, Begins, Brings, Ends, Drops, brought, if_number}
use Rattle.av_parts.specs.declared.word.Word.{Word}
use Rattle.av_parts.specs.declared.word.Word.TheVariants as word

-- ---- what orders bring

brings_more : (n m : ℕ) (some xs ys : List ℕ) → if_number n m some (xs ++ ys) ≡ if_number n m some xs ++ ys
brings_more n m some xs ys =
    elim (nat_eq n m) as (λ b. cond b (some ++ (xs ++ ys)) (xs ++ ys) ≡ cond b (some ++ xs) xs ++ ys) [ true ↦ sym (append_assoc some xs ys) | false ↦ refl ]

brings_both : (n : ℕ) (a b all : List Order) → all ≡ a ++ b → brought n all ≡ brought n a ++ brought n b
unfolding brought
brings_both n [] b all is = ap (brought n) is
brings_both n (Begins m ∷ a) b all is = ap (brought n) is ∙ brings_both n a b (a ++ b) refl
brings_both n (Brings m some ∷ a) b all is = ap (brought n) is ∙ ap (if_number n m some) (brings_both n a b (a ++ b) refl) ∙ brings_more n m some (brought n a) (brought n b)
brings_both n (Ends m count ∷ a) b all is = ap (brought n) is ∙ brings_both n a b (a ++ b) refl
brings_both n (Drops m ∷ a) b all is = ap (brought n) is ∙ brings_both n a b (a ++ b) refl

-- these orders bring nothing
abbrev Nothing : List Order → Type 0
Nothing os = (n : ℕ) → brought n os ≡ []

as_before : (n : ℕ) (sent os : List Order) → brought n os ≡ [] → brought n (sent ++ os) ≡ brought n sent
as_before n sent os none = brings_both n sent os (sent ++ os) refl ∙ ap (λ c. brought n sent ++ c) none ∙ append-nil (brought n sent)

drops_nothing : (m : List (ℕ × Content)) → Nothing (map (λ e. Drops e.0) m)
unfolding brought
drops_nothing [] = λ n. refl
drops_nothing (e ∷ m) = λ n. drops_nothing m n

pub differ : (n m : ℕ) → (n ≡ m → ⊥) → nat_eq n m ≡ false
differ n m differs = (elim (nat_eq n m) as (λ b. nat_eq n m ≡ b → b ≡ false) [ true ↦ λ e. absurd (differs (eqb-true n m e)) | false ↦ λ e. refl ]) refl

of_another : (n m : ℕ) (some : List ℕ) → (n ≡ m → ⊥) → brought n (Brings m some ∷ []) ≡ []
unfolding brought
of_another n m some differs = ap (λ b. cond b (some ++ []) []) (differ n m differs)

itself : (n : ℕ) → nat_eq n n ≡ true
itself n = grind (arith, nat_tests)

of_this : (n : ℕ) (sent : List Order) (some : List ℕ) → brought n (sent ++ Brings n some ∷ []) ≡ brought n sent ++ some
unfolding brought
of_this n sent some = brings_both n sent (Brings n some ∷ []) (sent ++ Brings n some ∷ []) refl ∙ ap (λ c. brought n sent ++ c) (ap (λ b. cond b (some ++ []) []) (itself n) ∙ append-nil some)

-- ---- what was sent of each content is what its client wrote

abbrev as_written : Content → List ℕ → Written
as_written c content = record { client = c.client; tag = c.tag; content = content }

record Tie (g : State) (sent : List Order) (writing : Writing) (written : List Written) : Type 0 where
  new : (n : ℕ) → g.last < n → brought n sent ≡ []
  counted : (n : ℕ) (c : Content) → at g.held n ≡ Some c → length (brought n sent) ≡ c.count
  still : (n : ℕ) (c : Content) → at g.held n ≡ Some c → c.ended ≡ false → at writing c.client ≡ Some (c.tag, brought n sent)
  done : (n : ℕ) (c : Content) → at g.held n ≡ Some c → c.ended ≡ true → Among (as_written c (brought n sent)) written

-- no content is added or changed, and nothing is brought
shrinks : (g h : State) (sent os : List Order) (writing after : Writing) (written more : List Written) → Tie g sent writing written → h.last ≡ g.last → Nothing os
    → ((n : ℕ) (c : Content) → at h.held n ≡ Some c → at g.held n ≡ Some c)
    → ((n : ℕ) (c : Content) → at h.held n ≡ Some c → c.ended ≡ false → at after c.client ≡ at writing c.client) → Tie h (sent ++ os) after (written ++ more)
shrinks g h sent os writing after written more t last nothing old same = record {
  new = λ n lt. as_before n sent os (nothing n) ∙ t.new n (subst (λ l. l < n) last lt);
  counted = λ n c is. ap length (as_before n sent os (nothing n)) ∙ t.counted n c (old n c is);
  still = λ n c is open_one. same n c is open_one ∙ t.still n c (old n c is) open_one ∙ ap (λ b. Some (c.tag, b)) (sym (as_before n sent os (nothing n)));
  done = λ n c is ended. among_left (as_written c (brought n (sent ++ os))) written more (subst (λ b. Among (as_written c b) written) (sym (as_before n sent os (nothing n))) (t.done n c (old n c is) ended));
}

-- a content begins under a new number
opens_tied : (g : State) (c : Content) (sent : List Order) (writing : Writing) (written : List Written) → Inv g → Tie g sent writing written → at g.current c.client ≡ None → c.ended ≡ false → c.count ≡ 0
    → Tie (opened g c) (sent ++ Begins (g.last + 1) ∷ []) (with writing c.client (c.tag, [])) (written ++ [])
unfolding brought
opens_tied g c sent writing written inv t none fresh no_bytes =
    let n = g.last + 1 in
    let k = c.client in
    let now = sent ++ Begins n ∷ [] in
    let was : (m : ℕ) → brought m now ≡ brought m sent = λ m. as_before m sent (Begins n ∷ []) refl in
    let none_yet : (m : ℕ) → m ≡ n → brought m now ≡ [] = λ m same. was m ∙ t.new m (omega (arith, same)) in
    let held : (m : ℕ) (x : Content) → at (with g.held n c) m ≡ Some x → (m ≡ n → ⊥) → at g.held m ≡ Some x = λ m x is differs. sym (other_with m n c g.held differs) ∙ is in
    let this : (m : ℕ) (x : Content) → at (with g.held n c) m ≡ Some x → m ≡ n → c ≡ x = λ m x is same. same_content c x (at (with g.held n c) n) (here_with n c g.held) (subst (λ i. at (with g.held n c) i ≡ Some x) same is) in
    record {
      new = λ m lt. was m ∙ t.new m (omega (arith, lt));
      counted = λ m x is. by_number m n (λ same. ap length (none_yet m same) ∙ sym no_bytes ∙ ap (λ (y : Content). y.count) (this m x is same)) (λ differs. ap length (was m) ∙ t.counted m x (held m x is differs));
      still = λ m x is open_one. by_number m n
          (λ same.
          ap (λ (y : Content). at (with writing k (c.tag, [])) y.client) (sym (this m x is same)) ∙ here_with k (c.tag, []) writing
          ∙ ap (λ b. Some (c.tag, b)) (sym (none_yet m same)) ∙ ap (λ (y : Content). Some (y.tag, brought m now)) (this m x is same))
          (λ differs.
          let old = held m x is differs in
          other_with x.client k (c.tag, []) writing (λ same. none_open g k m x inv none old open_one same) ∙ t.still m x old open_one ∙ ap (λ b. Some (x.tag, b)) (sym (was m)));
      done = λ m x is ended. by_number m n
          (λ same. not_both x.ended ended (ap (λ (y : Content). y.ended) (sym (this m x is same)) ∙ fresh))
          (λ differs. among_left (as_written x (brought m now)) written [] (subst (λ b. Among (as_written x b) written) (sym (was m)) (t.done m x (held m x is differs) ended)));
    }

-- some of a content is sent on
grows_tied : (g : State) (k n : ℕ) (c : Content) (some : List ℕ) (sent : List Order) (writing : Writing) (written : List Written) → Inv g → Tie g sent writing written → at g.current k ≡ Some n → at g.held n ≡ Some c
    → Tie (record g { held = with g.held n (record c { count = c.count + length some }) }) (sent ++ Brings n some ∷ []) (grown_in writing k some (at writing k)) (written ++ [])
grows_tied g k n c some sent writing written inv t current here =
    let d = record c { count = c.count + length some } in
    let h = record g { held = with g.held n d } in
    let now = sent ++ Brings n some ∷ [] in
    let its = inv.its k n c current here in
    let b = brought n sent in
    let wrote : at writing k ≡ Some (c.tag, b) = ap (at writing) (sym its.0) ∙ t.still n c here its.1 in
    let was : (m : ℕ) → (m ≡ n → ⊥) → brought m now ≡ brought m sent = λ m differs. as_before m sent (Brings n some ∷ []) (of_another m n some differs) in
    let grown : (m : ℕ) → m ≡ n → brought m now ≡ b ++ some = λ m same. ap (λ i. brought i now) same ∙ of_this n sent some in
    let held : (m : ℕ) (x : Content) → at (with g.held n d) m ≡ Some x → (m ≡ n → ⊥) → at g.held m ≡ Some x = λ m x is differs. sym (other_with m n d g.held differs) ∙ is in
    let this : (m : ℕ) (x : Content) → at (with g.held n d) m ≡ Some x → m ≡ n → d ≡ x = λ m x is same. same_content d x (at (with g.held n d) n) (here_with n d g.held) (subst (λ i. at (with g.held n d) i ≡ Some x) same is) in
    let after = with writing k (c.tag, b ++ some) in
    let tied : Tie h now after (written ++ []) = record {
      new = λ m lt. was m (λ same. let no : ⊥ = omega (arith, same, lt, inv.below k n current) in no) ∙ t.new m lt;
      counted = λ m x is. by_number m n
          (λ same.
          ap length (grown m same) ∙ length-append b some ∙ ap (λ l. l + length some) (t.counted n c here) ∙ ap (λ (y : Content). y.count) (this m x is same))
          (λ differs. ap length (was m differs) ∙ t.counted m x (held m x is differs));
      still = λ m x is open_one. by_number m n
          (λ same.
          ap (λ (y : Content). at after y.client) (sym (this m x is same)) ∙ ap (at after) its.0 ∙ here_with k (c.tag, b ++ some) writing
          ∙ ap (λ e. Some (c.tag, e)) (sym (grown m same)) ∙ ap (λ (y : Content). Some (y.tag, brought m now)) (this m x is same))
          (λ differs.
          let old = held m x is differs in
          other_with x.client k (c.tag, b ++ some) writing (anothers g k n m x inv current differs old open_one) ∙ t.still m x old open_one ∙ ap (λ e. Some (x.tag, e)) (sym (was m differs)));
      done = λ m x is ended. by_number m n
          (λ same. not_both x.ended ended (ap (λ (y : Content). y.ended) (sym (this m x is same)) ∙ its.1))
          (λ differs. among_left (as_written x (brought m now)) written [] (subst (λ e. Among (as_written x e) written) (sym (was m differs)) (t.done m x (held m x is differs) ended)));
    } in
    subst (λ a. Tie h now a (written ++ [])) (sym (ap (grown_in writing k some) wrote)) tied

-- a content is whole
whole_tied : (g : State) (k n : ℕ) (c : Content) (sent : List Order) (writing : Writing) (written : List Written) → Inv g → Tie g sent writing written → at g.current k ≡ Some n → at g.held n ≡ Some c
    → Tie (record g { held = with g.held n (record c { ended = true }); current = without g.current k }) (sent ++ Ends n c.count ∷ []) (without writing k) (written ++ whole_of k Whole (at writing k))
unfolding brought
whole_tied g k n c sent writing written inv t current here =
    let d = record c { ended = true } in
    let h = record g { held = with g.held n d; current = without g.current k } in
    let now = sent ++ Ends n c.count ∷ [] in
    let its = inv.its k n c current here in
    let b = brought n sent in
    let wrote : at writing k ≡ Some (c.tag, b) = ap (at writing) (sym its.0) ∙ t.still n c here its.1 in
    let was : (m : ℕ) → brought m now ≡ brought m sent = λ m. as_before m sent (Ends n c.count ∷ []) refl in
    let held : (m : ℕ) (x : Content) → at (with g.held n d) m ≡ Some x → (m ≡ n → ⊥) → at g.held m ≡ Some x = λ m x is differs. sym (other_with m n d g.held differs) ∙ is in
    let this : (m : ℕ) (x : Content) → at (with g.held n d) m ≡ Some x → m ≡ n → d ≡ x = λ m x is same. same_content d x (at (with g.held n d) n) (here_with n d g.held) (subst (λ i. at (with g.held n d) i ≡ Some x) same is) in
    let a : Written = record { client = k; tag = c.tag; content = b } in
    let tied : Tie h now (without writing k) (written ++ a ∷ []) = record {
      new = λ m lt. was m ∙ t.new m lt;
      counted = λ m x is. ap length (was m) ∙ by_number m n (λ same. ap (λ i. length (brought i sent)) same ∙ t.counted n c here ∙ ap (λ (y : Content). y.count) (this m x is same)) (λ differs. t.counted m x (held m x is differs));
      still = λ m x is open_one. by_number m n
          (λ same. not_both x.ended (ap (λ (y : Content). y.ended) (sym (this m x is same))) open_one)
          (λ differs.
          let old = held m x is differs in
          other_without x.client k writing (anothers g k n m x inv current differs old open_one) ∙ t.still m x old open_one ∙ ap (λ e. Some (x.tag, e)) (sym (was m)));
      done = λ m x is ended. by_number m n
          (λ same.
          let one : as_written x (brought m now) ≡ a =
          ap (λ (y : Content). as_written y (brought m now)) (sym (this m x is same)) ∙ ap (λ e. as_written d e) (was m ∙ ap (λ i. brought i sent) same)
          ∙ ap (λ j. record { client = j; tag = c.tag; content = b }) its.0 in
          among_right (as_written x (brought m now)) written (a ∷ []) (inl one))
          (λ differs. among_left (as_written x (brought m now)) written (a ∷ []) (subst (λ e. Among (as_written x e) written) (sym (was m)) (t.done m x (held m x is differs) ended)));
    } in
    subst (λ more. Tie h now (without writing k) (written ++ more)) (sym (ap (whole_of k Whole) wrote)) tied

-- ---- an event keeps it so

other_grown : (j k : ℕ) (some : List ℕ) (o : Option (ℕ × List ℕ)) (writing : Writing) → (j ≡ k → ⊥) → at (grown_in writing k some o) j ≡ at writing j
other_grown j k some None writing differs = refl
other_grown j k some (Some w) writing differs = other_with j k (w.0, w.1 ++ some) writing differs

same_grown : (j k : ℕ) (o : Option (ℕ × List ℕ)) (writing : Writing) → at writing k ≡ o → at (grown_in writing k [] o) j ≡ at writing j
same_grown j k None writing is = refl
same_grown j k (Some w) writing is =
    by_number j k
    (λ same. ap (at (with writing k (w.0, w.1 ++ []))) same ∙ here_with k (w.0, w.1 ++ []) writing ∙ ap (λ b. Some (w.0, b)) (append-nil w.1) ∙ sym is ∙ ap (at writing) (sym same))
    (λ differs. other_with j k (w.0, w.1 ++ []) writing differs)

abbrev TieOf : List Order → Writing → List Written → Step → Type 0
TieOf sent after written step = Tie step.state (sent ++ step.orders) after written

tie_if : (sent : List Order) (after : Writing) (written : List Written) (b : Bool) (x y : Step) → TieOf sent after written x → TieOf sent after written y → TieOf sent after written (cond b x y)
tie_if sent after written true x y one other = one
tie_if sent after written false x y one other = other

module _ (g : State) (sent : List Order) (writing : Writing) (written : List Written) (inv : Inv g) (t : Tie g sent writing written) where
  -- nothing happens, and what clients are within is the same
  stays : Tie g (sent ++ []) writing (written ++ [])
  unfolding brought
  stays = shrinks g g sent [] writing writing written [] t refl (λ n. refl) (λ n c is. is) (λ n c is open_one. refl)

  forgot : (n : ℕ) (os : List Order) (after : Writing) → Nothing os → ((m : ℕ) (x : Content) → (m ≡ n → ⊥) → at g.held m ≡ Some x → x.ended ≡ false → at after x.client ≡ at writing x.client) → Tie (forget g n) (sent ++ os) after (written ++ [])
  forgot n os after nothing same =
      shrinks g (forget g n) sent os writing after written [] t refl nothing (λ m c is. (found_without n m c g.held (held_rises g inv) is).1)
      (λ m c is open_one. let f = found_without n m c g.held (held_rises g inv) is in same m c f.0 f.1 open_one)

  numbered_tied : (c : Content) (b : Bool) → at g.current c.client ≡ None → c.ended ≡ false → c.count ≡ 0
      → let r : Result Step BeginFault = cond b (Err NumbersSpent) (Ok (record { state = opened g c; told = []; orders = Begins (g.last + 1) ∷ [] })) in
      TieOf sent (begun_in writing c.client c.tag r) (written ++ []) (begun g r)
  numbered_tied c true none fresh no_bytes = stays
  numbered_tied c false none fresh no_bytes = opens_tied g c sent writing written inv t none fresh no_bytes

  begins_tied : (c : Content) (o : Option Answer) → at g.current c.client ≡ None → c.ended ≡ false → c.count ≡ 0
      → TieOf sent (begun_in writing c.client c.tag (begins g c o)) (written ++ []) (begun g (begins g c o))
  unfolding brought
  begins_tied c (Some answer) none fresh no_bytes =
      shrinks g (record g { current = with g.current c.client 0 }) sent [] writing (with writing c.client (c.tag, [])) written [] t refl (λ n. refl) (λ n x is. is)
      (λ n x is open_one. other_with x.client c.client (c.tag, []) writing (λ same. none_open g c.client n x inv none is open_one same))
  begins_tied c None none fresh no_bytes = numbered_tied c (g.last == 2 ^ 64 - 1) none fresh no_bytes

  begin_tied : (k tag : ℕ) (b : Bool) (r : Result Step BeginFault) → (b ≡ false → TieOf sent (begun_in writing k tag r) (written ++ []) (begun g r))
      → let all = cond b (Err Within) r in TieOf sent (begun_in writing k tag all) (written ++ []) (begun g all)
  begin_tied k tag true r is = stays
  begin_tied k tag false r is = is refl

  grows_so : (k n : ℕ) (some : List ℕ) (o : Option Content) → at g.current k ≡ Some n → at g.held n ≡ o → TieOf sent (grown_in writing k some (at writing k)) (written ++ []) (grows g n some o)
  unfolding brought
  grows_so k n some None current is =
      shrinks g g sent [] writing (grown_in writing k some (at writing k)) written [] t refl (λ m. refl) (λ m x found. found)
      (λ m x found open_one. other_grown x.client k some (at writing k) writing (anothers g k n m x inv current (λ same. is_none x (at g.held n) is (subst (λ i. at g.held i ≡ Some x) same found)) found open_one))
  grows_so k n some (Some c) current is =
      tie_if sent (grown_in writing k some (at writing k)) (written ++ []) (nat_lt c.most (c.count + length some)) _ _
      (forgot n (Drops n ∷ []) (grown_in writing k some (at writing k)) (λ m. refl) (λ m x differs found open_one. other_grown x.client k some (at writing k) writing (anothers g k n m x inv current differs found open_one)))
      (grows_tied g k n c some sent writing written inv t current is)

  brings_so : (k : ℕ) (some : List ℕ) (o : Option ℕ) → at g.current k ≡ o → TieOf sent (grown_in writing k some (at writing k)) (written ++ []) (brings g some o)
  unfolding brought
  brings_so k some None is =
      shrinks g g sent [] writing (grown_in writing k some (at writing k)) written [] t refl (λ m. refl) (λ m x found. found)
      (λ m x found open_one. other_grown x.client k some (at writing k) writing (λ same. none_open g k m x inv is found open_one same))
  brings_so k some (Some n) is = grows_so k n some (at g.held n) is refl

  brought_so : (k : ℕ) (some : List ℕ) → TieOf sent (grown_in writing k some (at writing k)) (written ++ []) (brought_by g k some)
  unfolding brought
  brought_so k [] = shrinks g g sent [] writing (grown_in writing k [] (at writing k)) written [] t refl (λ m. refl) (λ m x found. found) (λ m x found open_one. same_grown x.client k (at writing k) writing refl)
  brought_so k (b ∷ some) = brings_so k (b ∷ some) (at g.current k) refl

  ends_so : (k n : ℕ) (ending : Ending) (o : Option Content) → at g.current k ≡ Some n → at g.held n ≡ o → TieOf sent (without writing k) (written ++ whole_of k ending (at writing k)) (ends (out g k) n ending o)
  unfolding brought
  ends_so k n ending None current is =
      shrinks g (out g k) sent [] writing (without writing k) written (whole_of k ending (at writing k)) t refl (λ m. refl) (λ m x found. found)
      (λ m x found open_one. other_without x.client k writing (anothers g k n m x inv current (λ same. is_none x (at g.held n) is (subst (λ i. at g.held i ≡ Some x) same found)) found open_one))
  ends_so k n Whole (Some c) current is = whole_tied g k n c sent writing written inv t current is
  ends_so k n GivenUp (Some c) current is =
      shrinks g (forget (out g k) n) sent (Drops n ∷ []) writing (without writing k) written [] t refl (λ m. refl) (λ m x found. (found_without n m x g.held (held_rises g inv) found).1)
      (λ m x found open_one. let f = found_without n m x g.held (held_rises g inv) found in other_without x.client k writing (anothers g k n m x inv current f.0 f.1 open_one))

  ends_at_so : (k : ℕ) (ending : Ending) (o : Option ℕ) → at g.current k ≡ o → TieOf sent (without writing k) (written ++ whole_of k ending (at writing k)) (ends_at (out g k) ending o)
  unfolding brought
  ends_at_so k ending None is =
      shrinks g (out g k) sent [] writing (without writing k) written (whole_of k ending (at writing k)) t refl (λ m. refl) (λ m x found. found)
      (λ m x found open_one. other_without x.client k writing (λ same. none_open g k m x inv is found open_one same))
  ends_at_so k ending (Some n) is = ends_so k n ending (at g.held n) is refl

  expires_so : (n : ℕ) (o : Option Content) → TieOf sent writing (written ++ []) (expires g n o)
  unfolding brought
  expires_so n None = stays
  expires_so n (Some c) = forgot n (Drops n ∷ []) writing (λ m. refl) (λ m x differs found open_one. refl)

  expires_at_so : (o : Option ℕ) → TieOf sent writing (written ++ []) (expires_at g o)
  expires_at_so None = stays
  expires_at_so (Some n) = expires_so n (at g.held n)

  decided_so : (floor : ℕ) (w : Word) (c : Content) (o : Option Unwelcome) → TieOf sent writing (written ++ []) (turned g (decides g floor w c o))
  unfolding brought
  decided_so floor w c (Some why) = stays
  decided_so floor w c None = forgot (number_of w) [] writing (λ m. refl) (λ m x differs found open_one. refl)

  passed_so : (b : Bool) (why : Unwelcome) → TieOf sent writing (written ++ []) (turned g (cond b (Ok (None, g)) (Err why)))
  passed_so true why = stays
  passed_so false why = stays

  heard_so : (floor : ℕ) (w : Word) (o : Option Content) → TieOf sent writing (written ++ []) (turned g (heard_of g floor w o))
  heard_so floor w None = passed_so _ _
  heard_so floor w (Some c) = decided_so floor w c (unwelcome c w)

  greets_so : (b : Bool) (why : Unwelcome) (r : Result State Unwelcome) → TieOf sent writing (written ++ []) (greeted g r) → TieOf sent writing (written ++ []) (greeted g (cond b (Err why) r))
  greets_so true why r is = stays
  greets_so false why r is = is

  ties : (e : Event) → Tie (step_of g e).state (sent_after sent e (step_of g e).orders) (writing_after g writing e) (written ++ written_by writing e)
  unfolding step_of brought
  ties (Greets floor version) =
      greets_so g.takes _ _ (greets_so (nat_lt version floor) _ (Ok (record g { takes = true })) (shrinks g (record g { takes = true }) sent [] writing writing written [] t refl (λ n. refl) (λ n c is. is) (λ n c is open_one. refl)))
  ties (Begin service k tag most) =
      begin_tied k tag (is_some (at g.current k)) (begins g (empty k tag most) (not_taken service g.takes))
      (λ is. begins_tied (empty k tag most) (not_taken service g.takes) (none_of (at g.current k) is) refl refl)
  ties (Bring k some) = brought_so k some
  ties (End k ending) = ends_at_so k ending (at g.current k) refl
  ties (Hears floor w) = heard_so floor w (at g.held (number_of w))
  ties (IsLate k) = expires_at_so (at g.current k)
  ties (Leaves k) =
      shrinks g (record g { held = others k g.held; current = without g.current k }) sent (map (λ e. Drops e.0) (theirs k g.held)) writing (without writing k) written [] t refl (drops_nothing (theirs k g.held))
      (λ m x found. (found_other k m x g.held (held_rises g inv) found).0)
      (λ m x found open_one.
      let f = found_other k m x g.held (held_rises g inv) found in
      other_without x.client k writing (λ same. not_both (nat_eq x.client k) (ap (λ i. nat_eq i k) same ∙ itself k) f.1))
  ties Loses = record {
    new = λ n lt. refl;
    counted = λ n c is. is_none c None refl is;
    still = λ n c is open_one. is_none c None refl is;
    done = λ n c is ended. is_none c None refl is;
  }

-- ---- what is granted is just

pub each_both : {A : Type 0} (P : A → Type 0) (xs ys : List A) → Each P xs → Each P ys → Each P (xs ++ ys)
each_both {A} P [] ys one other = other
each_both {A} P (x ∷ xs) ys one other = (one.0, each_both P xs ys one.1 other)

pub each_weaker : {A : Type 0} (P Q : A → Type 0) (xs : List A) → ((x : A) → P x → Q x) → Each P xs → Each Q xs
each_weaker {A} P Q [] f all = tt
each_weaker {A} P Q (x ∷ xs) f all = (f x all.0, each_weaker P Q xs f all.1)

module _ (sets : List Compiled) where
  no_grant : (written : List Written) (t : Told) (answer : Answer) → GrantsNone answer → IsJust sets written t answer
  no_grant written t (Granted version) none = absurd none
  no_grant written t (Infected version index end_at) none = tt
  no_grant written t (Unjudged cause) none = tt
  no_grant written t (Lacks cause) none = tt

  more_written : (written more : List Written) (t : Told) (answer : Answer) → IsJust sets written t answer → IsJust sets (written ++ more) t answer
  more_written written more t (Granted version) is = (is.0, among_left is.0 written more is.1, is.2, is.3, is.4)
  more_written written more t (Infected version index end_at) is = tt
  more_written written more t (Unjudged cause) is = tt
  more_written written more t (Lacks cause) is = tt

  -- clean is welcome of a content that has ended, with its count
  welcome : (c : Content) (n version count : ℕ) → unwelcome c (word.Clean n version count) ≡ None → (c.ended ≡ true) × (count ≡ c.count)
  welcome c n version count is =
      (elim c.ended as (λ b. c.ended ≡ b → ◌≡◌ {A = Option Unwelcome} (cond b (cond (count == c.count) None (Some Count)) (Some NotEnded)) None → (b ≡ true) × (count ≡ c.count)) [
        | true ↦ λ e it. (
          refl,
          eqb-true count c.count ((elim (count == c.count) as (λ b. ◌≡◌ {A = Option Unwelcome} (cond b None (Some Count)) None → b ≡ true) [ true ↦ λ same. refl | false ↦ λ bad. absurd cc ]) it),
        )
        | false ↦ λ e it. absurd cc
      ]) refl is

  nothing_more : (a b : List ℕ) → length (a ++ b) ≡ length a → a ++ b ≡ a
  nothing_more a [] same = append-nil a
  nothing_more a (x ∷ b) same = absurd (let no : ⊥ = omega (arith, sym (length-append a (x ∷ b)) ∙ same) in no)

  clean_just : (g : State) (sent : List Order) (writing : Writing) (written : List Written) → Tie g sent writing written
      → (n version count : ℕ) (c : Content) → at g.held n ≡ Some c → (c.ended ≡ true) × (count ≡ c.count) → IsRightThen sets sent (word.Clean n version count)
      → IsJust sets written (tell c (Granted version)) (Granted version)
  clean_just g sent writing written t n version count c is good right =
      let front = right.0 in
      let more = right.1 in
      let r = right.3 in
      let both : brought n sent ≡ brought n front ++ brought n more = brings_both n front more sent right.2 in
      let same : length (brought n front ++ brought n more) ≡ length (brought n front) = ap length (sym both) ∙ t.counted n c is ∙ sym good.1 ∙ sym r.4 in
      let whole : brought n sent ≡ brought n front = both ∙ nothing_more (brought n front) (brought n more) same in
      (as_written c (brought n sent), t.done n c is good.0, refl, refl, (r.0, r.1, r.2, ap (verdict r.0.patterns) whole ∙ r.5))

  just_if : (written : List Written) (t : Told) (b : Bool) (version : ℕ) (other : Answer) → IsJust sets written t (Granted version) → IsJust sets written t other → IsJust sets written t (cond b (Granted version) other)
  just_if written t true version other one there = one
  just_if written t false version other one there = there

  found_if : (written : List Written) (t : Told) (b : Bool) (version index end_at : ℕ) → IsJust sets written t (cond b (Infected version index end_at) (Lacks AskAgain))
  found_if written t true version index end_at = tt
  found_if written t false version index end_at = tt

  -- who is told makes no difference but by client and tag
  word_just : (g : State) (sent : List Order) (writing : Writing) (written : List Written) → Tie g sent writing written
      → (floor : ℕ) (w : Word) (c : Content) → at g.held (number_of w) ≡ Some c → unwelcome c w ≡ None → IsRightThen sets sent w
      → IsJust sets written (tell c (answer_of floor w)) (answer_of floor w)
  word_just g sent writing written t floor (word.Clean n version count) c is good right =
      just_if written (tell c (answer_of floor (word.Clean n version count))) (version == floor) version (Lacks AskAgain) (clean_just g sent writing written t n version count c is (welcome c n version count good) right) tt
  word_just g sent writing written t floor (word.Infected n version index end_at) c is good right =
      found_if written (tell c (answer_of floor (word.Infected n version index end_at))) (version == floor) version index end_at
  word_just g sent writing written t floor (word.None n Full) c is good right = tt
  word_just g sent writing written t floor (word.None n Newer) c is good right = tt

  abbrev AreJust : List Written → Step → Type 0
  AreJust written step = Each (λ (t : Told). IsJust sets written t t.answer) step.told

  decided_just : (g : State) (sent : List Order) (writing : Writing) (written : List Written) → Tie g sent writing written
      → (floor : ℕ) (w : Word) (c : Content) (o : Option Unwelcome) → at g.held (number_of w) ≡ Some c → unwelcome c w ≡ o → IsRightThen sets sent w → AreJust written (turned g (decides g floor w c o))
  decided_just g sent writing written t floor w c (Some why) is good right = tt
  decided_just g sent writing written t floor w c None is good right = (word_just g sent writing written t floor w c is good right, tt)

  passed_just : (g : State) (written : List Written) (b : Bool) (why : Unwelcome) → AreJust written (turned g (cond b (Ok (None, g)) (Err why)))
  passed_just g written true why = tt
  passed_just g written false why = tt

  heard_just : (g : State) (sent : List Order) (writing : Writing) (written : List Written) → Tie g sent writing written
      → (floor : ℕ) (w : Word) (o : Option Content) → at g.held (number_of w) ≡ o → IsRightThen sets sent w → AreJust written (turned g (heard_of g floor w o))
  heard_just g sent writing written t floor w None is right = passed_just g written _ _
  heard_just g sent writing written t floor w (Some c) is right = decided_just g sent writing written t floor w c (unwelcome c w) is refl right

  nobody_granted : (g : State) (written : List Written) (e : Event) → Each (λ (t : Told). GrantsNone t.answer) (step_of g e).told → AreJust written (step_of g e)
  nobody_granted g written e none = each_weaker (λ (t : Told). GrantsNone t.answer) (λ (t : Told). IsJust sets written t t.answer) (step_of g e).told (λ t none. no_grant written t t.answer none) none

  step_just : (g : State) (sent : List Order) (writing : Writing) (written : List Written) (e : Event) → Tie g sent writing written → IsSaidRight sets sent e → AreJust written (step_of g e)
  unfolding step_of
  step_just g sent writing written (Greets floor version) t right = nobody_granted g written (Greets floor version) (words_grant_at_the_floor g (Greets floor version))
  step_just g sent writing written (Begin service k tag most) t right = nobody_granted g written (Begin service k tag most) (words_grant_at_the_floor g (Begin service k tag most))
  step_just g sent writing written (Bring k some) t right = nobody_granted g written (Bring k some) (words_grant_at_the_floor g (Bring k some))
  step_just g sent writing written (End k ending) t right = nobody_granted g written (End k ending) (words_grant_at_the_floor g (End k ending))
  step_just g sent writing written (Hears floor w) t right = heard_just g sent writing written t floor w (at g.held (number_of w)) refl right
  step_just g sent writing written (IsLate k) t right = nobody_granted g written (IsLate k) (words_grant_at_the_floor g (IsLate k))
  step_just g sent writing written (Leaves k) t right = tt
  step_just g sent writing written Loses t right = nobody_granted g written Loses (words_grant_at_the_floor g Loses)

  clean_from : (es : List Event) (g : State) (sent : List Order) (writing : Writing) (written : List Written) → Inv g → Tie g sent writing written → SaysRight sets g sent es
      → Each (λ (t : Told). IsJust sets (written ++ written_in g writing es) t t.answer) (told_in g es)
  unfolding SaysRight told_in written_in
  clean_from [] g sent writing written inv t right = tt
  clean_from (e ∷ es) g sent writing written inv t right =
      let next = (step_of g e).state in
      let by = written_by writing e in
      let rest = written_in next (writing_after g writing e) es in
      each_both (λ (t : Told). IsJust sets (written ++ (by ++ rest)) t t.answer) (step_of g e).told (told_in next es)
      (each_weaker (λ (t : Told). IsJust sets written t t.answer) (λ (t : Told). IsJust sets (written ++ (by ++ rest)) t t.answer) (step_of g e).told (λ t is. more_written written (by ++ rest) t t.answer is)
      (step_just g sent writing written e t right.0))
      (subst (λ w. Each (λ (t : Told). IsJust sets w t t.answer) (told_in next es)) (append_assoc written by rest)
      (clean_from es next (sent_after sent e (step_of g e).orders) (writing_after g writing e) (written ++ by) (keeps g e inv) (ties g sent writing written inv t e) right.1))

first_tie : Tie at_first [] [] []
unfolding brought
first_tie = record {
  new = λ n lt. refl;
  counted = λ n c is. is_none c None refl is;
  still = λ n c is open_one. is_none c None refl is;
  done = λ n c is ended. is_none c None refl is;
}

pub grants_are_clean : LargeGrantsAreClean
grants_are_clean es sets right = clean_from sets es at_first [] [] [] first_kept first_tie right

-- ---- a judge says what is right

later_too : (sets : List Compiled) (early sent more : List Order) (w : Word) → sent ≡ early ++ more → IsRightThen sets early w → IsRightThen sets sent w
later_too sets early sent more w is right = (right.0, right.1 ++ more, is ∙ ap (λ o. o ++ more) right.2 ∙ append_assoc right.0 right.1 more, right.3)

pub judges_say_right : JudgesSayRight
judges_say_right set hs j words run solid sent more is =
    each_weaker (IsRightThen (sets_of set hs) (orders_of hs)) (IsRightThen (sets_of set hs) sent) words (λ w right. later_too (sets_of set hs) (orders_of hs) sent more w is right)
    (judges_are_right set hs j words run solid)
