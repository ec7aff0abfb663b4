-- How the counts of contexts follow the attachments.
use Rattle.std.proofs.Common.{◌≡◌, ◌≢◌, ℕ, ◌+◌, ◌-◌, ◌≤◌, ◌==◌, true, false, List, Option, Some, None, IsSomeAnd, unwrap_or, cond, refl, sym, ap, subst, ◌∙◌, inl, inr, arith}
use Rattle.std.specs.Option.{option_and_then, option_map}
use Rattle.std.specs.Ordering.{nat_cmp}
use Rattle.std.specs.List.Sorted.{IsStrictlySortedBy}
use Rattle.std.specs.Map.{keys_of}
use Rattle.std.specs.BTreeMap.{is_at}
use Rattle.std.proofs.lemmas.Bool.{cases_eq, eqb-true}
use Rattle.std.proofs.lemmas.Bool.Decides.{nat_tests}
use Rattle.std.proofs.lemmas.Cmp.{nat_cmp_total}
use Rattle.std.proofs.lemmas.Map.Entries.{sum_by-remove_entry, sum_by-insert_entry}
use Rattle.av_context.specs.declared.context.Context.{Context}
use Rattle.av_context.specs.Context.{attached, passed, detached}
use Rattle.av_context.specs.Contexts.{at, with, without, attachments_to, CountsAgree, AreCounted, IsAttached, PutsAt}

-- what one attachment adds to the count of k
abbrev pub weight : ℕ → ℕ → ℕ
weight k key = cond (key == k) 1 0

pub weight-same : (k : ℕ) → weight k k ≡ 1
weight-same k = grind (arith, nat_tests)

pub weight-other : (k key : ℕ) → k ≢ key → weight k key ≡ 0
weight-other k key differs = grind (arith, nat_tests)

-- an attachment that ends is one less, and one that is set is one more in place of the old one
pub attachments-without : (a : List (ℕ × ℕ)) (stream key : ℕ) → at a stream ≡ Some key → (k : ℕ) → attachments_to (without a stream) k + weight k key ≡ attachments_to a k
attachments-without a stream key found k =
    subst (λ o. attachments_to (without a stream) k + unwrap_or (option_map (weight k) o) 0 ≡ attachments_to a k) found (sum_by-remove_entry (weight k) (is_at (nat_cmp stream)) a)

pub attachments-with : (a : List (ℕ × ℕ)) (stream key : ℕ) → IsStrictlySortedBy nat_cmp (keys_of a) → (o : Option ℕ) → at a stream ≡ o → (k : ℕ) → attachments_to (with a stream key) k + unwrap_or (option_map (weight k) o) 0 ≡ attachments_to a k + weight k key
attachments-with a stream key sorted o found k =
    subst (λ o. attachments_to (with a stream key) k + unwrap_or (option_map (weight k) o) 0 ≡ attachments_to a k + weight k key) found (sum_by-insert_entry (weight k) nat_cmp_total a stream key sorted)

-- one key changes with its count
pub counted-put : (m m' : List (ℕ × Context)) (n n' : ℕ → ℕ) (key : ℕ) (slot : Option Context) → AreCounted m n → PutsAt m m' key slot → ((k : ℕ) → k ≢ key → n' k ≡ n k) → CountsAgree slot (n' key) → AreCounted m' n'
counted-put m m' n n' key slot counted puts others agrees k =
    elim (cases_eq k key) [
      | inl same ↦ subst (λ j. CountsAgree (at m' j) (n' j)) (sym same) (subst (λ o. CountsAgree o (n' key)) (sym puts.here) agrees)
      | inr differs ↦ subst (λ i. CountsAgree (at m' k) i) (sym (others k differs)) (subst (λ o. CountsAgree o (n k)) (sym (puts.others k differs)) (counted k))
    ]

-- a context that was counted, as it is found
pub counted-at : (m : List (ℕ × Context)) (n : ℕ → ℕ) (k : ℕ) (c : Context) → AreCounted m n → at m k ≡ Some c → CountsAgree (Some c) (n k)
counted-at m n k c counted found = subst (λ o. CountsAgree o (n k)) found (counted k)

pub attached-agrees : (c : Context) (n : ℕ) → CountsAgree (Some c) n → CountsAgree (Some (attached c)) (n + 1)
attached-agrees c n agrees = (omega arith, omega arith, omega arith)

pub passed-agrees : (c : Context) (n : ℕ) → CountsAgree (Some c) (n + 1) → CountsAgree (Some (passed c)) n
passed-agrees c n agrees = (omega arith, omega arith, omega arith)

pub detached-agrees : (c : Context) (n : ℕ) → CountsAgree (Some c) (n + 1) → CountsAgree (detached c) n
detached-agrees c n agrees =
    (elim (c.references == 1) as (λ b. (c.references == 1) ≡ b → CountsAgree (cond b None (Some (record c { references = c.references - 1; attached = c.attached - 1 }))) n) [
      | true ↦ λ last. let one = eqb-true c.references 1 last in omega arith
      | false ↦ λ more. (omega arith, omega arith, grind (arith, nat_tests))
    ]) refl

-- the same counts
pub counted-same : (m : List (ℕ × Context)) (n n' : ℕ → ℕ) → AreCounted m n → ((k : ℕ) → n' k ≡ n k) → AreCounted m n'
counted-same m n n' counted same k = subst (λ i. CountsAgree (at m k) i) (sym (same k)) (counted k)

-- the count of a context with one attachment more, less by one that ends, and less by one whose reference passes on
pub counted-attach : (m m' : List (ℕ × Context)) (n : ℕ → ℕ) (key : ℕ) (c : Context) → AreCounted m n → at m key ≡ Some c → PutsAt m m' key (Some (attached c)) → AreCounted m' (λ k. n k + weight k key)
counted-attach m m' n key c counted found puts =
    counted-put m m' n (λ k. n k + weight k key) key (Some (attached c)) counted puts
    (λ k differs. let none = weight-other k key differs in omega arith)
    (subst (λ i. CountsAgree (Some (attached c)) i) (ap (λ w. n key + w) (sym (weight-same key))) (attached-agrees c (n key) (counted-at m n key c counted found)))

pub counted-less : (m m' : List (ℕ × Context)) (n n' : ℕ → ℕ) (key : ℕ) (c : Context) (slot : Option Context) → ((i : ℕ) → CountsAgree (Some c) (i + 1) → CountsAgree slot i) → AreCounted m n → at m key ≡ Some c → PutsAt m m' key slot → ((k : ℕ) → n' k + weight k key ≡ n k) → AreCounted m' n'
counted-less m m' n n' key c slot agrees counted found puts less =
    let one : n' key + 1 ≡ n key = ap (λ w. n' key + w) (sym (weight-same key)) ∙ less key in
    counted-put m m' n n' key slot counted puts
    (λ k differs. let none = weight-other k key differs in let sum = less k in omega arith)
    (agrees (n' key) (subst (λ i. CountsAgree (Some c) i) (sym one) (counted-at m n key c counted found)))

-- what is counted at a key is there, and attached
pub counted-attached : (m : List (ℕ × Context)) (n : ℕ → ℕ) (k : ℕ) → AreCounted m n → 1 ≤ n k → IsAttached m k
counted-attached m n k counted some = attached_if (at m k) (counted k)
  where
    attached_if : (o : Option Context) → CountsAgree o (n k) → IsSomeAnd o (λ c. (1 ≤ c.attached) × (c.attached ≤ c.references))
    attached_if None none = absurd (omega arith)
    attached_if (Some c) agrees = (omega arith, agrees.1)

pub counted-detach : (m m' : List (ℕ × Context)) (n n' : ℕ → ℕ) (key : ℕ) → AreCounted m n → PutsAt m m' key (option_and_then detached (at m key)) → ((k : ℕ) → n' k + weight k key ≡ n k) → AreCounted m' n'
counted-detach m m' n n' key counted puts less = by_row (at m key) refl
  where
    by_row : (o : Option Context) → at m key ≡ o → AreCounted m' n'
    by_row None none =
        let some : n' key + 1 ≡ n key = ap (λ w. n' key + w) (sym (weight-same key)) ∙ less key in
        let no : n key ≡ 0 = subst (λ o. CountsAgree o (n key)) none (counted key) in
        absurd (omega arith)
    by_row (Some c) found =
        counted-less m m' n n' key c (detached c) (detached-agrees c) counted found (subst (λ o. PutsAt m m' key (option_and_then detached o)) found puts) less

pub counted-pass : (m m' : List (ℕ × Context)) (n n' : ℕ → ℕ) (key : ℕ) → AreCounted m n → PutsAt m m' key (option_map passed (at m key)) → ((k : ℕ) → n' k + weight k key ≡ n k) → AreCounted m' n'
counted-pass m m' n n' key counted puts less = by_row (at m key) refl
  where
    by_row : (o : Option Context) → at m key ≡ o → AreCounted m' n'
    by_row None none =
        let some : n' key + 1 ≡ n key = ap (λ w. n' key + w) (sym (weight-same key)) ∙ less key in
        let no : n key ≡ 0 = subst (λ o. CountsAgree o (n key)) none (counted key) in
        absurd (omega arith)
    by_row (Some c) found =
        counted-less m m' n n' key c (Some (passed c)) (passed-agrees c) counted found (subst (λ o. PutsAt m m' key (option_map passed o)) found puts) less
