-- What the openers brought back stands in the audit of their gate.
use Rattle.std.proofs.Common.{◌≡◌, ◌==◌, ◌/◌, ◌%◌, ℕ, Bool, true, false, if◌then◌else◌, List, [], ◌∷◌, ◌++◌, All, map, Option, None, Some, length, slice_get, refl, sym, ap, ◌∙◌, subst, append-nil, append_assoc, cond, inl, inr}
use Rattle.std.specs.Borrow.{Bor}
use Rattle.std.specs.List.{AllByRecursion as Each, cons_option, enumerate_from, filter, filter_map}
use Rattle.std.specs.Option.{option_map}
use Rattle.std.specs.Prelude.{option_and_then}
use Rattle.std.proofs.lemmas.List.Elements.{recursion_from_All}
use Rattle.std.proofs.lemmas.Option.{none-some}
use Rattle.av_base.proofs.AmongLemmas.{among_each, among_left, among_right}
use Rattle.av_base.specs.Among.{Among}
use Rattle.av_ends.specs.declared.ticket.Receipt.{Receipt}
use Rattle.av_files.specs.declared.opened.Opened.{Opened}
use Rattle.av_filter.specs.Audit.{FilterEntry, answers_given}
use Rattle.av_gate.specs.Claims.{Stands}
use Rattle.av_host.specs.Brought.{answer_at, opened_at, opened_files, opener_of, told_in}
use Rattle.av_host.specs.Lines.{HaveReceipts, answers_of, receipts_of}
use Rattle.av_host.specs.declared.opener.Brought.{Brought}
use Rattle.av_pend.specs.Pend.{open_of}
use Rattle.av_pend.specs.declared.answer.Answer.{Answer}
use Rattle.av_shared.proofs.AmongLemmas.{among_got}

among_in : (bs : List Brought) (b : Brought) (r : Receipt) → Among b bs → Among r b.receipts.items → Among r (receipts_of bs)
among_in [] b r there a = absurd there
among_in (c ∷ bs) b r (inl e) a = among_left r c.receipts.items (receipts_of bs) (subst (λ (x : Brought). Among r x.receipts.items) e a)
among_in (c ∷ bs) b r (inr there) a = among_right r c.receipts.items (receipts_of bs) (among_in bs b r there a)

among_answers : (r : Receipt) (rs : List Receipt) → Among r rs → Among r.answer (answers_of rs)
among_answers r [] a = absurd a
among_answers r (x ∷ xs) (inl e) = inl (ap (λ (y : Receipt). y.answer) e)
among_answers r (x ∷ xs) (inr a) = inr (among_answers r xs a)

-- what a file was told at a place
module _ (bs : List Brought) where
  told_by : (b : Brought) (round : ℕ) (a : Answer) → Among b bs → told_in round b ≡ Some a → Among a (answers_of (receipts_of bs))
  told_by b round a there told =
      (elim (slice_get b.receipts.items round) as (λ o. slice_get b.receipts.items round ≡ o → option_map (λ (r : Receipt). r.answer) o ≡ Some a → Among a (answers_of (receipts_of bs))) [
        | None ↦ λ e h. absurd (none-some a h)
        | Some r ↦ λ e h.
            let same : r.answer ≡ a = cc (h) in
            subst (λ (x : Answer). Among x (answers_of (receipts_of bs))) same (among_answers r (receipts_of bs) (among_in bs b r there (among_got b.receipts.items round r e)))
      ]) refl told

  told_at : (place : ℕ) (a : Answer) → answer_at bs place ≡ Some a → Among a (answers_of (receipts_of bs))
  told_at place a told =
      (elim (opener_of bs place) as (λ o. opener_of bs place ≡ o → option_and_then (told_in (place / length bs)) o ≡ Some a → Among a (answers_of (receipts_of bs))) [
        | None ↦ λ e h. absurd (none-some a h)
        | Some b ↦ λ e h. told_by b (place / length bs) a (among_got bs (place % length bs) b e) h
      ]) refl told

  opened_each : (xs : List (ℕ × Bor (List ℕ))) → Each (λ (o : Opened). Among o.answer (answers_of (receipts_of bs))) (filter_map (opened_at bs) xs)
  opened_each [] = tt
  opened_each (x ∷ xs) =
      (elim (answer_at bs x.0) as (λ o. answer_at bs x.0 ≡ o
      → Each (λ (o : Opened). Among o.answer (answers_of (receipts_of bs))) (cons_option (option_map (λ (a : Answer). record { name = x.1; answer = a }) o) (filter_map (opened_at bs) xs))) [
        | None ↦ λ e. opened_each xs
        | Some a ↦ λ e. (told_at x.0 a e, opened_each xs)
      ]) refl

pub have_receipts : (bs : List Brought) (names : List (Bor (List ℕ))) → HaveReceipts (opened_files bs names) (receipts_of bs)
have_receipts bs names = opened_each bs (enumerate_from 0 names)

-- ---- receipts that stand

kept : (a x : Answer) (xs ys : List Answer) → (Among a xs → Among a ys) → Among a (x ∷ xs) → Among a (x ∷ ys)
kept a x xs ys more (inl e) = inl e
kept a x xs ys more (inr g) = inr (more g)

among_filter : (test : Answer → Bool) (a : Answer) (xs : List Answer) → Among a (filter test xs) → Among a xs
among_filter test a [] h = h
among_filter test a (x ∷ xs) h =
    (elim (test x) as (λ b. Among a (cond b (x ∷ filter test xs) (filter test xs)) → Among a (x ∷ xs)) [
      | true ↦ λ g. kept a x (filter test xs) xs (λ f. among_filter test a xs f) g
      | false ↦ λ g. inr (among_filter test a xs g)
    ]) h

stood : (events : List FilterEntry) (r : Receipt) → Stands events r → Among r.answer (answers_given events)
stood events r stands = among_filter (λ a. open_of a == r.open_id) r.answer (answers_given events) (subst (Among r.answer) (sym stands) (inl refl))

each_stood : (events : List FilterEntry) (rs : List Receipt) → Each (Stands events) rs → Each (λ (a : Answer). Among a (answers_given events)) (answers_of rs)
each_stood events [] all = tt
each_stood events (r ∷ rs) all = (stood events r all.0, each_stood events rs all.1)

all_given : (events : List FilterEntry) (rs : List Receipt) (os : List Opened) → Each (λ (a : Answer). Among a (answers_given events)) (answers_of rs) → HaveReceipts os rs
    → Each (λ (o : Opened). Among o.answer (answers_given events)) os
all_given events rs [] stand have = tt
all_given events rs (o ∷ os) stand have = (among_each (λ (a : Answer). Among a (answers_given events)) (answers_of rs) o.answer stand have.0, all_given events rs os stand have.1)

pub given : (events : List FilterEntry) (rs : List Receipt) (os : List Opened) → All (Stands events) rs → HaveReceipts os rs → Each (λ (o : Opened). Among o.answer (answers_given events)) os
given events rs os stand have = all_given events rs os (each_stood events rs (recursion_from_All (Stands events) rs stand)) have

pub receipts_push : (bs : List Brought) (b : Brought) → receipts_of (bs ++ b ∷ []) ≡ receipts_of bs ++ b.receipts.items
receipts_push [] b = append-nil b.receipts.items
receipts_push (c ∷ bs) b = ap (λ rs. c.receipts.items ++ rs) (receipts_push bs b) ∙ sym (append_assoc c.receipts.items (receipts_of bs) b.receipts.items)
