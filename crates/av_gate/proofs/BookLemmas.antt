-- One more event keeps the book.
use Rattle.std.proofs.Common.{◌≡◌, ◌+◌, ◌<◌, ◌++◌, ◌∷◌, [], IsOk, List, None, Some, Option, Result, Ok, Err, nat_le, refl, sym, ap, ◌∙◌, subst, length, arith, length-append}
use Rattle.std.proofs.lemmas.Bool.{cond_both}
use Rattle.std.proofs.lemmas.Bool.Decides.{nat_tests}
use Rattle.av_filter.specs.Audit.{FilterEntry, IsFilterAudit, filter_end}
use Rattle.av_filter.specs.Conduct.{FilterEvent, filter_refusal, filter_step}
use Rattle.av_filter.specs.declared.fault.FilterFault.{FilterFault}
use Rattle.av_filter.specs.Mount.{Mount}
use Rattle.av_filter_table.specs.Table.{Table}
use Rattle.av_gate.specs.Book.{Book, IsKept, happens, reaction_to, replied, settled, state_of, table_at_first, unless_refused}
use Rattle.av_gate.specs.declared.fault.GateFault.{GateFault}
use Rattle.av_gate.specs.declared.fault.GateFault.TheVariants.{AuditFull}
use Rattle.av_gate.specs.declared.settled.Settled.{Settled}
use Rattle.av_store.specs.Store.{Store}

abbrev Leads : Mount → Table → Store → Type 0
Leads k t v = (t ≡ k.table) × (v ≡ k.volume)

end-append : (t : Table) (v : Store) (xs ys : List FilterEntry) → filter_end t v (xs ++ ys) ≡ filter_end (filter_end t v xs).table (filter_end t v xs).volume ys
end-append t v [] ys = refl
end-append t v (x ∷ xs) ys = let r = filter_step t v x.event in end-append r.table r.volume xs ys

legal-append : (t : Table) (v : Store) (xs ys : List FilterEntry) → IsFilterAudit t v xs → IsFilterAudit (filter_end t v xs).table (filter_end t v xs).volume ys → IsFilterAudit t v (xs ++ ys)
legal-append t v [] ys h k = k
legal-append t v (x ∷ xs) ys h k = let r = filter_step t v x.event in (h.0, h.1, legal-append r.table r.volume xs ys h.2 k)

pub kept_with_event : (b : Book) (t t' : Table) (v v' : Store) (e : FilterEvent) (events : List FilterEntry) → IsKept b t v → length b.events < b.limits.audit
    → filter_refusal t v e ≡ None → t' ≡ (filter_step t v e).table → v' ≡ (filter_step t v e).volume → events ≡ b.events ++ replied e (filter_step t v e) ∷ []
    → IsKept (record { start = b.start; mode = b.mode; limits = b.limits; events = events; sent = b.sent }) t' v'
kept_with_event b t t' v v' e events kept room free table volume grown =
    let r = filter_step t v e in
    let one : List FilterEntry = replied e r ∷ [] in
    let long : length events ≡ length b.events + 1 = ap length grown ∙ length-append b.events one in
    let first = table_at_first b in
    let last : Mount = filter_end first b.start b.events in
    let here : record { table = t; volume = v } ≡ last = ap (λ (x : Table). record { table = x; volume = v }) kept.table ∙ ap (λ (y : Store). record { table = last.table; volume = y }) kept.volume in
    let there : record { table = r.table; volume = r.volume } ≡ filter_end first b.start events =
    ap (λ (k : Mount). filter_end k.table k.volume one) here ∙ sym (end-append first b.start b.events one) ∙ sym (ap (filter_end first b.start) grown) in
    record {
      table = table ∙ ap (λ (k : Mount). k.table) there;
      volume = volume ∙ ap (λ (k : Mount). k.volume) there;
      legal = subst (IsFilterAudit first b.start) (sym grown) (legal-append first b.start b.events one kept.legal (subst (λ (k : Mount). IsFilterAudit k.table k.volume one) here (free, record { answers = refl; messages = refl; note = refl }, tt)));
      within = omega arith;
      behind = λ p. omega (arith, kept.behind p);
    }

-- where an event is not refused there is room for it
pub room_left : (b : Book) (e : FilterEvent) → IsOk (happens b e) → length b.events < b.limits.audit
room_left b e ok =
    cond_both (nat_le b.limits.audit (length b.events)) (Err AuditFull) (unless_refused b e (filter_refusal (state_of b).table (state_of b).volume e)) (λ (r : Result (Settled × Book) GateFault). IsOk r → length b.events < b.limits.audit) (λ full h. absurd (cc (h))) (λ left h. grind (arith, nat_tests, left)) ok

-- what the caller is told of an event that happened
second_is : (x y : Settled) (v w : Book) (o : Result (Settled × Book) GateFault) → o ≡ Ok (x, v) → o ≡ Ok (y, w) → x ≡ y
second_is x y v w o p q = let same : (x, v) ≡ (y, w) = cc (p, q) in ap (λ (z : Settled × Book). z.0) same

told_unless : (b : Book) (e : FilterEvent) (r : Settled) (new : Book) (o : Option FilterFault) → unless_refused b e o ≡ Ok (r, new) → r ≡ settled (length b.events) (reaction_to b e)
told_unless b e r new (Some f) h = absurd (cc (h))
told_unless b e r new None h = second_is _ _ _ _ _ h refl

pub told : (b : Book) (e : FilterEvent) (r : Settled) (new : Book) → happens b e ≡ Ok (r, new) → r ≡ settled (length b.events) (reaction_to b e)
told b e r new is =
    let refusal : Option FilterFault = filter_refusal (state_of b).table (state_of b).volume e in
    cond_both (nat_le b.limits.audit (length b.events)) (Err AuditFull) (unless_refused b e refusal) (λ (x : Result (Settled × Book) GateFault). x ≡ Ok (r, new) → r ≡ settled (length b.events) (reaction_to b e)) (λ full h. absurd (cc (h)))
    (λ left h. told_unless b e r new refusal h) is
