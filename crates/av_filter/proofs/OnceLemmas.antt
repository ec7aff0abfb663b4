-- Each open of a legal audit is pended or answered, once.
use Rattle.std.proofs.Common.{◌≡◌, ℕ, ◌+◌, ◌≤◌, List, [], ◌∷◌, map, ap, ◌∙◌, arith}
use Rattle.std.proofs.lemmas.Bool.Decides.{nat_tests}
use Rattle.av_filter.proofs.CountLemmas.{Balanced, filter_balanced, opens_after}
use Rattle.av_filter.proofs.TimesLemmas.{times_map-append}
use Rattle.av_filter.specs.Audit.{FilterEntry, IsFilterAudit, answers_given, filter_end, opens_of_event, opens_taken}
use Rattle.av_filter.specs.Conduct.{FilterEvent, Opens, filter_step}
use Rattle.av_filter.specs.Once.{AuditsAnswerOnce, once_between, once_up_to, times}
use Rattle.av_filter.specs.Reaction.{Reaction}
use Rattle.av_filter_table.specs.Table.{Table, mounted}
use Rattle.av_filter_table.specs.declared.pended.Pended.{Pended}
use Rattle.av_pend.specs.Pend.{open_of}
use Rattle.av_store.specs.Store.{Store}

between : (low middle high n : ℕ) → low ≤ middle → middle ≤ high → once_between low high n ≡ once_between low middle n + once_between middle high n
between low middle high n le ge = grind (arith, nat_tests)

up_to : (low high n : ℕ) → low ≤ high → once_between low high n + once_up_to low n ≡ once_up_to high n
up_to low high n le = grind (arith, nat_tests)

none_between : (k n : ℕ) → once_between k (k + 0) n ≡ 0
none_between k n = grind (arith, nat_tests)

taken : (k : ℕ) (f : FilterEvent) → opens_after k f ≡ k + opens_of_event f
taken k (Opens s n) = omega arith
taken k _ = omega arith

counted : (t : Table) (v : Store) (xs : List FilterEntry) → IsFilterAudit t v xs → (n : ℕ) → times n (map (λ (p : Pended). p.held.open_id) (filter_end t v xs).table.pended) + times n (map open_of (answers_given xs)) ≡ times n (map (λ (p : Pended). p.held.open_id) t.pended) + once_between v.opens (v.opens + opens_taken xs) n
counted t v [] f n = omega (arith, none_between v.opens n)
counted t v (x ∷ xs) f n =
    let r : Reaction = filter_step t v x.event in
    let b : Balanced t v (opens_after v.opens x.event) r = filter_balanced t v x.event in
    let ih = counted r.table r.volume xs f.2 n in
    let opens : r.volume.opens ≡ v.opens + opens_of_event x.event = b.opens ∙ taken v.opens x.event in
    let far : r.volume.opens + opens_taken xs ≡ v.opens + (opens_of_event x.event + opens_taken xs) = omega (arith, opens) in
    omega (
      arith,
      ih,
      b.kept n,
      ap (λ k. once_up_to k n) b.opens,
      up_to v.opens r.volume.opens n (omega (arith, opens)),
      between v.opens r.volume.opens (r.volume.opens + opens_taken xs) n (omega (arith, opens)) (omega arith),
      ap (λ k. once_between v.opens k n) far,
      times_map-append open_of n x.answers (answers_given xs),
      ap (λ given. times n (map open_of given)) f.1.answers,
    )

pub answers_once : AuditsAnswerOnce
answers_once v mode limits xs f n = omega (arith, counted (mounted mode limits v.boot) v xs f n)
