-- Ids of questions, and ports, that pass the test of being the same.
use Rattle.std.proofs.Common.{◌≡◌, ◌==◌, true, false, refl, sym, subst, eq-eqb, eqb-true}
use Rattle.std.proofs.lemmas.Bool.{and_from, and_parts, false_from_ne_true}
use Rattle.av_base.specs.MessageId.{same_id}
use Rattle.av_base.specs.Port.{same_port}
use Rattle.av_base.specs.declared.message_id.MessageId.{MessageId}
use Rattle.av_base.specs.declared.port.Port.{Port}
use Rattle.av_base.specs.declared.port.Port.TheVariants.{One, Two}

pub same_id-refl : (i : MessageId) → same_id i i ≡ true
same_id-refl i = and_from (i.boot == i.boot) (i.seq == i.seq) (eq-eqb i.boot i.boot refl) (eq-eqb i.seq i.seq refl)

pub same_id-true : (i j : MessageId) → same_id i j ≡ true → i ≡ j
same_id-true i j h =
    let p = and_parts (i.boot == j.boot) (i.seq == j.seq) h in
    let b : i.boot ≡ j.boot = eqb-true i.boot j.boot p.0 in
    let s : i.seq ≡ j.seq = eqb-true i.seq j.seq p.1 in
    λ k. record { boot = b k; seq = s k }

pub same_id-other : (i j : MessageId) → same_id i j ≡ false → same_id j i ≡ false
same_id-other i j other =
    false_from_ne_true (same_id j i) (λ e. let same : same_id i j ≡ true = subst (λ k. same_id i k ≡ true) (sym (same_id-true j i e)) (same_id-refl i) in absurd cc)

pub same_port-refl : (p : Port) → same_port p p ≡ true
same_port-refl One = refl
same_port-refl Two = refl

pub same_port-true : (p q : Port) → same_port p q ≡ true → p ≡ q
same_port-true One One h = refl
same_port-true One Two h = absurd cc
same_port-true Two One h = absurd cc
same_port-true Two Two h = refl
