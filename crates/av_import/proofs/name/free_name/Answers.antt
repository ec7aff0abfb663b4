use Rattle.std.proofs.Common.{◌≡◌, ◌+◌, ◌-◌, ◌∙◌, true, false, Result, Ok, Err, IfOk, ap, sym, arith, suc}
use Rattle.av_import.proofs.NameLemmas.{free_here, free_next, free_last}
use Rattle.av_import.specs.Name.{is_taken, numbered, sign_name}
use Rattle.av_import.proofs.name.free_name.Goals as goal

if_ok : {A E : Type 0} {P Q : A → Type 0} (r : Result A E) → ((x : A) → P x → Q x) → IfOk r P → IfOk r Q
if_ok (Ok x) f p = f x p
if_ok (Err e) f p = tt

pub returns-then-not-stands_in : goal.returns-then-not-stands_in
returns-then-not-stands_in c =
    let candidate : c.in_ok-candidate.candidate.items ≡ numbered (sign_name c.args.raw.now) c.numbers.number =
    c.in_ok-candidate.ensures ∙ ap (λ n. numbered n c.numbers.number) (c.as_slice.ensures.value ∙ c.in_ok-name.ensures) in
    let free : is_taken c.args.before.now (numbered (sign_name c.args.raw.now) c.numbers.number) ≡ false =
    ap (is_taken c.args.before.now) (sym (c.as_slice-in-numbers.ensures.value ∙ candidate)) ∙ sym c.stands_in.ensures ∙ c.if-not-stands_in.true in
    candidate ∙ sym (free_here (1027 - c.numbers.number) c.numbers.number (sign_name c.args.raw.now) c.args.before.now free) ∙ c.numbers.invariant

pub numbers-preserved : goal.numbers-preserved
numbers-preserved c =
    let candidate : c.in_ok-candidate.candidate.items ≡ numbered (sign_name c.args.raw.now) c.numbers.number =
    c.in_ok-candidate.ensures ∙ ap (λ n. numbered n c.numbers.number) (c.as_slice.ensures.value ∙ c.in_ok-name.ensures) in
    let taken : is_taken c.args.before.now (numbered (sign_name c.args.raw.now) c.numbers.number) ≡ true =
    ap (is_taken c.args.before.now) (sym (c.as_slice-in-numbers.ensures.value ∙ candidate)) ∙ sym c.stands_in.ensures ∙ c.if-not-stands_in.false in
    let one_less : 1027 - c.numbers.number ≡ suc (1027 - (c.numbers.number + 1)) = omega (arith, c.numbers-test.true) in
    sym (free_next (1027 - c.numbers.number) (1027 - (c.numbers.number + 1)) c.numbers.number (sign_name c.args.raw.now) c.args.before.now one_less taken) ∙ c.numbers.invariant

pub returns : goal.returns
returns c =
    let last : c.numbers.number ≡ 1027 = omega (arith, c.numbers-test.false, c.numbers.auto.number-end) in
    let none : 1027 - c.numbers.number ≡ 0 = omega (arith, last) in
    if_ok c.numbered-2.result
    (λ text is.
    is ∙ ap (λ n. numbered n 1027) (c.as_slice-2.ensures.value ∙ c.in_ok-name.ensures) ∙ ap (numbered (sign_name c.args.raw.now)) (sym last)
    ∙ sym (free_last (1027 - c.numbers.number) c.numbers.number (sign_name c.args.raw.now) c.args.before.now none) ∙ c.numbers.invariant)
    c.numbered-2.ensures
