use Rattle.std.proofs.Common.{◌+◌, ◌-◌, ◌++◌, ◌∷◌, [], ◌%◌, ◌/◌, ap, sym, ◌∙◌, arith}
use Rattle.std.proofs.lemmas.List.{append_assoc, append-nil}
use Rattle.av_guard.specs.Naming.{letters}
use Rattle.av_guard.proofs.NameLemmas.{letters_end, letters_step}
use Rattle.av_guard.proofs.naming.push_letters.Goals as goal

pub letters-preserved : goal.letters-preserved
letters-preserved c =
    let i = c.letters._letter in
    let rest = c.letters.rest in
    let before = c.letters.name.items in
    record {
      items =
          ap (λ xs. xs ++ letters (16 - (i + 1)) (rest / 16)) c.push.ensures.items
          ∙ append_assoc before ((97 + rest % 16) ∷ []) (letters (16 - (i + 1)) (rest / 16))
          ∙ ap (λ xs. before ++ xs) (sym (letters_step i rest (omega (arith, c.letters-test.true))))
          ∙ c.letters.invariant.items;
      len = omega (arith, c.push.ensures.len, c.letters.invariant.len);
    }

pub returns-clause-items : goal.returns-clause-items
returns-clause-items c =
    let i = c.letters._letter in
    let before = c.letters.name.items in
    sym (append-nil before) ∙ ap (λ xs. before ++ xs) (sym (letters_end (16 - i) c.letters.rest (omega (arith, c.letters-test.false)))) ∙ c.letters.invariant.items
