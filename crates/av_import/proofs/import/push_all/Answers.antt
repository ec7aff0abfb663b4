use Rattle.std.proofs.Common.{rules, sym, ap, refl, ◌∙◌, ◌≡◌, ◌++◌, ◌∷◌, [], add-one, append_assoc, append-nil, drop, suc}
use Rattle.av_sigset.specs.declared.signature.Signature.{Signature}
use Rattle.av_import.proofs.ImportLemmas.{all_done, all_next}
use Rattle.av_import.specs.Import.{with_all, with_named}
use Rattle.av_import.specs.Name.{free_name}
use Rattle.av_import.proofs.import.push_all.Goals as goal

pub loop-signature-init : goal.loop-signature-init
loop-signature-init c = (refl, ([], sym (append-nil c.args.signatures.now.items)))

pub loop-signature-preserved : goal.loop-signature-preserved
loop-signature-preserved c =
    let d = c.signature-item.result in
    let items = c.loop-signature.signatures.items in
    let i = c.loop-signature.signature-index in
    let new : c.push_one.new.signatures.items ≡ with_named items d = search rules in
    let x : Signature = record { name = free_name items d.name; pattern = d.pattern } in
    let more = c.loop-signature.invariant.1 in
    rw add-one (
      ap (λ xs. with_all xs (drop (suc i) c.args.given.now)) (new ∙ ap (with_named items) c.signature-item.is) ∙ sym (all_next c.args.given.now items i d c.loop-signature-test.true) ∙ c.loop-signature.invariant.0,
      (more.0 ++ x ∷ [], new ∙ ap (λ xs. xs ++ x ∷ []) more.1 ∙ append_assoc c.args.signatures.now.items more.0 (x ∷ [])),
    )

pub returns-then-is_err-clause-grows : goal.returns-then-is_err-clause-grows
returns-then-is_err-clause-grows c =
    let same : c.push_one.new.signatures.items ≡ c.loop-signature.signatures.items = search rules in
    let more = c.loop-signature.invariant.1 in
    (more.0, same ∙ more.1)

pub returns-clause-ok : goal.returns-clause-ok
returns-clause-ok c = sym (all_done c.args.given.now c.loop-signature.signatures.items c.loop-signature.signature-index c.loop-signature-test.false) ∙ c.loop-signature.invariant.0

pub returns-clause-grows : goal.returns-clause-grows
returns-clause-grows c = c.loop-signature.invariant.1
