use Rattle.std.proofs.Common.{rules, sym, ap, subst, arith, ◌∙◌, ◌≡◌, List, Ok, length, take}
use Rattle.av_sigset.specs.File.{MayStand}
use Rattle.av_sigset.specs.Set.{byte_count, patterns_of}
use Rattle.av_sigset.specs.declared.signature.Signature.{Signature}
use Rattle.av_import.proofs.ImportLemmas.{stand_all, take_front}
use Rattle.av_import.specs.Import.{HasRoom, Taken, after, with_all}
use Rattle.av_import.proofs.import.Import.take_given.Goals as goal

pub invariant_of-self : goal.invariant_of-self
invariant_of-self c =
    let old = c.self.inside.signatures.items in
    let grown = c.push_all.ensures.grows in
    let back : c.truncate.new.self.items ≡ old =
    c.truncate.ensures.items ∙ ap (λ xs. take (length xs) c.push_all.new.signatures.items) c.as_slice-count.ensures.value ∙ ap (take (length old)) grown.1 ∙ take_front old grown.0 in
    (subst MayStand (sym back) c.self.invariant.0, c.self.invariant.1 ∙ ap (λ xs. byte_count (patterns_of xs)) (sym back))

pub invariant_of-self-in-Ok : goal.invariant_of-self-in-Ok
invariant_of-self-in-Ok c =
    let old = c.self.inside.signatures.items in
    let given = c.args.given.now in
    let new : c.push_all.new.signatures.items ≡ with_all old given = search rules in
    let room = subst (λ (t : Taken). HasRoom t.signatures (length given) c.in-Ok.bytes) (sym c.self.view_is) c.in-Ok.ensures.room in
    let count = c.in-Ok.ensures.fit.1 in
    let both = stand_all given old c.self.invariant.0 c.in-Ok.ensures.fit.0 room.few (omega (arith, room.short, count)) in
    let sum = ap (λ xs. byte_count (patterns_of xs)) new in
    (subst MayStand (sym new) both.0, omega (arith, c.self.invariant.1, count, both.1, sum))

pub returns-else-is_err : goal.returns-else-is_err
returns-else-is_err c =
    let given = c.args.given.now in
    let new : c.push_all.new.signatures.items ≡ with_all c.self.inside.signatures.items given = search rules in
    let made : List Signature → Taken = λ xs. record { rules = c.self.inside.rules; signatures = xs; left = c.self.inside.left } in
    record { ok = (Ok given, subst (λ (t : Taken). made c.push_all.new.signatures.items ≡ after t (Ok given)) c.self.view_is (ap made new)) }
