use Rattle.std.proofs.Common.{sym, subst}
use Rattle.av_import.proofs.ImportLemmas.{taken_stand, offered_one}
use Rattle.av_import.specs.Import.{AreAdmitted, Taken, admitted, given_of}
use Rattle.av_import.proofs.import.Import.take_line.Goals as goal

pub invariant_of-self-in-Ok : goal.invariant_of-self-in-Ok
invariant_of-self-in-Ok c =
    let w = c.in-Ok.words in
    let a = subst (λ (t : Taken). AreAdmitted t.signatures w.name.now w.digits.now w.span (admitted t.rules t.signatures (given_of c.args.form t.rules c.args.line.now))) (sym c.self.view_is) c.in-Ok.ensures.words in
    taken_stand c.self.inside.signatures.items c.add_words.new.signatures.items w.name.now w.digits.now w.span _ c.self.inside.bytes a
    (c.in_ok-add_words-in-Ok.ensures.ok a.spells.bytes a.spells.decoded) c.self.invariant.0 c.self.invariant.1

pub returns-in_ok-add_words-in-Ok-clause-ok : goal.returns-in_ok-add_words-in-Ok-clause-ok
returns-in_ok-add_words-in-Ok-clause-ok c =
    let w = c.in-Ok.words in
    let a = subst (λ (t : Taken). AreAdmitted t.signatures w.name.now w.digits.now w.span (admitted t.rules t.signatures (given_of c.args.form t.rules c.args.line.now))) (sym c.self.view_is) c.in-Ok.ensures.words in
    let t : Taken = record { rules = c.self.inside.rules; signatures = c.self.inside.signatures.items; left = c.self.inside.left } in
    rw (← c.self.view_is)
    (offered_one t c.add_words.new.signatures.items (given_of c.args.form c.self.inside.rules c.args.line.now)
    (record { name = w.name.now; pattern = record { bytes = a.spells.bytes; span = w.span } }) a.made (c.in_ok-add_words-in-Ok.ensures.ok a.spells.bytes a.spells.decoded))
