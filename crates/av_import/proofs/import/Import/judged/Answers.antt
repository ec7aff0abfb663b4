use Rattle.std.proofs.Common.{sym, refl, subst}
use Rattle.av_import.proofs.ImportLemmas.{admit}
use Rattle.av_import.specs.Clamav.{AreWordsOf, signature_of}
use Rattle.av_import.specs.Import.{Taken}
use Rattle.av_import.proofs.import.Import.judged.Goals as goal

pub returns-in-None-clause-words : goal.returns-in-None-clause-words
returns-in-None-clause-words c =
    let words = subst (λ (t : Taken). AreWordsOf c.in-Ok.words.name.now c.in-Ok.words.digits.now c.in-Ok.words.span (signature_of c.args.form t.rules.takes_any_target c.args.line.now)) c.self.view_is c.in-Ok.ensures.words in
    admit c.args.self.now.rules c.args.self.now.signatures c.in-Ok.words.name.now c.in-Ok.words.digits.now c.in-Ok.words.span (signature_of c.args.form c.args.self.now.rules.takes_any_target c.args.line.now) _ _
    words refl (sym c.begins_anywhere.ensures) (sym c.in-None.ensures.why) c.in-None.ensures.room
