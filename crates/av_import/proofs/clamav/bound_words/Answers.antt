use Rattle.std.proofs.Common.{subst, ◌≡◌, Err}
use Rattle.av_import.proofs.ClamavLemmas.{words_made, fault_behind}
use Rattle.av_import.specs.Bytes.{bytes_of}
use Rattle.av_import.specs.Clamav.{AreWordsOf, signature_in}
use Rattle.av_import.proofs.clamav.bound_words.Goals as goal

pub returns-in-Ok-clause-words : goal.returns-in-Ok-clause-words
returns-in-Ok-clause-words c =
    subst (λ r. AreWordsOf c.args.name.now c.args.text.now c.in-Ok.span (signature_in c.args.name.now (bytes_of c.args.text.now) r)) c.in-Ok.ensures.span
    (words_made c.args.name.now c.args.text.now c.in-Ok.span c.in_default.ensures c.in-Ok.ensures.bound)

pub returns-in-Err-clause-fault : goal.returns-in-Err-clause-fault
returns-in-Err-clause-fault c =
    subst (λ r. signature_in c.args.name.now (bytes_of c.args.text.now) r ≡ Err c.in-Err.why) c.in-Err.ensures.span (fault_behind c.args.name.now c.args.text.now c.in-Err.why c.in_default.ensures)
