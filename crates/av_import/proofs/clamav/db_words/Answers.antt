use Rattle.std.proofs.Common.{subst, sym, ap, ◌∙◌, ◌≡◌, ◌∷◌, Ok}
use Rattle.av_base.specs.Line.{pieces_of}
use Rattle.av_sigset.specs.Set.{widest}
use Rattle.av_sigset.proofs.FileLemmas.{widest_span}
use Rattle.av_import.proofs.ClamavLemmas.{words_made, db_text}
use Rattle.av_import.specs.Clamav.{AreWordsOf, db_of, signature_in}
use Rattle.av_import.proofs.clamav.db_words.Goals as goal

pub returns-in-Some-fault_of-clause-fault : goal.returns-in-Some-fault_of-clause-fault
returns-in-Some-fault_of-clause-fault c =
    let line_is : pieces_of 61 c.args.line.now ≡ c.first_piece.result.0.now ∷ pieces_of 61 c.in-Some.text.now = rw c.in-Some.is at c.first_piece.ensures.pieces in
    ap db_of line_is ∙ db_text c.first_piece.result.0.now c.in-Some.text.now ∙ ap (λ b. signature_in c.first_piece.result.0.now b (Ok widest)) c.in-Some-fault_of.ensures

pub returns-clause-words : goal.returns-clause-words
returns-clause-words c =
    let line_is : pieces_of 61 c.args.line.now ≡ c.first_piece.result.0.now ∷ pieces_of 61 c.in-Some.text.now = rw c.in-Some.is at c.first_piece.ensures.pieces in
    subst (λ r. AreWordsOf c.first_piece.result.0.now c.in-Some.text.now widest r) (sym (ap db_of line_is ∙ db_text c.first_piece.result.0.now c.in-Some.text.now))
    (words_made c.first_piece.result.0.now c.in-Some.text.now widest c.in_default-fault_of.ensures widest_span)
