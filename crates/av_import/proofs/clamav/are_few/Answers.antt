use Rattle.std.proofs.Common.{ap, ◌∙◌, ◌≡◌, ◌∷◌}
use Rattle.std.specs.Option.{option_copied}
use Rattle.av_base.specs.Line.{rest_of}
use Rattle.av_import.proofs.ClamavLemmas.{few}
use Rattle.av_import.proofs.clamav.are_few.Goals as goal

pub returns : goal.returns
returns c =
    let first : rest_of 58 (option_copied c.args.more) ≡ c.first_piece.result.0.now ∷ rest_of 58 (option_copied c.first_piece.result.1) =
    ap (λ o. rest_of 58 (option_copied o)) c.in-Some.is ∙ c.first_piece.ensures.pieces in
    let second : rest_of 58 (option_copied c.first_piece.result.1) ≡ c.first_piece-2.result.0.now ∷ rest_of 58 (option_copied c.first_piece-2.result.1) =
    ap (λ o. rest_of 58 (option_copied o)) c.in-Some-more.is ∙ c.first_piece-2.ensures.pieces in
    rw (first, second) (few c.first_piece.result.0.now c.first_piece-2.result.0.now c.first_piece-2.result.1 c.is_none.result c.is_none.ensures)
