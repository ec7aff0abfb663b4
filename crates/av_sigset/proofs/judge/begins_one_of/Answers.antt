use Rattle.std.proofs.Common.{◌≡◌, ◌∷◌, sym, ap, ◌∙◌, false}
use Rattle.std.specs.Option.{option_copied}
use Rattle.std.specs.Str.{bytes_eq}
use Rattle.av_base.specs.Line.{pieces_of, rest_of}
use Rattle.av_sigset.specs.Judge.{first_of, first_word}
use Rattle.av_sigset.proofs.JudgeLemmas.{any_later}
use Rattle.av_sigset.proofs.judge.begins_one_of.Goals as goal

pub loop-passed-preserved : goal.loop-passed-preserved
loop-passed-preserved c =
    let pieces : pieces_of 10 c.loop-passed.rest.now ≡ c.first_piece.result.0.now ∷ pieces_of 10 c.in-Some.below.now =
    c.first_piece.ensures.pieces ∙ ap (λ o. c.first_piece.result.0.now ∷ rest_of 10 (option_copied o)) c.in-Some.is in
    let other : bytes_eq (first_word c.first_piece.result.0.now) c.args.name.now ≡ false =
    ap (λ w. bytes_eq w c.args.name.now) (ap first_of c.first_piece-in-loop-passed.ensures.pieces) ∙ sym c.eq.ensures ∙ c.if-eq.false in
    any_later (λ line. bytes_eq (first_word line) c.args.name.now) c.args.count c.loop-passed.passed _ _ (pieces_of 10 c.in-Some.below.now) c.loop-passed-test.true pieces other ∙ c.loop-passed.invariant
