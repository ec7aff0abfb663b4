use Rattle.std.proofs.Common.{◌≡◌, ◌∷◌, [], arith, sym, ap, ◌∙◌, rules}
use Rattle.av_base.specs.Line.{pieces_of, rest_of}
use Rattle.std.specs.Option.{option_copied}
use Rattle.av_sigset.specs.Judge.{signatures_from, signature_of}
use Rattle.av_sigset.specs.Line.{JoinsAs}
use Rattle.av_sigset.proofs.JoinLemmas.{ranges_push, bytes_push}
use Rattle.av_sigset.proofs.ReadLemmas.{line_unended, line_refused, line_joined, line_none, empty_of, some_of}
use Rattle.av_sigset.proofs.read.gathered.Goals as goal

pub returns-in_default-clause-fault : goal.returns-in_default-clause-fault
returns-in_default-clause-fault c =
    let one : pieces_of 10 c.lines.rest.now ≡ c.first_piece.result.0.now ∷ [] = c.first_piece.ensures.pieces ∙ ap (λ o. c.first_piece.result.0.now ∷ rest_of 10 (option_copied o)) c.in_default.is in
    sym c.lines.invariant.whole ∙ line_unended c.args.format c.lines.signatures.items c.lines.rest.now c.first_piece.result.0.now (some_of c.lines.rest.now (sym c.is_empty.ensures ∙ c.lines-test.true)) one ∙ search rules

pub returns-in-Err-clause-fault : goal.returns-in-Err-clause-fault
returns-in-Err-clause-fault c =
    let pieces : pieces_of 10 c.lines.rest.now ≡ c.first_piece.result.0.now ∷ pieces_of 10 c.in-Some.below.now = c.first_piece.ensures.pieces ∙ ap (λ o. c.first_piece.result.0.now ∷ rest_of 10 (option_copied o)) c.in-Some.is in
    sym c.lines.invariant.whole ∙ ap (signatures_from c.args.format c.lines.signatures.items) pieces
    ∙ line_refused c.args.format c.lines.signatures.items c.first_piece.result.0.now c.in-Some.below.now c.in-Err.kind (rw c.as_slice.ensures.value at c.in-Err.ensures.fault) ∙ search rules

pub lines-preserved : goal.lines-preserved
lines-preserved c =
    let pieces : pieces_of 10 c.lines.rest.now ≡ c.first_piece.result.0.now ∷ pieces_of 10 c.in-Some.below.now = c.first_piece.ensures.pieces ∙ ap (λ o. c.first_piece.result.0.now ∷ rest_of 10 (option_copied o)) c.in-Some.is in
    let joins : JoinsAs c.lines.signatures.items c.in-Ok.words.name.now c.in-Ok.words.digits.now c.in-Ok.words.span (signature_of c.args.format (pieces_of 32 c.first_piece.result.0.now)) = rw c.as_slice.ensures.value at c.in-Ok.ensures.words in
    let added = c.in_ok-add.ensures joins.spells.bytes joins.spells.decoded in
    record {
      whole = rw added (sym (line_joined c.args.format c.lines.signatures.items _ _ _ c.first_piece.result.0.now c.in-Some.below.now joins) ∙ sym (ap (signatures_from c.args.format c.lines.signatures.items) pieces) ∙ c.lines.invariant.whole);
      ranges = rw added (ranges_push c.lines.signatures.items _ _ _ _ c.lines.invariant.ranges joins);
      total = rw (added, bytes_push c.lines.signatures.items c.in-Ok.words.name.now joins.spells.bytes c.in-Ok.words.span) (omega (arith, joins.spells.twice, c.lines.invariant.total));
    }

pub returns-clause-ok : goal.returns-clause-ok
returns-clause-ok c =
    let none : c.lines.rest.now ≡ [] = empty_of c.lines.rest.now (sym c.is_empty.ensures ∙ c.lines-test.false) in
    sym c.lines.invariant.whole ∙ ap (λ bs. signatures_from c.args.format c.lines.signatures.items (pieces_of 10 bs)) none ∙ line_none c.args.format c.lines.signatures.items
