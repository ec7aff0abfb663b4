use Rattle.std.proofs.Common.{subst, ap, ◌∙◌, ◌≡◌, ◌++◌, ◌∷◌, [], rules}
use Rattle.json.specs.Print.{print}
use Rattle.av_base.specs.Device.{Writes}
use Rattle.av_json.specs.Line.{object_line}
use Rattle.av_json.specs.Shown.{HasNothingHidden, shown, shown_before}
use Rattle.av_json.proofs.BackLemmas.{line_shown, tokens_shown}
use Rattle.av_json.proofs.CleanLemmas.{nothing_hidden}
use Rattle.av_json.proofs.line.write_line.Goals as goal

pub returns-then-is_err-clause-reads_back : goal.returns-then-is_err-clause-reads_back
returns-then-is_err-clause-reads_back g c = tokens_shown c.args.line.tokens c.into_inner-text.ensures.reads_back

pub returns-then-is_err-2-clause-writes : goal.returns-then-is_err-2-clause-writes
returns-then-is_err-2-clause-writes g c =
    let before = c.args.line.before in
    let ts = c.args.line.tokens in
    let text : c.deref.result.now ≡ (before ++ print ts) ++ 10 ∷ [] = search rules in
    let wrote : Writes c.write_shown.result (g.W.Write.contents c.args.writer.now) (g.W.Write.contents c.write_shown.new.writer) (shown_before before ++ object_line ts) =
    subst (Writes c.write_shown.result (g.W.Write.contents c.args.writer.now) (g.W.Write.contents c.write_shown.new.writer))
    (ap shown text ∙ line_shown before ts c.into_inner-text.ensures.reads_back) c.write_shown.ensures in
    search rules

pub returns-then-is_err-2-clause-reads_back : goal.returns-then-is_err-2-clause-reads_back
returns-then-is_err-2-clause-reads_back g c = tokens_shown c.args.line.tokens c.into_inner-text.ensures.reads_back

pub returns-clause-writes : goal.returns-clause-writes
returns-clause-writes g c =
    let before = c.args.line.before in
    let ts = c.args.line.tokens in
    let text : c.deref.result.now ≡ (before ++ print ts) ++ 10 ∷ [] = search rules in
    let wrote : Writes c.write_shown.result (g.W.Write.contents c.args.writer.now) (g.W.Write.contents c.write_shown.new.writer) (shown_before before ++ object_line ts) =
    subst (Writes c.write_shown.result (g.W.Write.contents c.args.writer.now) (g.W.Write.contents c.write_shown.new.writer))
    (ap shown text ∙ line_shown before ts c.into_inner-text.ensures.reads_back) c.write_shown.ensures in
    search rules

pub returns-clause-reads_back : goal.returns-clause-reads_back
returns-clause-reads_back g c = tokens_shown c.args.line.tokens c.into_inner-text.ensures.reads_back

pub returns-then-is_err-clause-nothing_hidden : goal.returns-then-is_err-clause-nothing_hidden
returns-then-is_err-clause-nothing_hidden g c = subst HasNothingHidden (line_shown c.args.line.before c.args.line.tokens c.into_inner-text.ensures.reads_back) (nothing_hidden _)

pub returns-then-is_err-2-clause-nothing_hidden : goal.returns-then-is_err-2-clause-nothing_hidden
returns-then-is_err-2-clause-nothing_hidden g c = subst HasNothingHidden (line_shown c.args.line.before c.args.line.tokens c.into_inner-text.ensures.reads_back) (nothing_hidden _)

pub returns-clause-nothing_hidden : goal.returns-clause-nothing_hidden
returns-clause-nothing_hidden g c = subst HasNothingHidden (line_shown c.args.line.before c.args.line.tokens c.into_inner-text.ensures.reads_back) (nothing_hidden _)
