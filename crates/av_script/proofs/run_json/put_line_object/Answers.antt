use Rattle.std.proofs.Common.{rules, ◌≡◌, ◌++◌, [], ◌∷◌, codes}
use Rattle.std.proofs.lemmas.Result.{on_ok_weaker}
use Rattle.json.specs.Token.{begin_object, end_object}
use Rattle.av_json.specs.Member.{named_tokens, number_tokens}
use Rattle.av_output.proofs.ObjectLemmas.{five_put}
use Rattle.av_script.specs.CommandObjects.{told_by}
use Rattle.av_script.specs.Script.Statement.{meaning}
use Rattle.av_script.proofs.run_json.put_line_object.Goals as goal

pub returns-clause-tokens : goal.returns-clause-tokens
returns-clause-tokens c =
    let first = number_tokens (codes "line") c.args.number in
    let second = named_tokens (codes "command") (codes "command_hex") c.args.text.now in
    let third = told_by c.args.world.now (meaning c.args.statement) in
    let e1 : c.begin_object.new.self.tokens ≡ c.args.line.now.tokens ++ begin_object ∷ [] = search rules in
    let e2 : c.put_members.new.line.tokens ≡ c.begin_object.new.self.tokens ++ (first ++ []) = search rules in
    let e3 : c.put_named.new.line.tokens ≡ c.put_members.new.line.tokens ++ second = c.in_ok-put_named.ensures.1 in
    let e4 : c.put_statement.new.line.tokens ≡ c.put_named.new.line.tokens ++ third = search rules in
    on_ok_weaker c.end_object.result (λ e5. five_put _ (begin_object ∷ []) first second third (end_object ∷ []) _ _ _ _ _ e1 e2 e3 e4 e5) c.end_object.ensures.ok
