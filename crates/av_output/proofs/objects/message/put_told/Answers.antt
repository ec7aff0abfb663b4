use Rattle.std.proofs.Common.{rules, ◌≡◌, ◌++◌, [], ◌∷◌, map}
use Rattle.std.proofs.lemmas.Result.{on_ok_weaker}
use Rattle.json.specs.Token.{begin_object}
use Rattle.av_json.specs.Member.{joined, number_tokens}
use Rattle.av_output.proofs.ToldLemmas.{object_put}
use Rattle.av_output.specs.Objects.Lines.{is}
use Rattle.av_output.specs.Objects.Messages.{field_tokens, port_members}
use Rattle.av_output.proofs.objects.message.put_told.Goals as goal

pub returns : goal.returns
returns c =
    let kind = c.args.told.now.kind.now in
    let list = c.args.list.now in
    let fields = c.args.told.now.fields in
    let e1 : c.begin_object.new.self.tokens ≡ c.args.line.now.tokens ++ begin_object ∷ [] = search rules in
    let e2 : c.put_members.new.line.tokens ≡ c.begin_object.new.self.tokens ++ joined (is kind ∷ number_tokens list c.args.number ∷ []) = search rules in
    let e3 : c.put_fields.new.line.tokens ≡ c.put_members.new.line.tokens ++ joined (map field_tokens fields) = search rules in
    let e4 : c.put_port.new.line.tokens ≡ c.put_fields.new.line.tokens ++ joined (port_members c.args.port) = search rules in
    (search rules, on_ok_weaker c.end_object.result (λ e5. object_put list kind c.args.number fields c.args.port _ _ _ _ _ _ e1 e2 e3 e4 e5) c.end_object.ensures.ok)
