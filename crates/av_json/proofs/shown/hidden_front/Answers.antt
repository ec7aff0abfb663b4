use Rattle.std.proofs.Common.{◌≡◌, ◌∙◌, rules}
use Rattle.av_json.proofs.FrontLemmas.{found_front, front_only}
use Rattle.av_json.specs.Shown.{hidden_front}
use Rattle.av_json.proofs.shown.hidden_front.Goals as goal

pub returns-clause-found : goal.returns-clause-found
unfolding hidden_front
returns-clause-found c =
    let value : c.if_hidden.result ≡ hidden_front c.args.text.now = search rules in
    found_front c.if_hidden.result c.args.text.now value

pub returns-clause-only : goal.returns-clause-only
unfolding hidden_front
returns-clause-only c =
    let value : c.if_hidden.result ≡ hidden_front c.args.text.now = search rules in
    λ code begins. value ∙ front_only c.args.text.now code begins
