use Rattle.std.proofs.Common.{rules, ◌≡◌, ◌++◌, ◌-◌, ap, ◌∙◌}
use Rattle.std.specs.String.{string_bytes}
use Rattle.av_generate.proofs.DrawLemmas.{byte_passed}
use Rattle.av_generate.specs.Words.{behind, bytes_drawn}
use Rattle.av_generate.proofs.words.bytes_drawn.Goals as goal

pub bytes-preserved : goal.bytes-preserved
bytes-preserved c =
    let front = string_bytes c.bytes.text in
    let text : string_bytes c.push_str.new.self ≡ front ++ c.byte_drawn.result.now = search rules in
    ap (λ t. behind t (bytes_drawn (c.bytes.left - 1) c.byte_drawn.new.draws)) text
    ∙ ap (λ d. behind (front ++ d.0) (bytes_drawn (c.bytes.left - 1) d.1)) c.byte_drawn.ensures
    ∙ byte_passed front c.bytes.left c.bytes.draws c.bytes-test.true
    ∙ c.bytes.invariant
