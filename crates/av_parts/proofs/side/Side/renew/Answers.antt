use Rattle.std.proofs.Common.{ap, ◌∙◌, ◌++◌}
use Rattle.av_parts.specs.Judge.{ended_by_newer}
use Rattle.av_parts.specs.Serving.{frames_of}
use Rattle.av_parts.proofs.CourseLemmas.{leads_renewed, on_ok}
use Rattle.av_parts.proofs.side.Side.renew.Goals as goal

pub returns-clause-ok : goal.returns-clause-ok
returns-clause-ok c =
    on_ok c.put_words.result
    (λ put. leads_renewed _ _ _ _ _ c.in_ok-renew.ensures.ok
    (put ∙ ap (λ ws. c.args.self.now.waits.items ++ frames_of ws)
    (c.deref.ensures.value ∙ c.in_ok-renew.ensures.words ∙ ap (λ ws. ws ++ ended_by_newer c.args.self.now.judge.held) c.clear.ensures.items)))
    c.put_words.ensures.ok
