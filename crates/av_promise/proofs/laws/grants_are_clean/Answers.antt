use Rattle.av_promise.proofs.PromiseLemmas.{clean_grants, legal}
use Rattle.av_promise.proofs.laws.grants_are_clean.Goals as goal

pub returns : goal.returns
returns c = λ settings calls g leads.
    let h = c.guards_have_history.ensures settings calls g leads in (
      h.0,
      h.1,
      λ starts sets es served.
          clean_grants settings calls g h.0 h.1 starts sets es served (c.audits.ensures.only_clean settings.mode _ _ _ _ _ _ (legal settings calls g h.0 h.1 starts sets es served)),
    )
