use Rattle.std.proofs.Common.{◌≡◌, ◌+◌, ◌++◌, ◌∷◌, [], ◌∙◌, ap, arith, sym, take}
use Rattle.std.proofs.lemmas.List.{take_more}
use Rattle.av_engines.proofs.WatchingLemmas.{amid_opens, on_err, submitted_more}
use Rattle.av_engines.proofs.watching.submit_all.Goals as goal

pub returns-in_err-submit-clause-amid : goal.returns-in_err-submit-clause-amid
returns-in_err-submit-clause-amid c =
    let i = c.opens.stream-index in
    let all = c.args.opens.now in
    let s = c.stream-item.result in
    let more : take (i + 1) all ≡ take i all ++ s ∷ [] = take_more all i s (omega arith) ∙ ap (λ n. take i all ++ n ∷ []) (sym c.stream-item.is) in
    on_err _ c.from_residual.result (amid_opens _ _ _ _ _ _ _ all i s more c.opens.invariant.puts.at c.submit.ensures.amid)

pub opens-preserved : goal.opens-preserved
opens-preserved c =
    let i = c.opens.stream-index in
    let all = c.args.opens.now in
    let s = c.stream-item.result in
    let more : take (i + 1) all ≡ take i all ++ s ∷ [] = take_more all i s (omega arith) ∙ ap (λ n. take i all ++ n ∷ []) (sym c.stream-item.is) in
    record {
      puts = submitted_more _ _ _ _ _ _ _ _ _ _ (take i all) _ s more c.opens.invariant.puts c.in_ok-submit.ensures.ok;
      taken = omega (arith, c.opens.invariant.taken, c.in_ok-submit.ensures.taken);
      first = c.submit.ensures.rest.0 ∙ c.opens.invariant.first;
      submitted = c.submit.ensures.rest.1 ∙ c.opens.invariant.submitted;
    }
