use Rattle.av_base.specs.declared.mode.Mode.TheVariants.{FailClosed}
use Rattle.av_promise.proofs.FilteredLemmas.{front_legal, front_right, run_legal, run_right}
use Rattle.av_promise.proofs.lines.filtered_grants_are_clean.Goals as goal

pub returns-clause-whole : goal.returns-clause-whole
returns-clause-whole g c = λ names wishes old new status run starts sets es served.
    let has = g.F.Contents.has_content c.args.files.now in
    run_right has names wishes old new status run starts sets es served
    (c.audits.ensures.only_clean FailClosed _ _ _ _ _ _ (run_legal has names wishes old new status run starts sets es served))

pub returns-clause-so_far : goal.returns-clause-so_far
returns-clause-so_far g c = λ names wishes old new run starts sets es served.
    let has = g.F.Contents.has_content c.args.files.now in
    front_right has names wishes old new run starts sets es served
    (c.audits.ensures.only_clean FailClosed _ _ _ _ _ _ (front_legal has names wishes old new run starts sets es served))
