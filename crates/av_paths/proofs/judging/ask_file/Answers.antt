use Rattle.av_paths.proofs.judging.ask_file.Goals as goal

pub returns-in_err-size-2-clause-tags : goal.returns-in_err-size-2-clause-tags
returns-in_err-size-2-clause-tags g c = λ first. c.ask_once-in-tries.ensures (c.forget_last.ensures.tags (c.tries.invariant first))

pub tries-preserved : goal.tries-preserved
tries-preserved g c = λ first. c.ask_once-in-tries.ensures (c.forget_last.ensures.tags (c.tries.invariant first))
