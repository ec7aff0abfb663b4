use Rattle.av_service.specs.Desk.{job_at}
use Rattle.av_service.proofs.JobLemmas.{placed}
use Rattle.av_service.proofs.jobs.JobList.placed.Goals as goal

pub returns-in-Some-clause-found : goal.returns-in-Some-clause-found
returns-in-Some-clause-found c =
    let jobs = c.self.inside.jobs.items in
    rw (← c.self.view_is) (placed jobs (job_at c.args.id jobs) c.in-Some.place c.index.result.now c.self.invariant.once (rw c.as_slice.ensures.value at c.in-Some.ensures) c.index.ensures)
