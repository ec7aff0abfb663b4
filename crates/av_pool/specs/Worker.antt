-- What a worker has done, and how what came out of both channels stands to what went in.
use Rattle.std.specs.Prelude.{◌≡◌, ℕ, ◌+◌, List, []}
use Rattle.av_pool.specs.Items.{dones_of, runs_of}
use Rattle.av_pool.specs.Weights.{weigh}
use Rattle.av_pool.specs.declared.item.DoneItem.{DoneItem}
use Rattle.av_pool.specs.declared.item.WorkItem.{WorkItem}
use Rattle.av_pool.specs.declared.tally.PassTally.{PassTally}
use Rattle.av_service.specs.Work.{DoneState}

-- A worker with these passes has put no work and taken nothing done; and what it sent is what the runs of the works that it
-- took give.
pub record HasSent (v : PassTally WorkItem) (w : PassTally DoneItem) : Type 0 where
  pub part : v.parts ≡ 1
  pub no_work : v.put ≡ []
  pub other_part : w.parts ≡ 1
  pub no_done : w.taken ≡ []
  pub same : dones_of w.put ≡ runs_of v.taken

-- what came out, and what was put into the second channel, is what was taken out of it and what the works taken out of the
-- first give
abbrev pub Settles : List DoneState → PassTally DoneItem → PassTally WorkItem → Type 0
Settles out w v =
    (h : DoneState → ℕ) → weigh h out + weigh h (dones_of w.put) ≡ weigh h (dones_of w.taken) + weigh h (runs_of v.taken)
