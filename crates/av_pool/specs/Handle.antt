-- What a worker's handle promises.
use Rattle.crossbeam_channel.specs.Claims.{Pass}
use Rattle.std.specs.declared.thread.PromisedHandle.{PromisedHandle}
use Rattle.av_pool.specs.Channel.{IsLike}
use Rattle.av_pool.specs.declared.crew.Sent.{Sent}
use Rattle.av_pool.specs.declared.item.DoneItem.{DoneItem}
use Rattle.av_pool.specs.declared.item.WorkItem.{WorkItem}
use Rattle.av_pool.specs.declared.tally.PassTally.{PassTally}

-- the worker promised for the channels of these passes
abbrev pub IsHandleOf : {T : Type 0} → Pass WorkItem (PassTally WorkItem) → Pass DoneItem (PassTally DoneItem) → PromisedHandle T Sent
    → Type 0
IsHandleOf mine theirs h = IsLike mine h.promise.work.value × IsLike theirs h.promise.done.value
