-- The works and the done works among what went through a channel, in order. Marks and ends have none.
use Rattle.std.specs.Prelude.{ℕ, List, [], ◌∷◌}
use Rattle.std.specs.List.{flat_map}
use Rattle.av_desk.specs.Lent.{LentState}
use Rattle.av_pool.specs.Run.{done_of}
use Rattle.av_pool.specs.Weights.{weigh}
use Rattle.av_pool.specs.declared.item.WorkItem.{WorkItem}
use Rattle.av_pool.specs.declared.item.WorkItem.TheVariants as work
use Rattle.av_pool.specs.declared.item.DoneItem.{DoneItem}
use Rattle.av_pool.specs.declared.item.DoneItem.TheVariants as done
use Rattle.av_service.specs.Work.{DoneState}

-- the work in an item, if it carries one
abbrev pub lent_in : WorkItem → List LentState
lent_in (work.Parcel l) = l ∷ []
lent_in work.Mark = []
lent_in work.End = []

-- the works in these items
abbrev pub lents_of : List WorkItem → List LentState
lents_of xs = flat_map lent_in xs

-- the result in an item, if it carries one
abbrev pub done_in : DoneItem → List DoneState
done_in (done.Parcel d) = d ∷ []
done_in done.Mark = []
done_in done.End = []

-- the results in these items
abbrev pub dones_of : List DoneItem → List DoneState
dones_of xs = flat_map done_in xs

-- what the runs of the works give
abbrev pub run_in : WorkItem → List DoneState
run_in (work.Parcel l) = done_of l ∷ []
run_in work.Mark = []
run_in work.End = []

-- the results of running the works in these items
abbrev pub runs_of : List WorkItem → List DoneState
runs_of xs = flat_map run_in xs

-- one for a mark
abbrev pub mark_in : WorkItem → ℕ
mark_in (work.Parcel l) = 0
mark_in work.Mark = 1
mark_in work.End = 0

-- how many marks are among these items
abbrev pub marks_of : List WorkItem → ℕ
marks_of xs = weigh mark_in xs

-- one for an item without a work
abbrev pub idle_in : DoneItem → ℕ
idle_in (done.Parcel d) = 0
idle_in done.Mark = 1
idle_in done.End = 1

-- how many of these items have no work
abbrev pub idles_of : List DoneItem → ℕ
idles_of xs = weigh idle_in xs
