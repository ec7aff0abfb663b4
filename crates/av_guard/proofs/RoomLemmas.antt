-- How much an event of the filter answers: no more than opens wait, and one.
use Rattle.std.proofs.Common.{◌+◌, ◌≤◌, length}
use Rattle.av_base.specs.declared.port.Port.{Port}
use Rattle.av_filter.proofs.RoomLemmas.{few}
use Rattle.std.specs.Prelude.{Result, Ok, Err, IfOk}
use Rattle.av_filter.specs.Call.{MeetsAlways, Reacts}
use Rattle.av_filter.specs.Conduct.{FilterEvent, Changes, Disconnects, Receives, disconnects, filter_step}
use Rattle.av_filter.specs.Changing.{changes}
use Rattle.av_filter.specs.Receiving.{receives}
use Rattle.av_store.specs.Files.{Change}
use Rattle.av_filter.specs.declared.out.Out.{Out}
use Rattle.av_filter_table.specs.Table.{Table}
use Rattle.av_frame.specs.Message.{Letter}
use Rattle.av_store.specs.Store.{Store}

-- the same of what a call answers
pub few_given : {E : Type 0} (r : Result Out E) (t t' : Table) (v v' : Store) (e : FilterEvent) → MeetsAlways t v t' v' r (filter_step t v e) → IfOk r (λ out. length out.answers.items ≤ length t.pended + 1)
few_given (Ok out) t t' v v' e reacts = few out t t' v v' e reacts
few_given (Err why) t t' v v' e reacts = tt

-- the same of the events by their own names
pub few_received : {E : Type 0} (r : Result Out E) (t t' : Table) (v v' : Store) (m : Letter) → MeetsAlways t v t' v' r (receives t v m) → IfOk r (λ out. length out.answers.items ≤ length t.pended + 1)
unfolding filter_step
few_received r t t' v v' m meets = few_given r t t' v v' (Receives m) meets

pub few_disconnected : {E : Type 0} (r : Result Out E) (t t' : Table) (v v' : Store) (port : Port) → MeetsAlways t v t' v' r (disconnects t v port) → IfOk r (λ out. length out.answers.items ≤ length t.pended + 1)
unfolding filter_step
few_disconnected r t t' v v' port meets = few_given r t t' v v' (Disconnects port) meets

pub few_changed : (out : Out) (t t' : Table) (v v' : Store) (c : Change) → Reacts out t' v' (changes t v c) → length out.answers.items ≤ length t.pended + 1
unfolding filter_step
few_changed out t t' v v' c reacts = few out t t' v v' (Changes c) reacts
