-- How much a call of the filter answers: no more than opens wait, and one. And that an open takes a number.
use Rattle.std.proofs.Common.{ℕ, ◌≡◌, ◌+◌, ◌≤◌, length, ap, ◌∙◌}
use Rattle.std.specs.Prelude.{Result, Ok, Err, IfOk}
use Rattle.av_base.specs.declared.port.Port.{Port}
use Rattle.av_filter.proofs.BoundLemmas.{leads_to}
use Rattle.av_filter.proofs.RoomLemmas.{few}
use Rattle.av_filter.specs.Call.{MeetsAlways, Reacts}
use Rattle.av_filter.specs.Conduct.{Disconnects, Opens, Receives, disconnects, filter_step}
use Rattle.av_filter.specs.Opening.{opened}
use Rattle.av_filter.specs.Receiving.{receives}
use Rattle.av_filter.specs.declared.out.Out.{Out}
use Rattle.av_filter_table.specs.Table.{Table}
use Rattle.av_frame.specs.Message.{Letter}
use Rattle.av_store.specs.Store.{Store}

-- the same of the events by their own names
pub few_received : (out : Out) (t t' : Table) (v v' : Store) (m : Letter) → Reacts out t' v' (receives t v m) → length out.answers.items ≤ length t.pended + 1
unfolding filter_step
few_received out t t' v v' m reacts = few out t t' v v' (Receives m) reacts

pub few_disconnected : (out : Out) (t t' : Table) (v v' : Store) (port : Port) → Reacts out t' v' (disconnects t v port) → length out.answers.items ≤ length t.pended + 1
unfolding filter_step
few_disconnected out t t' v v' port reacts = few out t t' v v' (Disconnects port) reacts

pub few_told : {E : Type 0} (r : Result Out E) (t t' : Table) (v v' : Store) (m : Letter) → MeetsAlways t v t' v' r (receives t v m) → IfOk r (λ out. length out.answers.items ≤ length t.pended + 1)
few_told (Ok out) t t' v v' m reacts = few_received out t t' v v' m reacts
few_told (Err e) t t' v v' m reacts = tt

-- an open takes a number
pub opens_taken : (out : Out) (t t' : Table) (v v' : Store) (s least : ℕ) → Reacts out t' v' (opened t v s least) → v'.opens ≡ v.opens + 1
unfolding filter_step
opens_taken out t t' v v' s least reacts = ap (λ (w : Store). w.opens) (reacts.volume ∙ leads_to t v (Opens s least))
