-- How much a call gives out: few messages, and no more answers than opens wait.
use Rattle.std.proofs.Common.{◌+◌, ◌≤◌, length, Option, Some, None, sym, subst}
use Rattle.std.specs.Prelude.{IfSome}
use Rattle.av_filter.proofs.RoomLemmas.{small_reaction}
use Rattle.av_filter.specs.Conduct.{FilterEvent}
use Rattle.av_filter.specs.Room.{most_messages}
use Rattle.av_filter.specs.declared.out.Out.{Out}
use Rattle.av_filter_table.specs.Table.{Table}
use Rattle.av_store.specs.Store.{Store}
use Rattle.av_filter.specs.Asking.{Calls}
use Rattle.av_world.specs.Stage.{IsSmallOut}

-- what a call gave out is what its event does
small_calls : (t : Table) (v : Store) (t' : Table) (v' : Store) (f : FilterEvent) (out : Out) → Calls t v t' v' f (Some out) → IsSmallOut (most_messages t f) (length t.pended) out
small_calls t v t' v' f out is =
    let small = small_reaction t v f in
    record { messages = subst (λ ms. length ms ≤ most_messages t f) (sym is.1.messages) small.messages; answers = subst (λ xs. length xs ≤ length t.pended + 1) (sym is.1.answers) small.answers }

pub small_if : (r : Option Out) (t : Table) (v : Store) (t' : Table) (v' : Store) (f : FilterEvent) → Calls t v t' v' f r → IfSome r (IsSmallOut (most_messages t f) (length t.pended))
small_if (Some out) t v t' v' f is = small_calls t v t' v' f out is
small_if None t v t' v' f is = tt
