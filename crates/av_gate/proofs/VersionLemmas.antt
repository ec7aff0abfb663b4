-- The floor after a message is not below the version that it shows.
use Rattle.std.proofs.Common.{ℕ, ◌≤◌, ◌==◌, not, nat_lt, Result, Ok, Err, arith, subst, sym}
use Rattle.std.proofs.lemmas.Bool.{cond_both}
use Rattle.std.specs.Prelude.{IfOk}
use Rattle.av_base.specs.Answers.{Answers}
use Rattle.av_base.specs.declared.port.Port.{Port}
use Rattle.av_base.specs.declared.refusal.Refusal.{Refusal}
use Rattle.av_base.specs.declared.refusal.Refusal.TheVariants.{Fault, NoMemory}
use Rattle.av_filter.specs.Conduct.{Receives, filter_step}
use Rattle.av_filter.specs.Reaction.{Reaction}
use Rattle.av_filter.specs.Receiving.{greeted, receives_at}
use Rattle.av_filter_table.specs.Ports.{is_open}
use Rattle.av_filter_table.specs.Table.{Table}
use Rattle.av_frame.specs.Message.{Letter}
use Rattle.av_frame.specs.declared.message.Body.{Body}
use Rattle.av_frame.specs.declared.message.Body.TheVariants.{Hello, Read, Reply, Updated}
use Rattle.av_gate.proofs.BookLemmas.{told}
use Rattle.av_gate.specs.Book.{Book, happens, state_of}
use Rattle.av_gate.specs.Versions.{shown_by, version_shown}
use Rattle.av_gate.specs.declared.fault.GateFault.{GateFault}
use Rattle.av_gate.specs.declared.settled.Settled.{Settled}
use Rattle.av_store.specs.Store.{Store}

abbrev Shows : Body → Reaction → Type 0
Shows m r = shown_by m r.note ≤ r.table.floor

welcomed : (t : Table) (v : Store) (port : Port) (number version : ℕ) → Shows (Hello number version) (greeted t v port number version)
unfolding greeted
welcomed t v port number version =
    cond_both (not (number == v.number)) _ _ (Shows (Hello number version)) (λ e. omega (arith))
    (λ e. cond_both (is_open port t.connected) _ _ (Shows (Hello number version)) (λ e. omega (arith)) (λ e. cond_both (nat_lt version t.floor) _ _ (Shows (Hello number version)) (λ e. omega (arith)) (λ e. omega (arith))))

received : (t : Table) (v : Store) (port : Port) (m : Body) → Shows m (receives_at t v port m)
unfolding receives_at
received t v port (Hello number version) = welcomed t v port number version
received t v port (Updated version) = omega (arith)
received t v port (Read id offset count) = omega (arith)
received t v port (Reply id outcome) = omega (arith)
received t v port _ = omega (arith)

pub shown_if : (r : Result Settled (Refusal GateFault)) (b new : Book) (m : Letter) → Answers b new r (happens b (Receives m)) → IfOk r (λ s. version_shown m s.note ≤ s.floor)
unfolding filter_step
shown_if (Ok s) b new m h = subst (λ (x : Settled). version_shown m x.note ≤ x.floor) (sym (told b (Receives m) s new h)) (received (state_of b).table (state_of b).volume m.port m.body)
shown_if (Err (Fault f)) b new m h = tt
shown_if (Err NoMemory) b new m h = tt
