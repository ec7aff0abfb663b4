-- A history that is not too long leaves leases enough to finish.
use Rattle.std.proofs.Common.{true, suc, cond, ◌^◌, ◌*◌, ◌≡◌, ℕ, ◌+◌, ◌≤◌, false, List, [], ◌∷◌, length, map, Some, min, refl, arith}
use Rattle.std.proofs.Math.Nat.{div-le_self}
use Rattle.std.specs.List.{AllByRecursion as Each}
use Rattle.av_base.specs.declared.limits.LimitValues.{LimitValues}
use Rattle.av_base.specs.declared.mode.Mode.{Mode}
use Rattle.av_base.specs.Port.{same_port}
use Rattle.av_base.specs.declared.port.Port.{Port}
use Rattle.av_base.specs.declared.port.Port.TheVariants.{One, Two}
use Rattle.av_filter.proofs.FitLemmas.{keeps_fit}
use Rattle.av_filter.specs.Fit.{Stands}
use Rattle.av_filter_table.specs.Table.{on_port}
use Rattle.av_service.specs.Response.{Response}
use Rattle.av_world.proofs.FinishLemmas.{HaveLeases}
use Rattle.av_history.proofs.SceneLemmas.{heard_desks}
use Rattle.av_base.proofs.LimitLemmas.{chunk_in, jobs_in, length_in}
use Rattle.av_base.specs.Limits.{AreInRange}
use Rattle.av_filter.proofs.BoundLemmas.{keeps_bounds}
use Rattle.av_filter_table.specs.declared.question.Question.{Question}
use Rattle.av_filter_table.specs.Answering.{present_bytes, stream_bytes}
use Rattle.av_service.specs.Conduct.{Publishes, ServiceEvent, service_step}
use Rattle.av_service.specs.Scanning.{most_leases}
use Rattle.av_sigset.specs.Catalogue.{latest}
use Rattle.av_store.specs.Bounds.{AreInBounds, IsInBounds}
use Rattle.av_store.specs.Rows.{Streams, is_number, stream_at}
use Rattle.av_world.proofs.LeaveLemmas.{fewer, filter_leaves, service_leaves}
use Rattle.av_world.proofs.ReachLemmas.{can_always_finish}
use Rattle.av_history.proofs.StepLemmas.{Preserves, history_keeps, step_keeps}
use Rattle.av_history.specs.declared.event.Event.{Event}
use Rattle.av_world.specs.Progress.{Finishes, IsWaiting, all_chunks, chunks}
use Rattle.av_sigset.specs.Publication.{publication_of}
use Rattle.av_history.specs.World.{WorldState, after, at_port, back_at, desk_of, done, heard, start, world_of}

-- ---- what a history can have used

record Spent (w : WorldState) : Type 0 where
  leases : (port : Port) → (desk_of w port).last_lease ≤ length w.history
  questions : length w.table.questions ≤ length w.history
  fits : Stands w.table w.volume
  bounds : AreInBounds w.volume

-- one event more, at which a service lends under one lease more at most
heard_few : (w : WorldState) (n : ℕ) → ((port : Port) → (desk_of w port).last_lease ≤ n) → (at : Port) (r : Response) → r.desk.last_lease ≤ n + 1 → (port : Port) → (desk_of (heard w at r) port).last_lease ≤ n + 1
heard_few w n before at r now = heard_desks (λ port d. d.last_lease ≤ n + 1) w at r now (λ port. omega (arith, before port))

spent_keeps : (w : WorldState) → Spent w → Preserves (λ e. Spent) w
spent_keeps w s = record {
  filter = λ e f is ok. record { leases = λ port. omega (arith, s.leases port); questions = omega (arith, s.questions, (filter_leaves w.table w.volume f s.fits.coherent.orderly.order).1); fits = keeps_fit.events w.table w.volume f s.fits ok; bounds = keeps_bounds.events w.table w.volume f s.bounds ok };
  service = λ e port x is. record {
    leases = λ at. omega (arith, heard_few w (length w.history) s.leases port (service_step (desk_of w port) x) (omega (arith, s.leases port, (service_leaves (desk_of w port) x).1)) at);
    questions = omega (arith, s.questions);
    fits = s.fits;
    bounds = s.bounds;
  };
  publish = λ v ps set ok. record {
    leases = both_few w s (Publishes set.version);
    questions = omega (arith, s.questions);
    fits = s.fits;
    bounds = s.bounds;
  };
  work = λ k x at. record {
    leases = λ port. omega (arith, heard_few (back_at w k) (length w.history) s.leases x.0 (service_step (desk_of w x.0) (done (map publication_of w.sets) x.1)) (omega (arith, s.leases x.0, (service_leaves (desk_of w x.0) (done (map publication_of w.sets) x.1)).1)) port);
    questions = omega (arith, s.questions);
    fits = s.fits;
    bounds = s.bounds;
  };
}
  where
    both_few : (w : WorldState) → Spent w → (x : ServiceEvent) (port : Port) → (at_port port (service_step w.one x).desk (service_step w.two x).desk).last_lease ≤ suc (length w.history)
    both_few w s x One = omega (arith, s.leases One, (service_leaves w.one x).1)
    both_few w s x Two = omega (arith, s.leases Two, (service_leaves w.two x).1)

spent : (number : ℕ) (mode : Mode) (limits : LimitValues) (es : List Event) → AreInRange limits → Spent (world_of (start number mode limits) es)
spent number mode limits es ok =
    let b = keeps_bounds.starts number limits ok in
    history_keeps Spent spent_keeps (start number mode limits) (record { leases = starts_without; questions = omega arith; fits = keeps_fit.mounts mode limits (start number mode limits).volume; bounds = record { limits = b.limits; streams = b.streams } }) es
  where
    starts_without : (port : Port) → (desk_of (start number mode limits) port).last_lease ≤ 0
    starts_without One = omega arith
    starts_without Two = omega arith

-- a history has the events that were accepted
abbrev GrewByOne : WorldState → Event → WorldState → Type 0
GrewByOne w e x = length x.history ≤ length w.history + 1

grew : (w : WorldState) (e : Event) → GrewByOne w e (after w e)
grew w e = step_keeps (GrewByOne w) w (λ e. omega arith) (record { filter = λ e f is ok. omega arith; service = λ e x is. omega arith; publish = λ v ps set ok. omega arith; work = λ k x at. omega arith }) e

accepted_few : (w : WorldState) (es : List Event) → length (world_of w es).history ≤ length w.history + length es
accepted_few w [] = omega arith
accepted_few w (e ∷ es) = omega (arith, grew (world_of w es) e, accepted_few w es)

stream_small : (limits : LimitValues) (ss : Streams) (s : ℕ) → Each (IsInBounds limits) ss → length (stream_bytes (stream_at s ss)) ≤ limits.length
stream_small limits [] s all = omega arith
stream_small limits (r ∷ ss) s all =
    let size : length r.1.bytes ≤ limits.length = all.0.size in
    let rest : length (stream_bytes (stream_at s ss)) ≤ limits.length = stream_small limits ss s all.1 in
    (elim (is_number s r.0) as (λ b. length (stream_bytes (cond b (Some r.1) (stream_at s ss))) ≤ limits.length) [ true ↦ size | false ↦ rest ])

chunks_few : (w : WorldState) → AreInBounds w.volume → (q : Question) → chunks w q ≤ 1048577
chunks_few w b q =
    let n : ℕ = length (present_bytes w.volume q.stream) in
    let c : ℕ = min (desk_of w q.port).limits.chunk w.table.limits.chunk in
    let small : n ≤ w.volume.limits.length = stream_small w.volume.limits w.volume.streams q.stream b.streams in
    omega (arith, small, (length_in w.volume.limits b.limits).1, div-le_self n c)

all_chunks_few : (w : WorldState) → AreInBounds w.volume → (qs : List Question) → all_chunks w qs ≤ 1048577 * length qs
all_chunks_few w b [] = omega arith
all_chunks_few w b (q ∷ qs) = omega (arith, chunks_few w b q, all_chunks_few w b qs)

most : most_leases ≡ 18446744073709551615
most = refl

-- a history that is not too long leaves leases enough
pub can_finish_soon : (number : ℕ) (mode : Mode) (limits : LimitValues) (history : List Event) → AreInRange limits → length history ≤ 2 ^ 43 → (IsWaiting (world_of (start number mode limits) history) → (world_of (start number mode limits) history).table.floor ≤ latest (world_of (start number mode limits) history).sets)
    → Finishes (world_of (start number mode limits) history)
can_finish_soon number mode limits history ok short reached =
    let w : WorldState = world_of (start number mode limits) history in
    let s : Spent w = spent number mode limits history ok in
    let size : 2 ^ 43 ≡ 8796093022208 = refl in
    let long : length w.history ≤ length history = omega (arith, accepted_few (start number mode limits) history) in
    let leases : HaveLeases w w.table.questions =
    λ port. omega (arith, s.leases port, s.questions, all_chunks_few w s.bounds (on_port port w.table.questions), fewer (λ (q : Question). same_port q.port port) w.table.questions, long, short, size, most) in
    can_always_finish number mode limits history (chunk_in limits ok).0 (jobs_in limits ok).0 (λ waiting. record { reached = reached waiting; leases = leases })
