-- A guard that is as it was, one whose contents are fewer, and one that asks.
use Rattle.std.proofs.Common.{◌≡◌, ℕ, ◌+◌, ◌-◌, ◌==◌, Bool, true, false, List, length, map, Option, Some, None, Result, Ok, Err, refl, arith, ap, sym, subst, eqb-true, ◌∙◌}
use Rattle.std.specs.Prelude.{is_some, if◌then◌else◌}
use Rattle.std.specs.Option.{option_map}
use Rattle.av_base.specs.declared.refusal.Refusal.{Refusal}
use Rattle.av_base.specs.declared.refusal.Refusal.TheVariants.{Fault, NoMemory}
use Rattle.av_filter.proofs.BoundLemmas.{leads_to}
use Rattle.av_filter.specs.Conduct.{Changes, filter_refusal, filter_step}
use Rattle.av_filter.specs.Once.{times}
use Rattle.av_guard.specs.declared.waiter.Waiter.{Waiter}
use Rattle.av_filter_table.specs.Table.{Table}
use Rattle.av_guard.proofs.SumLemmas.{count_less, sum_less}
use Rattle.av_guard.specs.Asking.{AskedNow, IsThere, is_crowded, ask_fault, asked, bytes_in, bytes_kept, place_fault, place_of}
use Rattle.av_guard.specs.Asking as refused_so
use Rattle.av_guard.specs.Kept.{AsksNew, Never, Stays}
use Rattle.av_guard.specs.Kept as kept_so
use Rattle.av_guard.specs.Place.{Spot, Unused}
use Rattle.std.specs.declared.alloc.AllocError.{AllocError}
use Rattle.av_guard.specs.Room.{LetGo, LetsGo, RoomOf}
use Rattle.av_guard.specs.State.{Gives, State, happens}
use Rattle.av_guard.specs.Telling.{Waiters}
use Rattle.av_guard.specs.declared.fault.AskFault.{AskFault}
use Rattle.av_guard.specs.declared.fault.AskFault.TheVariants.{Full, OpensSpent}
use Rattle.av_guard.specs.declared.given.GuardOut.{GuardOut}
use Rattle.av_store.specs.Files.{Remove}
use Rattle.av_store.specs.Rows.{stream_at, without}
use Rattle.av_store.specs.Seen.{change_of, kept_or}
use Rattle.av_store.specs.Store.{Store, greatest, with_streams}
use Rattle.av_store.specs.declared.fault.StoreFault.TheVariants.{NoStream}
use Rattle.av_store.specs.declared.stream.Stream.{Stream}

pub back : (g : State) (t : Table) (v : Store) (w : Waiters) → t ≡ g.table → v ≡ g.volume → w ≡ g.waiting → ◌≡◌ {A = State} (record g { table = t; volume = v; waiting = w }) g
back g t v w table volume waiting =
    ap (λ x. record g { table = x; volume = v; waiting = w }) table ∙ ap (λ x. record g { volume = x; waiting = w }) volume ∙ ap (λ x. record g { waiting = x }) waiting

-- one content less
pub record IsLess (v u : Store) (size : ℕ) : Type 0 where
  pub count : length v.streams ≡ length u.streams + 1
  pub bytes : bytes_kept v ≡ bytes_kept u + size

pub let_go_counts : (t : Table) (v u : Store) (s bytes : ℕ) → u ≡ (filter_step t v (Changes (Remove s))).volume → Some bytes ≡ option_map (λ (x : Stream). length x.bytes) (stream_at s v.streams) → IsLess v u bytes
unfolding change_of
let_go_counts t v u s bytes is size = go (stream_at s v.streams) refl size
  where
    go : (o : Option Stream) → stream_at s v.streams ≡ o → Some bytes ≡ option_map (λ (x : Stream). length x.bytes) o → IsLess v u bytes
    go None e bad = absurd cc
    go (Some x) e same =
        let length_is : bytes ≡ length x.bytes = cc in
        let gone : u.streams ≡ without s v.streams =
        ap (λ (w : Store). w.streams) (is ∙ leads_to t v (Changes (Remove s)))
        ∙ ap (λ b. (kept_or v (with_streams v (if b then Ok (without s v.streams) else Err NoStream))).streams) (ap is_some e) in
        record {
          count = count_less v.streams s x e ∙ ap (λ ss. length ss + 1) (sym gone);
          bytes = sum_less v.streams s x e ∙ ap (λ ss. bytes_in ss + length x.bytes) (sym gone) ∙ ap (λ n. bytes_kept u + n) (sym length_is);
        }

pub left_over : (opens left : ℕ) → left ≡ greatest - opens → (left ≡ 0 → ⊥) → (opens == greatest) ≡ false
left_over opens left is some = go (opens == greatest) refl
  where
    go : (b : Bool) → (opens == greatest) ≡ b → (opens == greatest) ≡ false
    go false e = e
    go true e =
        let all : opens ≡ greatest = eqb-true opens greatest e in
        absurd (some (omega (arith, is, all)))

-- why a content can't be asked about, by its place
fault_at : (g : State) (c : List ℕ) (spot : Spot) → (g.volume.opens == greatest) ≡ false → place_of g c ≡ spot → ask_fault g c ≡ place_fault g spot
fault_at g c spot left is = ap (λ b. if b then Some OpensSpent else place_fault g (place_of g c)) left ∙ ap (λ p. place_fault g p) is

pub asked_new : (old new : State) (client tag : ℕ) (name c : List ℕ) (r : Result GuardOut (Refusal AskFault)) → (old.volume.opens == greatest) ≡ false → place_of old c ≡ Unused name → AsksNew old new client tag name c r → AskedNow old new client tag c r
asked_new old new client tag name c (Ok given) left is (there, gives) = (
  fault_at old c (Unused name) left is ∙ ap (λ o. if is_some o then Some Full else None) there.0,
  subst (IsThere old c) (sym is) there,
  subst (λ p. Gives given new (asked old client tag c p)) (sym is) gives,
)
asked_new old new client tag name c (Err (Fault f)) left is (full, refused, same) =
    (fault_at old c (Unused name) left is ∙ ap (λ b. if b then Some Full else None) refused ∙ ap (λ k. Some k) (sym full), same)
asked_new old new client tag name c (Err NoMemory) left is (Never creates (kept_so.Same same)) = refused_so.Same same
asked_new old new client tag name c (Err NoMemory) left is (Never creates (kept_so.Spent spent)) = refused_so.Spent name is creates spent
asked_new old new client tag name c (Err NoMemory) left is (Stays there stays) = refused_so.Kept name is there stays

-- a content that may go was let go, or nothing happened
pub let_go_room : (old same new : State) (s : ℕ) → same ≡ old → is_crowded old ≡ true → times s (map (λ (e : ℕ × Waiter). e.1.stream) old.waiting) ≡ 0 → (r : Result (Option GuardOut) AllocError) → LetsGo same new s r → RoomOf old new r
let_go_room old same new s is crowded idle (Ok (Some given)) lets =
    let there : (filter_refusal old.table old.volume (Changes (Remove s)) ≡ None) × Gives given new (happens old (Changes (Remove s))) =
    subst (λ g. (filter_refusal g.table g.volume (Changes (Remove s)) ≡ None) × Gives given new (happens g (Changes (Remove s)))) is lets in
    LetGo s crowded idle there.0 there.1
let_go_room old same new s is crowded idle (Ok None) lets = lets ∙ is
let_go_room old same new s is crowded idle (Err e) lets = lets ∙ is
