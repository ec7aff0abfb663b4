-- What every event keeps of a guard: contents are written once, and each open is waited for by one.
use Rattle.std.proofs.Common.{◌≡◌, ℕ, zero, suc, ◌+◌, ◌<◌, ◌≤◌, ◌==◌, Bool, true, false, cond, List, [], ◌∷◌, ◌++◌, Option, Some, None, if◌then◌else◌, refl, arith, ap, ◌∙◌, sym, subst}
use Rattle.std.proofs.lemmas.Bool.Decides.{nat_tests}
use Rattle.std.specs.List.{AllByRecursion as Each}
use Rattle.std.specs.declared.random_state.RandomState.{RandomState}
use Rattle.av_context.specs.Contexts.{at, with}
use Rattle.av_filter.proofs.BoundLemmas.{leads_to}
use Rattle.av_filter.proofs.CountLemmas.{opens_after}
use Rattle.av_filter.proofs.EachLemmas.{each-append}
use Rattle.av_filter.specs.Call.{Reacts}
use Rattle.av_filter.specs.Conduct.{FilterEvent, Changes, Opens, filter_step}
use Rattle.av_filter.specs.Fit.{Fits}
use Rattle.av_filter.specs.Once.{once_up_to, times}
use Rattle.av_filter.specs.declared.out.Out.{Out}
use Rattle.av_filter_table.specs.Table.{Table}
use Rattle.av_filter_table.specs.declared.pended.Pended.{Pended}
use Rattle.av_guard.proofs.PairLemmas.{at_new, at_none, at_other, ids, key_more, keys, paired, times_above}
use Rattle.av_guard.proofs.StayLemmas.{Comes}
use Rattle.av_filter.specs.Storing.{stream_with}
use Rattle.av_guard.specs.Naming.{name_of}
use Rattle.av_guard.specs.Place.{Held, Spot, Unused, has_bytes, place_from, spot_at}
use Rattle.av_guard.specs.Telling.{Waiters, left_by}
use Rattle.av_guard.specs.Waiting.{ArePaired, IsAwaited}
use Rattle.av_guard.specs.Written.{AreWritten, IsWritten}
use Rattle.av_guard.specs.declared.waiter.Waiter.{Waiter}
use Rattle.av_store.specs.Files.{Remove}
use Rattle.av_store.specs.Rows.{Streams, is_number, number_named, stream_at, without}
use Rattle.av_store.specs.Seen.{change_of, kept_or}
use Rattle.av_store.specs.Store.{Store, with_streams}
use Rattle.av_store.specs.declared.fault.StoreFault.TheVariants.{NoStream}
use Rattle.std.specs.Prelude.{is_some, Ok, Err}

-- a free name of a content is one of its names
pub record IsNameOf (key : RandomState) (c name : List ℕ) : Type 0 where
  pub number : ℕ
  pub below : number < 16
  pub name_is : name ≡ name_of key c number

spot_names : (key : RandomState) (v : Store) (c name own : List ℕ) (later : Spot) (n : ℕ) → n < 16 → own ≡ name_of key c n → (later ≡ Unused name → IsNameOf key c name) → (o : Option ℕ) → spot_at v c own later o ≡ Unused name → IsNameOf key c name
spot_names key v c name own later n low is rest None e = let same : own ≡ name = cc in record { number = n; below = low; name_is = sym same ∙ is }
spot_names key v c name own later n low is rest (Some s) e = go (has_bytes v s c) e
  where
    go : (b : Bool) → (if b then Held s else later) ≡ Unused name → IsNameOf key c name
    go true bad = absurd cc
    go false next = rest next

place_names : (k n : ℕ) (key : RandomState) (v : Store) (c name : List ℕ) → n + k ≤ 16 → place_from k n key v c ≡ Unused name → IsNameOf key c name
unfolding place_from
place_names zero n key v c name low bad = absurd cc
place_names (suc k) n key v c name low is =
    spot_names key v c name (name_of key c n) (place_from k (n + 1) key v c) n (omega (arith, low)) refl (place_names k (n + 1) key v c name (omega (arith, low))) (number_named (name_of key c n) v.streams) is

pub free_name : (key : RandomState) (v : Store) (c name : List ℕ) → place_from 16 0 key v c ≡ Unused name → IsNameOf key c name
free_name key v c name is = place_names 16 0 key v c name (omega arith) is

-- contents stay as they were written
pub written_without : (key : RandomState) (ss : Streams) (s : ℕ) → AreWritten key ss → AreWritten key (without s ss)
written_without key [] s all = tt
written_without key (e ∷ ss) s all =
    elim (is_number s e.0) as (λ b. AreWritten key (cond b ss (e ∷ without s ss))) [
      | true ↦ all.1
      | false ↦ (all.0, written_without key ss s all.1)
    ]

pub written_more : (key : RandomState) (ss : Streams) (s : ℕ) (name c : List ℕ) → AreWritten key ss → IsNameOf key c name → AreWritten key (ss ++ (s, stream_with name c) ∷ [])
written_more key ss s name c all is =
    each-append (λ e. IsWritten key e.1) ss ((s, stream_with name c) ∷ []) all (record { once = refl; number = is.number; below = is.below; name = is.name_is }, tt)

pub written_same : (key : RandomState) (ss tt : Streams) → tt ≡ ss → AreWritten key ss → AreWritten key tt
written_same key ss ts same all = subst (AreWritten key) (sym same) all

pub written_removed : (key : RandomState) (t : Table) (v w : Store) (s : ℕ) → w ≡ (filter_step t v (Changes (Remove s))).volume → AreWritten key v.streams → AreWritten key w.streams
unfolding change_of
written_removed key t v w s is all = subst (λ (u : Store). AreWritten key u.streams) (sym (is ∙ leads_to t v (Changes (Remove s)))) (go (is_some (stream_at s v.streams)))
  where
    go : (b : Bool) → AreWritten key (kept_or v (with_streams v (if b then Ok (without s v.streams) else Err NoStream))).streams
    go true = written_without key v.streams s all
    go false = all

-- who waits, after an event that submits nothing
pub paired_after : (key : RandomState) (t t' : Table) (v v' : Store) (m m' : Waiters) (e : FilterEvent) (out : Out) → Fits t v → AreWritten key v.streams → ArePaired t.pended m → opens_after v.opens e ≡ v.opens → Comes (IsAwaited m) 2 v e → Reacts out t' v' (filter_step t v e)
    → m' ≡ left_by m out.answers.items → ArePaired t'.pended m'
paired_after key t t' v v' m m' e out fits all p none comes reacts left =
    subst (λ (u : Table). ArePaired u.pended m') (sym reacts.table) (subst (ArePaired (filter_step t v e).table.pended) (sym (left ∙ ap (left_by m) reacts.answers))
    (paired key t v m e fits all (λ n. omega (arith, p.each n, ap (λ k. once_up_to k n) none)) (λ n. omega (arith, p.each n, p.once n)) p.streams comes))

-- nobody waits for the next open yet
pub number_free : (t : Table) (v : Store) (m : Waiters) → Fits t v → ArePaired t.pended m → at m (v.opens + 1) ≡ None
number_free t v m fits p = at_none m (v.opens + 1) (p.each (v.opens + 1) ∙ times_above t.pended v.opens fits.taken)

pub free_at : (t : Table) (v : Store) (m : Waiters) (n : ℕ) → Fits t v → ArePaired t.pended m → n ≡ v.opens + 1 → at m n ≡ None
free_at t v m n fits p is = subst (λ k. at m k ≡ None) (sym is) (number_free t v m fits p)

pub one_more : (k n : ℕ) → once_up_to (k + 1) n ≡ once_up_to k n + (if k + 1 == n then 1 else 0)
one_more k n = grind (arith, nat_tests)

at_most_one : (k n a : ℕ) → a ≤ 1 → (k ≡ n → a ≡ 0) → (if k == n then 1 else 0) + a ≤ 1
at_most_one k n a few none = grind (arith, nat_tests)

-- each number once, where one comes to wait for the next open
pub at_most : (t : Table) (v : Store) (m : Waiters) (w : Waiter) (n : ℕ) → Fits t v → ArePaired t.pended m → times n (keys (with m (v.opens + 1) w)) ≤ 1
at_most t v m w n fits p =
    let k = v.opens + 1 in
    let none : times k (ids t.pended) ≡ 0 = times_above t.pended v.opens fits.taken in
    subst (λ a. a ≤ 1) (sym (key_more m k w n (number_free t v m fits p))) (at_most_one k n (times n (keys m)) (omega (arith, p.each n, p.once n)) (λ same. p.each n ∙ subst (λ j. times j (ids t.pended) ≡ 0) same none))

pub still_awaited : (t : Table) (v : Store) (m : Waiters) (w : Waiter) → Fits t v → ArePaired t.pended m → (ps : List Pended) → Each (λ p. p.held.open_id ≤ v.opens) ps → Each (λ p. IsAwaited m p.held.open_id p.held.stream) ps
    → Each (λ p. IsAwaited (with m (v.opens + 1) w) p.held.open_id p.held.stream) ps
still_awaited t v m w fits p [] low held = tt
still_awaited t v m w fits p (q ∷ qs) low held =
    ((held.0.0, at_other m (v.opens + 1) q.held.open_id w (number_free t v m fits p) (λ is. omega (arith, is, low.0)) ∙ held.0.1, held.0.2), still_awaited t v m w fits p qs low.1 held.1)

-- who waits after an open, for which one came to wait
pub paired_opened : (key : RandomState) (t t' : Table) (v v' : Store) (m m' : Waiters) (w : Waiter) (n least : ℕ) (out : Out) → n ≡ v.opens + 1 → Fits t v → AreWritten key v.streams → ArePaired t.pended m → Reacts out t' v' (filter_step t v (Opens w.stream least))
    → m' ≡ left_by (with m n w) out.answers.items → ArePaired t'.pended m'
paired_opened key t t' v v' m m' w n least out is fits all p reacts left =
    let e = Opens w.stream least in
    let k = v.opens + 1 in
    let more = with m k w in
    let away : at m k ≡ None = number_free t v m fits p in
    subst (λ (u : Table). ArePaired u.pended m') (sym reacts.table) (subst (ArePaired (filter_step t v e).table.pended) (sym (left ∙ ap (λ u. left_by (with m u w) out.answers.items) is ∙ ap (left_by more) reacts.answers))
    (paired key t v more e fits all (λ u. omega (arith, key_more m k w u away, p.each u, one_more v.opens u)) (λ u. at_most t v m w u fits p) (still_awaited t v m w fits p t.pended fits.taken p.streams) (w, at_new m k w away, refl)))

-- nothing has changed
pub paired_back : (t t' : Table) (m m' : Waiters) → t' ≡ t → m' ≡ m → ArePaired t.pended m → ArePaired t'.pended m'
paired_back t t' m m' table waiting p = subst (λ (u : Table). ArePaired u.pended m') (sym table) (subst (ArePaired t.pended) (sym waiting) p)
