-- The stream of a content that is kept has its bytes.
use Rattle.std.proofs.Common.{◌≡◌, ℕ, zero, suc, ◌+◌, Bool, true, false, List, Option, Some, None, refl, ap, subst}
use Rattle.std.proofs.lemmas.Slice.Eq.{bytes_eq-Decides}
use Rattle.std.specs.Option.{option_map}
use Rattle.std.specs.Prelude.{if◌then◌else◌}
use Rattle.std.specs.declared.random_state.RandomState.{RandomState}
use Rattle.av_guard.specs.Laws.{OpensItsBytes}
use Rattle.av_guard.specs.Naming.{name_of}
use Rattle.av_guard.specs.Place.{Held, Spot, bytes_are, has_bytes, place_from, spot_at}
use Rattle.av_store.specs.Rows.{number_named, stream_at}
use Rattle.av_store.specs.Store.{Store}
use Rattle.av_store.specs.declared.stream.Stream.{Stream}

spot_has : (v : Store) (c name : List ℕ) (later : Spot) (s : ℕ) → (later ≡ Held s → has_bytes v s c ≡ true) → (o : Option ℕ) → spot_at v c name later o ≡ Held s → has_bytes v s c ≡ true
spot_has v c name later s rest None bad = absurd cc
spot_has v c name later s rest (Some t) is = go (has_bytes v t c) refl is
  where
    go : (b : Bool) → has_bytes v t c ≡ b → (if b then Held t else later) ≡ Held s → has_bytes v s c ≡ true
    go true e held = let same : ◌≡◌ {A = ℕ} t s = cc in subst (λ n. has_bytes v n c ≡ true) same e
    go false e held = rest held

place_has : (k n : ℕ) (key : RandomState) (v : Store) (c : List ℕ) (s : ℕ) → place_from k n key v c ≡ Held s → has_bytes v s c ≡ true
unfolding place_from
place_has zero n key v c s bad = absurd cc
place_has (suc k) n key v c s is = spot_has v c (name_of key c n) (place_from k (n + 1) key v c) s (place_has k (n + 1) key v c s) (number_named (name_of key c n) v.streams) is

bytes_there : (c : List ℕ) (o : Option Stream) → bytes_are c o ≡ true → option_map (λ (x : Stream). x.bytes) o ≡ Some c
bytes_there c None bad = absurd cc
bytes_there c (Some x) same = ap (λ b. Some b) ((bytes_eq-Decides x.bytes c).0 same)

pub opens_its_bytes : OpensItsBytes
opens_its_bytes g c s is = bytes_there c (stream_at s g.volume.streams) (place_has 16 0 g.key g.volume c s is)
