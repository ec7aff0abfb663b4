-- Each change of a volume keeps its streams in their ranges, and what some files say.
use Rattle.std.proofs.Common.{◌≡◌, ℕ, ◌+◌, ◌<◌, ◌≤◌, true, false, cond, not, ◌||◌, nat_le, nat_lt, List, [], ◌∷◌, ◌++◌, length, take, drop, Some, None, Result, Ok, Err, refl, sym, ap, ◌∙◌, subst, arith, length-append}
use Rattle.std.proofs.lemmas.Bool.{cond_both, leb-false, ltb-false}
use Rattle.std.proofs.lemmas.List.{length-take, length-drop}
use Rattle.std.specs.List.{AllByRecursion as Each}
use Rattle.std.specs.Map.{remove_entry, set_value}
use Rattle.std.specs.Prelude.{is_some}
use Rattle.av_base.proofs.LimitLemmas.{generation_in}
use Rattle.av_base.specs.Answers.{Steps, StepsAtOnce}
use Rattle.av_base.specs.Limits.{AreInRange}
use Rattle.av_base.specs.Overwrite.{overwritten}
use Rattle.av_base.specs.Refused.{unless}
use Rattle.av_base.specs.declared.limits.LimitValues.{LimitValues}
use Rattle.av_base.specs.declared.refusal.Refusal.{Refusal}
use Rattle.av_base.specs.declared.refusal.Refusal.TheVariants.{Fault, NoMemory}
use Rattle.av_store.proofs.SeenLemmas.{changes, made}
use Rattle.av_store.specs.Bounds.{AreInBounds, IsInBounds}
use Rattle.av_store.specs.Content.{cut_to, new_stream, written}
use Rattle.av_store.specs.Files.{Change, File, Create, Write, Cut, Remove, change_refusal, files_after}
use Rattle.av_store.specs.Rows.{Streams, is_number, number_named, replaced, stream_at, without}
use Rattle.av_store.specs.Seen.{Keeps, change_of, seen, seen_from, volume_of}
use Rattle.av_store.specs.Sound.{IsSound}
use Rattle.av_store.specs.Store.{Store, create_of, greatest, is_name, on_stream, put_stream, remove_of, removed, stepped, with_streams}
use Rattle.av_store.specs.declared.fault.StoreFault.{StoreFault}
use Rattle.av_store.specs.declared.fault.StoreFault.TheVariants.{NoStream}
use Rattle.av_store.specs.declared.stream.Stream.{Stream}

-- ---- lists of streams

-- what holds of each row holds of the one that is found
found_in : (P : ℕ → Stream → Type 0) (ss : Streams) (s : ℕ) (x : Stream) → Each (λ (r : ℕ × Stream). P r.0 r.1) ss → stream_at s ss ≡ Some x → (n : ℕ) × P n x
found_in P [] s x all h = absurd (cc (h))
found_in P (r ∷ ss) s x all h =
    (elim (is_number s r.0) as (λ b. cond b (Some r.1) (stream_at s ss) ≡ Some x → (n : ℕ) × P n x) [
      | true ↦ λ g. let same : r.1 ≡ x = cc (g) in (r.0, subst (P r.0) same all.0)
      | false ↦ λ g. found_in P ss s x all.1 g
    ]) h

replaced_in : (limits : LimitValues) (ss : Streams) (s : ℕ) (y : Stream) → ((n : ℕ) → 1 ≤ n → IsInBounds limits (n, y)) → Each (IsInBounds limits) ss → Each (IsInBounds limits) (replaced s y ss)
replaced_in limits [] s y h all = tt
replaced_in limits (r ∷ ss) s y h all =
    elim (is_number s r.0) as (λ b. Each (IsInBounds limits) (cond b ((r.0, y) ∷ ss) (r ∷ set_value (is_number s) ss y))) [
      | true ↦ (h r.0 all.0.number, all.1)
      | false ↦ (all.0, replaced_in limits ss s y h all.1)
    ]

without_in : (limits : LimitValues) (ss : Streams) (s : ℕ) → Each (IsInBounds limits) ss → Each (IsInBounds limits) (without s ss)
without_in limits [] s all = tt
without_in limits (r ∷ ss) s all =
    elim (is_number s r.0) as (λ b. Each (IsInBounds limits) (cond b ss (r ∷ remove_entry (is_number s) ss))) [
      | true ↦ all.1
      | false ↦ (all.0, without_in limits ss s all.1)
    ]

-- ---- steps on one stream

-- a stream by itself
record Bounded (limits : LimitValues) (x : Stream) : Type 0 where
  low : 1 ≤ x.generation
  high : x.generation ≤ limits.generation
  size : length x.bytes ≤ limits.length

written_in : (limits : LimitValues) (o : ℕ) (b : List ℕ) (x y : Stream) → Bounded limits x → written limits o b x ≡ Ok y → Bounded limits y
written_in limits o b x y h is =
    cond_both (nat_lt (length x.bytes) o) _ _ (λ r. r ≡ Ok y → Bounded limits y) (λ e g. absurd (cc (g)))
    (λ e. cond_both (nat_lt limits.length (o + length b)) _ _ (λ r. r ≡ Ok y → Bounded limits y) (λ w g. absurd (cc (g)))
    (λ w. cond_both (nat_le limits.generation x.generation) _ _ (λ r. r ≡ Ok y → Bounded limits y) (λ k g. absurd (cc (g)))
    (λ k g.
    let next : Stream = record x { generation = x.generation + 1; bytes = overwritten x.bytes o b } in
    let same : next ≡ y = cc (g) in
    let hole : o ≤ length x.bytes = ltb-false (length x.bytes) o e in
    let fits : o + length b ≤ limits.length = ltb-false limits.length (o + length b) w in
    let more : x.generation < limits.generation = leb-false limits.generation x.generation k in
    let tail : List ℕ = drop (o + length b) x.bytes in
    let total : length (overwritten x.bytes o b) ≡ length (take o x.bytes) + length b + length tail = length-append (take o x.bytes ++ b) tail ∙ ap (λ n. n + length tail) (length-append (take o x.bytes) b) in
    let front = length-take o x.bytes in
    let rest = length-drop (o + length b) x.bytes in
    subst (Bounded limits) same (record { low = omega arith; high = omega (arith, more); size = omega (arith, total, front, rest, hole, fits, h.size) })))) is

cut_in : (limits : LimitValues) (n : ℕ) (x y : Stream) → Bounded limits x → cut_to limits n x ≡ Ok y → Bounded limits y
cut_in limits n x y h is =
    cond_both (nat_lt (length x.bytes) n) _ _ (λ r. r ≡ Ok y → Bounded limits y) (λ e g. absurd (cc (g)))
    (λ e. cond_both (nat_le limits.generation x.generation) _ _ (λ r. r ≡ Ok y → Bounded limits y) (λ k g. absurd (cc (g)))
    (λ k g.
    let next : Stream = record x { generation = x.generation + 1; bytes = take n x.bytes } in
    let same : next ≡ y = cc (g) in
    let more : x.generation < limits.generation = leb-false limits.generation x.generation k in
    let front = length-take n x.bytes in
    subst (Bounded limits) same (record { low = omega arith; high = omega (arith, more); size = omega (arith, front, h.size) }))) is

stepped_in : (v w : Store) (s : ℕ) (step : Stream → Result Stream StoreFault) → ((x y : Stream) → Bounded v.limits x → step x ≡ Ok y → Bounded v.limits y) → AreInBounds v → with_streams v (stepped v.streams s step) ≡ Ok w → AreInBounds w
stepped_in v w s step keep a h =
    (elim (stream_at s v.streams) as (λ o. stream_at s v.streams ≡ o → with_streams v (put_stream v.streams s (on_stream o step)) ≡ Ok w → AreInBounds w) [
      | None ↦ λ at g. absurd (cc (g))
      | Some x ↦ λ at g.
          let here = found_in (λ n y. IsInBounds v.limits (n, y)) v.streams s x (each_pair v.limits v.streams a.streams) at in
          let bounded : Bounded v.limits x = record { low = here.1.low; high = here.1.high; size = here.1.size } in
          (elim (step x) as (λ r. step x ≡ r → with_streams v (put_stream v.streams s r) ≡ Ok w → AreInBounds w) [
            | Ok y ↦ λ is k.
                let same : record v { streams = replaced s y v.streams } ≡ w = cc (k) in
                let b : Bounded v.limits y = keep x y bounded is in
                subst AreInBounds same (record { limits = a.limits; streams = replaced_in v.limits v.streams s y (λ n low. record { number = low; low = b.low; high = b.high; size = b.size }) a.streams })
            | Err f ↦ λ is k. absurd (cc (k))
          ]) refl g
    ]) refl h
  where
    each_pair : (limits : LimitValues) (ss : Streams) → Each (IsInBounds limits) ss → Each (λ (r : ℕ × Stream). IsInBounds limits (r.0, r.1)) ss
    each_pair limits [] all = tt
    each_pair limits (r ∷ ss) all = (all.0, each_pair limits ss all.1)

-- the row of a new stream
created_row : (limits : LimitValues) (last : ℕ) (ss : Streams) (name : List ℕ) → AreInRange limits → Each (IsInBounds limits) ss → Each (IsInBounds limits) (ss ++ (last + 1, new_stream name) ∷ [])
created_row limits last [] name range all = (record { number = omega arith; low = omega arith; high = (generation_in limits range).0; size = omega arith }, tt)
created_row limits last (r ∷ ss) name range all = (all.0, created_row limits last ss name range all.1)

created_in : (v w : Store) (name : List ℕ) → AreInBounds v → volume_of (create_of v name) ≡ Ok w → AreInBounds w
created_in v w name a h =
    cond_both (not (is_name name)) _ _ (λ (r : Result (ℕ × Store) StoreFault). volume_of r ≡ Ok w → AreInBounds w) (λ e g. absurd (cc (g)))
    (λ e. cond_both (is_some (number_named name v.streams)) _ _ (λ (r : Result (ℕ × Store) StoreFault). volume_of r ≡ Ok w → AreInBounds w) (λ e g. absurd (cc (g)))
    (λ e. cond_both (nat_le v.limits.streams (length v.streams) || nat_le greatest v.last) _ _ (λ (r : Result (ℕ × Store) StoreFault). volume_of r ≡ Ok w → AreInBounds w) (λ e g. absurd (cc (g)))
    (λ e g.
    let next : Store = record v { streams = v.streams ++ (v.last + 1, new_stream name) ∷ []; last = v.last + 1 } in
    let same : next ≡ w = cc (g) in
    subst AreInBounds same
    (record { limits = a.limits; streams = created_row v.limits v.last v.streams name a.limits a.streams })))) h

removed_in : (v w : Store) (s : ℕ) → AreInBounds v → remove_of v s ≡ Ok w → AreInBounds w
removed_in v w s a h =
    (elim (is_some (stream_at s v.streams)) as (λ b. with_streams v (cond b (Ok (without s v.streams)) (Err NoStream)) ≡ Ok w → AreInBounds w) [
      | true ↦ λ g. let same : record v { streams = without s v.streams } ≡ w = cc (g) in subst AreInBounds same (record { limits = a.limits; streams = without_in v.limits v.streams s a.streams })
      | false ↦ λ g. absurd (cc (g))
    ]) h

pub change_in : (v w : Store) (c : Change) → AreInBounds v → change_of v c ≡ Ok w → AreInBounds w
unfolding change_of
change_in v w (Create name) a h = created_in v w name a h
change_in v w (Write s o b) a h = stepped_in v w s (written v.limits o b) (λ x y bounded is. written_in v.limits o b x y bounded is) a h
change_in v w (Cut s n) a h = stepped_in v w s (cut_to v.limits n) (λ x y bounded is. cut_in v.limits n x y bounded is) a h
change_in v w (Remove s) a h = removed_in v w s a h

-- ---- what holds of every volume

in_bounds : (v : Store) → IsSound v.limits v.last v.streams → AreInBounds v
in_bounds v sound = record { limits = sound.range; streams = sound.bounds }

kept_files : (v : Store) (sound : IsSound v.limits v.last v.streams) → Keeps v sound.files
kept_files v sound = record { streams = sound.streams; last = sound.count }

sound_of : (v : Store) (fs : List File) → AreInBounds v → Keeps v fs → IsSound v.limits v.last v.streams
sound_of v fs a k = record { range = a.limits; bounds = a.streams; files = fs; streams = k.streams; count = k.last }

kept_change : (v w : Store) (fs : List File) (c : Change) → Keeps v fs → change_of v c ≡ Ok w → Keeps w (files_after fs c)
kept_change v w fs c k h =
    let next : Store = record v { streams = seen (files_after fs c); last = length (files_after fs c) } in
    (elim (change_refusal v.limits fs c) as (λ o. unless o next ≡ Ok w → Keeps w (files_after fs c)) [
      | None ↦ λ g. let same : next ≡ w = cc (g) in subst (λ x. Keeps x (files_after fs c)) same (record { streams = refl; last = refl })
      | Some f ↦ λ g. absurd (cc (g))
    ]) (sym (changes v fs c k) ∙ h)

-- a volume of these, of which nothing else counts
abbrev store_of : LimitValues → ℕ → Streams → Store
store_of limits last ss = record { number = 0; boot = 0; opens = 0; last = last; limits = limits; streams = ss }

by_change : (limits : LimitValues) (last : ℕ) (ss ts : Streams) (wanted : Result Streams StoreFault) (c : Change)
    → change_of (store_of limits last ss) c ≡ with_streams (store_of limits last ss) wanted → IsSound limits last ss → wanted ≡ Ok ts → IsSound limits last ts
by_change limits last ss ts wanted c is sound h =
    let v = store_of limits last ss in
    let w = store_of limits last ts in
    let done : change_of v c ≡ Ok w = is ∙ ap (with_streams v) h in
    sound_of w (files_after sound.files c) (change_in v w c (in_bounds v sound) done) (kept_change v w sound.files c (kept_files v sound) done)

by_steps : (limits : LimitValues) (last : ℕ) (ss ts : Streams) (wanted : Result Streams StoreFault) (c : Change) (r : Result (Unit {0}) (Refusal StoreFault))
    → change_of (store_of limits last ss) c ≡ with_streams (store_of limits last ss) wanted → IsSound limits last ss → Steps ss ts r wanted → IsSound limits last ts
by_steps limits last ss ts wanted c (Ok done) is sound h = by_change limits last ss ts wanted c is sound h
by_steps limits last ss ts wanted c (Err (Fault f)) is sound h = subst (IsSound limits last) (sym (h.1)) sound
by_steps limits last ss ts wanted c (Err NoMemory) is sound h = subst (IsSound limits last) (sym (h.1)) sound

at_once : (limits : LimitValues) (last : ℕ) (ss ts : Streams) (wanted : Result Streams StoreFault) (c : Change) (r : Result (Unit {0}) StoreFault)
    → change_of (store_of limits last ss) c ≡ with_streams (store_of limits last ss) wanted → IsSound limits last ss → StepsAtOnce ss ts r wanted → IsSound limits last ts
at_once limits last ss ts wanted c (Ok done) is sound h = by_change limits last ss ts wanted c is sound h
at_once limits last ss ts wanted c (Err f) is sound h = subst (IsSound limits last) (sym (h.1)) sound

pub sound_empty : (limits : LimitValues) → AreInRange limits → IsSound limits 0 []
unfolding seen_from
sound_empty limits range = record { range = range; bounds = tt; files = []; streams = refl; count = refl }

pub sound_created : (limits : LimitValues) (last : ℕ) (ss : Streams) (name : List ℕ) → IsSound limits last ss → IsSound limits (last + 1) (ss ++ (last + 1, new_stream name) ∷ [])
sound_created limits last ss name sound =
    let v = store_of limits last ss in
    let grown = made v sound.files name (kept_files v sound) in
    record {
      range = sound.range;
      bounds = created_row limits last ss name sound.range sound.bounds;
      files = files_after sound.files (Create name);
      streams = ap (λ (w : Store). w.streams) grown;
      count = ap (λ (w : Store). w.last) grown;
    }

pub sound_written : (limits : LimitValues) (last : ℕ) (ss ts : Streams) (s o : ℕ) (b : List ℕ) (r : Result (Unit {0}) (Refusal StoreFault))
    → IsSound limits last ss → Steps ss ts r (stepped ss s (written limits o b)) → IsSound limits last ts
unfolding change_of
sound_written limits last ss ts s o b r sound h = by_steps limits last ss ts (stepped ss s (written limits o b)) (Write s o b) r refl sound h

pub sound_cut : (limits : LimitValues) (last : ℕ) (ss ts : Streams) (s n : ℕ) (r : Result (Unit {0}) StoreFault)
    → IsSound limits last ss → StepsAtOnce ss ts r (stepped ss s (cut_to limits n)) → IsSound limits last ts
unfolding change_of
sound_cut limits last ss ts s n r sound h = at_once limits last ss ts (stepped ss s (cut_to limits n)) (Cut s n) r refl sound h

pub sound_removed : (limits : LimitValues) (last : ℕ) (ss ts : Streams) (s : ℕ) (r : Result (Unit {0}) StoreFault)
    → IsSound limits last ss → StepsAtOnce ss ts r (removed ss s) → IsSound limits last ts
unfolding change_of
sound_removed limits last ss ts s r sound h = at_once limits last ss ts (removed ss s) (Remove s) r refl sound h
