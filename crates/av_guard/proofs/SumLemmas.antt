-- The counts of a volume's streams and of their bytes, as one comes and one goes.
use Rattle.std.proofs.Common.{◌≡◌, ℕ, ◌+◌, true, false, cond, [], ◌∷◌, ◌++◌, length, Some, arith, ap}
use Rattle.av_guard.specs.Asking.{bytes_in}
use Rattle.av_store.specs.Rows.{Streams, is_number, stream_at, without}
use Rattle.av_store.specs.declared.stream.Stream.{Stream}

abbrev pub size : ℕ × Stream → ℕ
size s = length s.1.bytes

pub sum_more : (ss : Streams) (e : ℕ × Stream) → bytes_in (ss ++ e ∷ []) ≡ bytes_in ss + size e
sum_more [] e = omega arith
sum_more (s ∷ ss) e = omega (arith, sum_more ss e)

pub count_more : (ss : Streams) (e : ℕ × Stream) → length (ss ++ e ∷ []) ≡ length ss + 1
count_more [] e = omega arith
count_more (s ∷ ss) e = omega (arith, count_more ss e)

pub sum_less : (ss : Streams) (id : ℕ) (x : Stream) → stream_at id ss ≡ Some x → bytes_in ss ≡ bytes_in (without id ss) + length x.bytes
sum_less [] id x h = absurd cc
sum_less (s ∷ ss) id x h =
    (elim (is_number id s.0) as (λ b. cond b (Some s.1) (stream_at id ss) ≡ Some x → length s.1.bytes + bytes_in ss ≡ bytes_in (cond b ss (s ∷ without id ss)) + length x.bytes) [
      | true ↦ λ here. let same : s.1 ≡ x = cc in omega (arith, ap (λ (y : Stream). length y.bytes) same)
      | false ↦ λ rest. omega (arith, sum_less ss id x rest)
    ]) h

pub count_less : (ss : Streams) (id : ℕ) (x : Stream) → stream_at id ss ≡ Some x → length ss ≡ length (without id ss) + 1
count_less [] id x h = absurd cc
count_less (s ∷ ss) id x h =
    (elim (is_number id s.0) as (λ b. cond b (Some s.1) (stream_at id ss) ≡ Some x → length (s ∷ ss) ≡ length (cond b ss (s ∷ without id ss)) + 1) [
      | true ↦ λ here. omega arith
      | false ↦ λ rest. omega (arith, count_less ss id x rest)
    ]) h
