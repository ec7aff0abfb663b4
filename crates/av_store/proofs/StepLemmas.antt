use Rattle.std.proofs.Common.{ℕ, ◌≡◌, List, ◌+◌, Bool, true, false, cond, length, take, nat_lt, nat_le, subst, Some, None, Result, Ok, Err, refl, sym, ◌∙◌, ap}
use Rattle.std.specs.Prelude.{IsOk}
use Rattle.std.specs.Map.{set_value}
use Rattle.std.specs.Global.{Vec}
use Rattle.std.proofs.lemmas.Map.Steps.{set_value_same}
use Rattle.av_base.specs.declared.limits.LimitValues.{LimitValues}
use Rattle.av_base.specs.declared.refusal.Refusal.{Refusal}
use Rattle.av_base.specs.declared.refusal.Refusal.TheVariants.{Fault, NoMemory}
use Rattle.av_base.specs.Answers.{Steps, StepsAtOnce}
use Rattle.av_base.specs.Overwrite.{overwritten}
use Rattle.av_store.specs.declared.stream.Stream.{Stream}
use Rattle.av_store.specs.declared.fault.StoreFault.{StoreFault}
use Rattle.av_store.specs.declared.fault.StoreFault.TheVariants.{Hole, TooLarge, GenerationSpent}
use Rattle.av_store.specs.Content.{written, cut_to}
use Rattle.std.specs.Result.{result_err}
use Rattle.av_store.specs.Index.{IsIndexed}
use Rattle.av_store.specs.Rows.{Streams, is_number, stream_at, replaced}
use Rattle.av_store.specs.Store.{Store, on_stream, put_stream, stepped, with_streams}
use Rattle.av_store.proofs.IndexLemmas.{named_replaced, apart_replaced, below_replaced}

ok_put : (ss : Streams) (id : ℕ) (r : Result Stream StoreFault) → IsOk r → IsOk (put_stream ss id r)
ok_put ss id (Ok s) h = h
ok_put ss id (Err e) h = h

-- a step of the stream that is found is a step of the streams
pub steps_at : (ss tt : Streams) (id : ℕ) (s t : Stream) (step : Stream → Result Stream StoreFault) (r : Result (Unit {0}) (Refusal StoreFault))
    → stream_at id ss ≡ Some s → tt ≡ replaced id t ss → Steps s t r (step s) → Steps ss tt r (stepped ss id step)
steps_at ss tt id s t step (Ok done) found is h = ap (λ o. put_stream ss id (on_stream o step)) found ∙ ap (put_stream ss id) h ∙ ap Ok (sym is)
steps_at ss tt id s t step (Err (Fault f)) found is h =
    (ap (λ o. put_stream ss id (on_stream o step)) found ∙ ap (put_stream ss id) (h.0), is ∙ ap (set_value (is_number id) ss) (h.1) ∙ set_value_same (is_number id) ss s found)
steps_at ss tt id s t step (Err NoMemory) found is h =
    (rw found (ok_put ss id (step s) h.0), is ∙ ap (set_value (is_number id) ss) (h.1) ∙ set_value_same (is_number id) ss s found)

pub steps_at_once : (ss tt : Streams) (id : ℕ) (s t : Stream) (step : Stream → Result Stream StoreFault) (r : Result (Unit {0}) StoreFault)
    → stream_at id ss ≡ Some s → tt ≡ replaced id t ss → StepsAtOnce s t r (step s) → StepsAtOnce ss tt r (stepped ss id step)
steps_at_once ss tt id s t step (Ok done) found is h = ap (λ o. put_stream ss id (on_stream o step)) found ∙ ap (put_stream ss id) h ∙ ap Ok (sym is)
steps_at_once ss tt id s t step (Err f) found is h =
    (ap (λ o. put_stream ss id (on_stream o step)) found ∙ ap (put_stream ss id) (h.0), is ∙ ap (set_value (is_number id) ss) (h.1) ∙ set_value_same (is_number id) ss s found)

fault_put : (v : Store) (id : ℕ) (r : Result Stream StoreFault) → result_err (with_streams v (put_stream v.streams id r)) ≡ result_err r
fault_put v id (Ok s) = refl
fault_put v id (Err f) = refl

-- a step of the streams is refused as that of the stream that is found
pub fault_at : (v : Store) (id : ℕ) (s : Stream) (step : Stream → Result Stream StoreFault) → stream_at id v.streams ≡ Some s
    → result_err (with_streams v (stepped v.streams id step)) ≡ result_err (step s)
fault_at v id s step found = ap (λ o. result_err (with_streams v (put_stream v.streams id (on_stream o step)))) found ∙ fault_put v id (step s)

-- a step that keeps names
abbrev pub KeepsName : (Stream → Result Stream StoreFault) → Type 0
KeepsName step = (s t : Stream) → step s ≡ Ok t → t.name ≡ s.name

-- a test that did not fail
guard_ok : (b : Bool) (f : StoreFault) (r : Result Stream StoreFault) (t : Stream) → cond b (Err f) r ≡ Ok t → r ≡ Ok t
guard_ok true f r t e = absurd cc
guard_ok false f r t e = e

ok_is : (s t : Stream) → (let r : Result Stream StoreFault = Ok s in r) ≡ Ok t → s ≡ t
ok_is s t e = cc

pub written_keeps : (limits : LimitValues) (offset : ℕ) (bytes : List ℕ) → KeepsName (written limits offset bytes)
written_keeps limits offset bytes s t e =
    let first = nat_lt (length s.bytes) offset in
    let second = nat_lt limits.length (offset + length bytes) in
    let third = nat_le limits.generation s.generation in
    let after : Stream = record s { generation = s.generation + 1; bytes = overwritten s.bytes offset bytes } in
    let inner = cond third (Err GenerationSpent) (Ok after) in
    ap (λ (x : Stream). x.name) (sym (ok_is after t (guard_ok third GenerationSpent (Ok after) t (guard_ok second TooLarge inner t (guard_ok first Hole (cond second (Err TooLarge) inner) t e)))))

pub cut_keeps : (limits : LimitValues) (n : ℕ) → KeepsName (cut_to limits n)
cut_keeps limits n s t e =
    let first = nat_lt (length s.bytes) n in
    let third = nat_le limits.generation s.generation in
    let after : Stream = record s { generation = s.generation + 1; bytes = take n s.bytes } in
    ap (λ (x : Stream). x.name) (sym (ok_is after t (guard_ok third GenerationSpent (Ok after) t (guard_ok first Hole (cond third (Err GenerationSpent) (Ok after)) t e))))

-- the names still lead to the streams after such a step
kept : (names : List (Vec ℕ × ℕ)) (ss tt : Streams) (last id : ℕ) (step : Stream → Result Stream StoreFault) → KeepsName step
    → IsIndexed names ss last → stepped ss id step ≡ Ok tt → IsIndexed names tt last
kept names ss tt last id step keeps indexed h =
    (elim (stream_at id ss) as (λ o. stream_at id ss ≡ o → put_stream ss id (on_stream o step) ≡ Ok tt → IsIndexed names tt last) [
      | None ↦ λ is g. absurd cc
      | Some s ↦ λ is g.
          (elim (step s) as (λ r. step s ≡ r → put_stream ss id r ≡ Ok tt → IsIndexed names tt last) [
            | Err f ↦ λ was e. absurd cc
            | Ok t ↦ λ was e.
                let same : replaced id t ss ≡ tt = cc in
                let name = keeps s t was in
                subst (λ x. IsIndexed names x last) same (record {
                  found = λ q. indexed.found q ∙ sym (named_replaced ss id s t q is name);
                  apart = apart_replaced ss id s t is name indexed.apart;
                  below = below_replaced ss id last t indexed.below;
                })
          ]) refl g
    ]) refl h

pub kept_by_steps : (names : List (Vec ℕ × ℕ)) (ss tt : Streams) (last id : ℕ) (step : Stream → Result Stream StoreFault) (r : Result (Unit {0}) (Refusal StoreFault)) → KeepsName step
    → IsIndexed names ss last → Steps ss tt r (stepped ss id step) → IsIndexed names tt last
kept_by_steps names ss tt last id step (Ok done) keeps indexed h = kept names ss tt last id step keeps indexed h
kept_by_steps names ss tt last id step (Err (Fault f)) keeps indexed h = subst (λ x. IsIndexed names x last) (sym (h.1)) indexed
kept_by_steps names ss tt last id step (Err NoMemory) keeps indexed h = subst (λ x. IsIndexed names x last) (sym (h.1)) indexed

pub kept_at_once : (names : List (Vec ℕ × ℕ)) (ss tt : Streams) (last id : ℕ) (step : Stream → Result Stream StoreFault) (r : Result (Unit {0}) StoreFault) → KeepsName step
    → IsIndexed names ss last → StepsAtOnce ss tt r (stepped ss id step) → IsIndexed names tt last
kept_at_once names ss tt last id step (Ok done) keeps indexed h = kept names ss tt last id step keeps indexed h
kept_at_once names ss tt last id step (Err f) keeps indexed h = subst (λ x. IsIndexed names x last) (sym (h.1)) indexed
