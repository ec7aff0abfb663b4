-- The next event of a side is taken.
use Rattle.std.proofs.Common.{◌≡◌, ℕ, ◌+◌, List, [], ◌∷◌, Some, zero, suc, take, drop, slice_get, refl, sym, subst}
use Rattle.av_base.specs.declared.port.Port.TheVariants.{One, Two}
use Rattle.av_filter.specs.Audit.{FilterEntry}
use Rattle.av_frame.specs.Message.{Letter}
use Rattle.av_service.specs.Audit.{ServiceEntry}
use Rattle.av_shared.proofs.AmongLemmas.{take_got}
use Rattle.av_shared.proofs.MergeLemmas.{more_of_filter, more_of_service}
use Rattle.av_shared.specs.Merged.{AreMerged, AreTaken, Brings, FilterGoesOn, ServiceGoesOn, Takes, WasSentDown, WasSentUp}
use Rattle.av_shared.specs.declared.merge.Taken.{Taken}

next_of_filter : (P : Letter → Type 0) (xs : List FilterEntry) (i : ℕ) → FilterGoesOn P (drop i xs) → (x : FilterEntry) × (slice_get xs i ≡ Some x) × Brings P x.event
next_of_filter P [] zero h = absurd h
next_of_filter P [] (suc i) h = absurd h
next_of_filter P (x ∷ xs) zero h = (x, refl, h)
next_of_filter P (x ∷ xs) (suc i) h = next_of_filter P xs i h

next_of_service : (P : Letter → Type 0) (xs : List ServiceEntry) (i : ℕ) → ServiceGoesOn P (drop i xs) → (x : ServiceEntry) × (slice_get xs i ≡ Some x) × Takes P x.call
next_of_service P [] zero h = absurd h
next_of_service P [] (suc i) h = absurd h
next_of_service P (x ∷ xs) zero h = (x, refl, h)
next_of_service P (x ∷ xs) (suc i) h = next_of_service P xs i h

module _ (xs : List FilterEntry) (ones twos : List ServiceEntry) (n : Taken) (all : AreTaken xs ones twos n) where
  pub filter_taken : FilterGoesOn (WasSentUp ones twos n) (drop n.gate xs) → AreTaken xs ones twos (record n { gate = n.gate + 1 })
  filter_taken h =
      let next = next_of_filter (WasSentUp ones twos n) xs n.gate h in
      subst (λ ys. AreMerged ys (take n.one ones) (take n.two twos)) (sym (take_got xs n.gate next.0 next.1))
      (more_of_filter (take n.gate xs) (take n.one ones) (take n.two twos) next.0 all next.2)

  pub one_taken : ServiceGoesOn (WasSentDown xs n.gate) (drop n.one ones) → AreTaken xs ones twos (record n { one = n.one + 1 })
  one_taken h =
      let next = next_of_service (WasSentDown xs n.gate) ones n.one h in
      subst (λ ys. AreMerged (take n.gate xs) ys (take n.two twos)) (sym (take_got ones n.one next.0 next.1))
      (more_of_service (take n.gate xs) (take n.one ones) (take n.two twos) One next.0 all next.2)

  pub two_taken : ServiceGoesOn (WasSentDown xs n.gate) (drop n.two twos) → AreTaken xs ones twos (record n { two = n.two + 1 })
  two_taken h =
      let next = next_of_service (WasSentDown xs n.gate) twos n.two h in
      subst (λ ys. AreMerged (take n.gate xs) (take n.one ones) ys) (sym (take_got twos n.two next.0 next.1))
      (more_of_service (take n.gate xs) (take n.one ones) (take n.two twos) Two next.0 all next.2)
