-- Each step of a channel keeps the balance.
use Rattle.std.proofs.Common.{◌≡◌, ◌≢◌, ℕ, zero, suc, ◌+◌, ◌-◌, ◌<◌, ◌≤◌, List, [], ◌∷◌, ◌++◌, set, refl, sym, ap, ◌∙◌, subst, ⊎_elim, arith}
use mathlib.Core.Option.{some, some-ne-none, some-injective}
use lib.ListN.{get_elem?}
use Rattle.atomic_table.proofs.Lists.{at_set, at_snoc}
use Rattle.crossbeam_channel.specs.Fifo.{Pushes, Pops, Forks, Merges, Learns}
use Rattle.av_pool.specs.Weights.{weigh}
use Rattle.av_pool.specs.Tally.{tally, IdleIsEmpty, Balanced, Knows}
use Rattle.av_pool.specs.declared.tally.PassTally.{PassTally}
use Rattle.av_pool.proofs.Weighing.{weigh-append, weigh-set, weigh-at, weigh-alone}

module _ {T : Type 0} where
  idle_set : (views : List (PassTally T)) (pass : ℕ) (w : PassTally T) → (w.parts ≡ 0 → (w.put ≡ []) × (w.taken ≡ [])) → IdleIsEmpty views → IdleIsEmpty (set views pass w)
  idle_set views pass w mine all j u at none =
      ⊎_elim (λ (t : (j ≡ pass) × (w ≡ u)). subst (λ (z : PassTally T). (z.put ≡ []) × (z.taken ≡ [])) t.1 (mine (ap (λ (z : PassTally T). z.parts) t.1 ∙ none)))
      (λ (t : (j ≢ pass) × (get_elem? views j ≡ some u)). all j u t.1 none) (at_set views pass j w u at)

  pub begins : Balanced {T = T} [] (tally 1024 [] [] ∷ [])
  begins = (refl, (λ h. refl), idle)
    where
      idle : (pass : ℕ) (v : PassTally T) → get_elem? (tally {T = T} 1024 [] [] ∷ []) pass ≡ some v → v.parts ≡ 0 → (v.put ≡ []) × (v.taken ≡ [])
      idle zero v at none = absurd (let e = ap (λ (z : PassTally T). z.parts) (some-injective _ _ at) in omega (arith, e, none))
      idle (suc pass) v at none = absurd (some-ne-none v (sym at))

  pub pushes : (n pass : ℕ) (v : PassTally T) (x : T) → 0 < v.parts → Pushes Balanced n pass v x (λ w. w ≡ tally v.parts (v.put ++ x ∷ []) v.taken)
  pushes n pass v x part items views room b at =
      let w = tally v.parts (v.put ++ x ∷ []) v.taken in (
        w,
        (
          (let s = weigh-set (λ (u : PassTally T). u.parts) views pass v w at in let p = b.0 in omega arith),
          (λ h.
              let s = weigh-set (λ (u : PassTally T). weigh h u.put) views pass v w at in
              let t = weigh-set (λ (u : PassTally T). weigh h u.taken) views pass v w at in
              let p = b.1 h in
              omega (arith, weigh-append h v.put (x ∷ []), weigh-append h items (x ∷ []))),
          idle_set views pass w (λ none. absurd (omega arith)) b.2,
        ),
        refl,
      )

  pub pops : (pass : ℕ) (v : PassTally T) → 0 < v.parts → Pops Balanced pass v (λ x w. w ≡ tally v.parts v.put (v.taken ++ x ∷ []))
  pops pass v part x items views b at =
      let w = tally v.parts v.put (v.taken ++ x ∷ []) in (
        w,
        (
          (let s = weigh-set (λ (u : PassTally T). u.parts) views pass v w at in let p = b.0 in omega arith),
          (λ h.
              let s = weigh-set (λ (u : PassTally T). weigh h u.put) views pass v w at in
              let t = weigh-set (λ (u : PassTally T). weigh h u.taken) views pass v w at in
              let p = b.1 h in
              omega (arith, weigh-append h v.taken (x ∷ []))),
          idle_set views pass w (λ none. absurd (omega arith)) b.2,
        ),
        refl,
      )

  pub forks : (pass : ℕ) (v : PassTally T) → 1 < v.parts → Forks Balanced pass v (tally (v.parts - 1) v.put v.taken) (tally 1 [] [])
  forks pass v parts items views b at =
      let w = tally (v.parts - 1) v.put v.taken in
      let n = tally {T = T} 1 [] [] in (
        (let s = weigh-set (λ (u : PassTally T). u.parts) views pass v w at in let p = b.0 in omega (arith, weigh-append (λ (u : PassTally T). u.parts) (set views pass w) (n ∷ []))),
        (λ h.
            let s = weigh-set (λ (u : PassTally T). weigh h u.put) views pass v w at in
            let t = weigh-set (λ (u : PassTally T). weigh h u.taken) views pass v w at in
            let p = b.1 h in
            omega (arith, weigh-append (λ (u : PassTally T). weigh h u.put) (set views pass w) (n ∷ []), weigh-append (λ (u : PassTally T). weigh h u.taken) (set views pass w) (n ∷ []))),
        (λ j u there none.
            ⊎_elim (λ was. idle_set views pass w (λ no. absurd (omega arith)) b.2 j u was none)
            (λ (same : n ≡ u). absurd (let e = ap (λ (z : PassTally T). z.parts) same in omega (arith, e, none))) (at_snoc (set views pass w) n u j there)),
      )

  pub merges : (pass : ℕ) (v : PassTally T) (other : ℕ) (u : PassTally T) → 0 < v.parts → Merges Balanced pass v other u (tally (v.parts + u.parts) (v.put ++ u.put) (v.taken ++ u.taken)) (tally 0 [] [])
  merges pass v other u part items views b at apart there =
      let w = tally (v.parts + u.parts) (v.put ++ u.put) (v.taken ++ u.taken) in
      let z = tally {T = T} 0 [] [] in
      let mid = set views pass w in (
        (let s = weigh-set (λ (q : PassTally T). q.parts) views pass v w at in let t = weigh-set (λ (q : PassTally T). q.parts) mid other u z there in let p = b.0 in omega arith),
        (λ h.
            let s = weigh-set (λ (q : PassTally T). weigh h q.put) views pass v w at in
            let t = weigh-set (λ (q : PassTally T). weigh h q.put) mid other u z there in
            let s' = weigh-set (λ (q : PassTally T). weigh h q.taken) views pass v w at in
            let t' = weigh-set (λ (q : PassTally T). weigh h q.taken) mid other u z there in
            let p = b.1 h in
            omega (arith, weigh-append h v.put u.put, weigh-append h v.taken u.taken)),
        idle_set mid other z (λ _. (refl, refl)) (idle_set views pass w (λ none. absurd (omega arith)) b.2),
      )

  -- the others have no part where one has them all
  others_idle : (views : List (PassTally T)) (pass : ℕ) (v : PassTally T) → get_elem? views pass ≡ some v → weigh (λ (u : PassTally T). u.parts) views ≡ v.parts → (j : ℕ) (u : PassTally T) → j ≢ pass → get_elem? views j ≡ some u → u.parts ≡ 0
  others_idle [] pass v at all j u apart there = absurd (some-ne-none v (sym at))
  others_idle (x ∷ xs) zero v at all zero u apart there = absurd (apart refl)
  others_idle (x ∷ xs) zero v at all (suc j) u apart there =
      let e : x.parts ≡ v.parts = ap (λ (z : PassTally T). z.parts) (some-injective x v at) in
      let low : u.parts ≤ weigh (λ (u : PassTally T). u.parts) xs = weigh-at (λ (z : PassTally T). z.parts) xs j u there in omega arith
  others_idle (x ∷ xs) (suc pass) v at all zero u apart there =
      let e : x.parts ≡ u.parts = ap (λ (z : PassTally T). z.parts) (some-injective x u there) in
      let low : v.parts ≤ weigh (λ (u : PassTally T). u.parts) xs = weigh-at (λ (z : PassTally T). z.parts) xs pass v at in omega arith
  others_idle (x ∷ xs) (suc pass) v at all (suc j) u apart there =
      let low : v.parts ≤ weigh (λ (u : PassTally T). u.parts) xs = weigh-at (λ (z : PassTally T). z.parts) xs pass v at in
      others_idle xs pass v at (omega arith) j u (λ e. apart (ap suc e)) there

  pub learns : (pass : ℕ) (v : PassTally T) → Learns Balanced pass v (Knows v)
  learns pass v items views b at whole h =
      let idle = others_idle views pass v at (b.0 ∙ sym whole) in
      let put = weigh-alone (λ (u : PassTally T). weigh h u.put) views pass v at (λ j u apart there. ap (weigh h) (b.2 j u there (idle j u apart there)).0) in
      let taken = weigh-alone (λ (u : PassTally T). weigh h u.taken) views pass v at (λ j u apart there. ap (weigh h) (b.2 j u there (idle j u apart there)).1) in
      let p = b.1 h in
      sym put ∙ p ∙ ap (λ n. n + weigh h items) taken
