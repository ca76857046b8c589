-- A sum falls if one term loses more than all others together can gain.
use Prim.Native.Nat.{ℕ, zero, suc, ◌+◌, ◌*◌, ◌<◌, ◌≤◌}
use mathlib.Core.Path.{sym, subst}
use mathlib.Core.Logic.{◌≢◌}
use native.Mathlib.Decide.{ℕ_discrete}
use native.Mathlib.Nat.{suc-mul}
use native.Mathlib.Omega.{arith}
use Rattle.justification.specs.parts.Measure.{sum}

module _ (f f' : ℕ → ℕ) (k : ℕ) where
  -- each term gains at most k
  gains : (n : ℕ) → ((u : ℕ) → u < n → f' u ≤ f u + k) → sum n f' ≤ sum n f + n * k
  gains zero most = omega arith
  gains (suc n) most =
      let rest : sum n f' ≤ sum n f + n * k = gains n (λ u l. most u (omega arith)) in
      omega (arith, most n (omega arith), suc-mul n k)

  -- each term but the one at v, which loses d
  loses : (n v d : ℕ) → v < n → f' v + d ≤ f v → ((u : ℕ) → u < n → u ≢ v → f' u ≤ f u + k) → sum n f' + d ≤ sum n f + n * k
  loses zero v d l less most = omega arith
  loses (suc n) v d l less most = elim (ℕ_discrete n v) [
    | yes e ↦
        omega (arith, suc-mul n k, subst (λ u. f' u + d ≤ f u) (sym e) less, gains n (λ u l. most u (omega arith) (omega arith)))
    | no e ↦
        omega (arith, suc-mul n k, most n (omega arith) e, loses n v d (omega arith) less (λ u l. most u (omega arith)))
  ]

  pub falls : (n v d : ℕ) → v < n → n * k < d → f' v + d ≤ f v → ((u : ℕ) → u < n → u ≢ v → f' u ≤ f u + k) → sum n f' < sum n f
  falls n v d l more less most = omega (arith, loses n v d l less most)
