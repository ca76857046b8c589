-- Search below n: a number with P at which f is least, or none.
use Prim.Native.Nat.{ℕ, zero, suc, ◌<◌, ◌≤◌}
use mathlib.Core.Logic.{◌⊎◌, inl, inr}
use native.Mathlib.Decide.{dec_le}
use native.Mathlib.Nat.{not-suc-le-zero, lt-suc_self, le_refl}
use native.Mathlib.Omega.{arith}
use Rattle.justification.proofs.Cases.{widen}

module _ (P : ℕ → Type 0) (f : ℕ → ℕ) where
  -- v has P, and f is least there among the numbers below n that have P
  pub record Minimal (n v : ℕ) : Type 0 where
    pub below : v < n
    pub has : P v
    pub least : (u : ℕ) → u < n → P u → f v ≤ f u

  -- a number found, or the proof that there is none
  abbrev pub Searched : ℕ → Type 0
  Searched n = ((v : ℕ) × Minimal n v) ⊎ ((v : ℕ) → v < n → ¬ P v)

  -- one number more: the one found before stays, or the new one takes its place
  stays : {n v : ℕ} → Minimal n v → (P n → f v ≤ f n) → Minimal (suc n) v
  stays {n} {v} m h = record { below = omega (arith, m.below); has = m.has; least = widen (λ u. P u → f v ≤ f u) m.least h }

  takes : {n : ℕ} → P n → ((u : ℕ) → u < n → P u → f n ≤ f u) → Minimal (suc n) n
  takes {n} p h = record { below = lt-suc_self n; has = p; least = widen (λ u. P u → f n ≤ f u) h (λ p. le_refl (f n)) }

  next : {n : ℕ} → Dec (P n) → Searched n → Searched (suc n)
  next (no h) (inr none) = inr (widen (λ u. ¬ P u) none h)
  next (no h) (inl m) = inl (m.0, stays m.1 (λ p. absurd (h p)))
  next {n} (yes p) (inr none) = inl (n, takes p (λ u l q. absurd (none u l q)))
  next {n} (yes p) (inl m) = elim (dec_le (f m.0) (f n)) [
    | yes l ↦ inl (m.0, stays m.1 (λ p. l))
    | no h ↦ inl (n, takes p (λ u l q. omega (arith, m.1.least u l q)))
  ]

  pub search_least : (n : ℕ) → ((v : ℕ) → v < n → Dec (P v)) → Searched n
  search_least zero decided = inr (λ v l. absurd (not-suc-le-zero l))
  search_least (suc n) decided = next (decided n (lt-suc_self n)) (search_least n (λ v l. decided v (omega arith)))
