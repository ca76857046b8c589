-- n + 1 numbers below n are not all different.
use Prim.Native.Nat.{ℕ, zero, suc, ◌<◌, ◌≤◌}
use mathlib.Core.Path.{◌≡◌, sym, ◌∙◌}
use mathlib.Core.Logic.{◌≢◌, ite}
use mathlib.Core.Bool.{Bool}
use lib.Dec.{eqb}
use native.Mathlib.Nat.{not-suc-le-zero}
use native.Mathlib.Decide.{ℕ_discrete}
use native.Mathlib.Omega.{arith}
use Rattle.refusal.specs.parts.Found.{Finds}
use Rattle.std.specs.Prelude.{Option, Some, None as nothing}
use Rattle.winning.specs.parts.Verdict.{lowest}
use Rattle.winning.proofs.Reflect.{tests_eq}
use Rattle.winning.proofs.Search.{Below, finds_lowest}

-- f takes one value at i and j, i below j and j at most n
pub record Twice (f : ℕ → ℕ) (n : ℕ) : Type 0 where
  pub i : ℕ
  pub j : ℕ
  pub before : i < j
  pub within : j ≤ n
  pub same : f i ≡ f j

module _ (n : ℕ) (f : ℕ → ℕ) (small : (i : ℕ) → i ≤ suc n → f i < suc n) (new : (i : ℕ) → i < suc n → f i ≢ f (suc n)) where
  -- the last value takes the place of the highest, so that the last argument can be left out
  shifted : ℕ → ℕ
  shifted i = ite (ℕ_discrete (f i) n) (f (suc n)) (f i)

  shifted_small : (i : ℕ) → i ≤ n → shifted i < n
  unfolding shifted
  shifted_small i l = at (ℕ_discrete (f i) n)
    where
      at : (d : Dec (f i ≡ n)) → ite d (f (suc n)) (f i) < n
      at (yes e) = let a = small (suc n) (omega arith) in let b = new i (omega arith) in omega arith
      at (no h) = let a = small i (omega arith) in omega arith

  shifted_same : (i j : ℕ) → i ≤ n → j ≤ n → shifted i ≡ shifted j → f i ≡ f j
  unfolding shifted
  shifted_same i j k l = at (ℕ_discrete (f i) n) (ℕ_discrete (f j) n)
    where
      at : (d : Dec (f i ≡ n)) (e : Dec (f j ≡ n)) → ite d (f (suc n)) (f i) ≡ ite e (f (suc n)) (f j) → f i ≡ f j
      at (yes d) (yes e) s = d ∙ sym e
      at (yes d) (no e) s = absurd (new j (omega arith) (sym s))
      at (no d) (yes e) s = absurd (new i (omega arith) s)
      at (no d) (no e) s = s

-- the last value is taken before, or the rest with that value put in takes one twice
pub pigeonhole : (n : ℕ) (f : ℕ → ℕ) → ((i : ℕ) → i ≤ n → f i < n) → Twice f n
pigeonhole zero f small = absurd (not-suc-le-zero (small 0 (omega arith)))
pigeonhole (suc n) f small = at (lowest earlier (suc n)) (finds_lowest (λ i. f i ≡ f (suc n)) earlier (λ i. tests_eq (f i) (f (suc n))) (suc n)) (pigeonhole n)
  where
    earlier : ℕ → Bool
    earlier i = eqb (f i) (f (suc n))

    at : (r : Option ℕ) → Finds (Below (λ i. f i ≡ f (suc n)) (suc n)) r → ((f' : ℕ → ℕ) → ((i : ℕ) → i ≤ n → f' i < n) → Twice f' n) → Twice f (suc n)
    at (Some x) h fewer = record { i = x; j = suc n; before = h.holds.below; within = omega arith; same = h.holds.has }
    at nothing h fewer =
        let new : (i : ℕ) → i < suc n → f i ≢ f (suc n) = λ i l e. h i (record { below = l; has = e }) in
        let t = fewer (shifted n f small new) (shifted_small n f small new) in
        record { i = t.i; j = t.j; before = t.before; within = omega arith; same = shifted_same n f small new t.i t.j (omega arith) (omega arith) t.same }
