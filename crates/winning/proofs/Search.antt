-- The search below n finds the lowest number with a tested property, or shows that there is none.
use Prim.Native.Nat.{ℕ, zero, suc, ◌<◌}
use mathlib.Core.Path.{subst}
use mathlib.Core.Logic.{⊎_elim}
use mathlib.Core.Bool.{Bool}
use native.Mathlib.Nat.{not-suc-le-zero, eq-or-lt_of_le, le_of_suc-le-suc, lt-suc_self}
use native.Mathlib.Omega.{arith}
use Rattle.refusal.specs.parts.Found.{Finds}
use Rattle.std.specs.Prelude.{Option, Some, None as nothing}
use Rattle.winning.specs.parts.Verdict.{lowest, or_at, is_at}
use Rattle.winning.proofs.Reflect.{Tests, holds, fails}

-- P at a number below n
pub record Below (P : ℕ → Type 0) (n x : ℕ) : Type 0 where
  pub below : x < n
  pub has : P x

-- one number more
longer : {P : ℕ → Type 0} {n x : ℕ} → Below P n x → Below P (suc n) x
longer r = record { below = omega arith; has = r.has }

module _ (P : ℕ → Type 0) (n : ℕ) where
  shorter : {x : ℕ} → x < n → Below P (suc n) x → Below P n x
  shorter l r = record { below = l; has = r.has }

  finds_next : (f : Option ℕ) {b : Bool} → Finds (Below P n) f → Tests (P n) b → Finds (Below P (suc n)) (or_at f n b)
  finds_next (Some x) h t = record { holds = longer h.holds; lower = λ y l r. h.lower y l (shorter (omega arith) r) }
  finds_next nothing h (holds p) = record { holds = record { below = lt-suc_self n; has = p }; lower = λ y l r. h y (shorter l r) }
  finds_next nothing h (fails k) = λ y r. ⊎_elim (λ e. k (subst P e r.has)) (λ l. h y (shorter l r)) (eq-or-lt_of_le (le_of_suc-le-suc r.below))

pub finds_lowest : (P : ℕ → Type 0) (t : ℕ → Bool) → ((x : ℕ) → Tests (P x) (t x)) → (n : ℕ) → Finds (Below P n) (lowest t n)
finds_lowest P t r zero = λ x b. not-suc-le-zero b.below
finds_lowest P t r (suc n) = finds_next P n (lowest t n) (finds_lowest P t r n) (r n)

-- the same for a statement that is P at the numbers below n
pub finds_within :
    (P F : ℕ → Type 0) (t : ℕ → Bool) (n : ℕ) → ((x : ℕ) → Tests (P x) (t x)) →
    ((x : ℕ) → x < n → P x → F x) → ((x : ℕ) → F x → Below P n x) → Finds F (lowest t n)
finds_within P F t n r to from = at (lowest t n) (finds_lowest P t r n)
  where
    at : (f : Option ℕ) → Finds (Below P n) f → Finds F f
    at (Some x) h = record { holds = to x h.holds.below h.holds.has; lower = λ y l q. h.lower y l (from y q) }
    at nothing h = λ x q. h x (from x q)

-- whether there is one at all
pub tests_some : (P : ℕ → Type 0) (t : ℕ → Bool) → ((x : ℕ) → Tests (P x) (t x)) → (n : ℕ) → Tests ((x : ℕ) × Below P n x) (is_at (lowest t n))
tests_some P t r n = at (lowest t n) (finds_lowest P t r n)
  where
    at : (f : Option ℕ) → Finds (Below P n) f → Tests ((x : ℕ) × Below P n x) (is_at f)
    at (Some x) h = holds (x, h.holds)
    at nothing h = fails (λ e. h e.0 e.1)
